use Rattle.std.proofs.Common.{◌≡◌, ◌+◌, ◌*◌, ◌≤◌, drop, length}
use Rattle.nbd_session.specs.Holes.{contents_len}
use Rattle.nbd_session.specs.Spans.{as_pairs}
use Rattle.nbd_session.proofs.holes.contents_len.Given as goal

-- what was counted and what is left are the whole
abbrev pub invariant-loop-span : goal.invariant-loop-span
invariant-loop-span l = record {
  whole : l.sum + contents_len (as_pairs (drop l.span-index l.spans)) ≡ contents_len (as_pairs l.spans);
  most : l.sum ≤ 4294967323 * l.span-index;
  inside : l.span-index ≤ length l.spans;
}
