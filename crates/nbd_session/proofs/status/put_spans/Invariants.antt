use Rattle.std.proofs.Common.{◌≡◌, ◌+◌, ◌*◌, ◌≤◌, ◌++◌, drop, length, take}
use Rattle.nbd_wire.specs.Contexts.{extents_text, status_chunk}
use Rattle.nbd_session.specs.Spans.{as_pairs}
use Rattle.nbd_session.proofs.status.put_spans.Given as goal

-- what was put and what is left are the whole
abbrev pub invariant-loop-span : goal.invariant-loop-span
invariant-loop-span l = record {
  whole : take l.at l.out ++ extents_text (as_pairs (drop l.span-index l.spans)) ≡ take l.fn.start l.fn.out ++ status_chunk l.fn.part.is_last l.fn.part.context l.cookie (as_pairs l.spans);
  at_is : l.at ≡ l.fn.start + (24 + 8 * l.span-index);
  len : length l.out ≡ length l.fn.out;
  inside : l.span-index ≤ length l.spans;
}
