use Rattle.std.proofs.Common.{◌≡◌, ◌+◌, ◌≤◌, ◌++◌, drop, length, take}
use Rattle.nbd_session.specs.Holes.{contents_len, contents_text}
use Rattle.nbd_session.specs.Spans.{as_pairs}
use Rattle.nbd_session.specs.Status.{bytes_of}
use Rattle.nbd_session.proofs.holes.put_contents.Given as goal

-- what was put and what is left are the whole, and what is left stands behind what was put
abbrev pub invariant-loop-span : goal.invariant-loop-span
invariant-loop-span l = record {
  whole : take l.at l.out ++ contents_text l.cookie l.here (as_pairs (drop l.span-index l.spans)) (drop l.from l.out) ≡ contents_text l.cookie l.offset (as_pairs l.spans) (drop l.place l.fn.out);
  room : l.at + (contents_len (as_pairs (drop l.span-index l.spans)) + 4) ≤ l.place;
  all : l.from + bytes_of (as_pairs (drop l.span-index l.spans)) ≡ length l.fn.out;
  behind : l.place ≤ l.from;
  here : l.here + l.place ≡ l.offset + l.from;
  left : l.left + l.span-index ≡ length l.spans;
  len : length l.out ≡ length l.fn.out;
  inside : l.span-index ≤ length l.spans;
}
