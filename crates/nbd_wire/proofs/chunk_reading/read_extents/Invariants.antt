use Rattle.std.proofs.Common.{◌≡◌, ◌≤◌, ◌++◌, length, take}
use Rattle.nbd_wire.specs.Contexts.{FitExtents, extents_text}
use Rattle.nbd_wire.proofs.chunk_reading.read_extents.Given as goal

-- the extents so far are at the front of `out`, and the rest of the text follows them
abbrev pub invariant-loop-rest : goal.invariant-loop-rest
invariant-loop-rest l = record {
  text_is : l.text ≡ extents_text (take l.count l.out) ++ l.rest;
  fit : FitExtents (take l.count l.out);
  len : length l.out ≡ length l.fn.out;
  inside : l.count ≤ length l.out;
}

abbrev pub decreases-loop-rest : goal.decreases-loop-rest
decreases-loop-rest l = length l.rest
