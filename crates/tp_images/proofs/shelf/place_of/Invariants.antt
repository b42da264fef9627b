use Rattle.tp_images.specs.Memory.{IsNotBefore}
use Rattle.tp_images.proofs.shelf.place_of.Given as goal

abbrev pub invariant-loop-i : goal.invariant-loop-i
invariant-loop-i l = IsNotBefore l.fn.name l.fn.shelf l.i
