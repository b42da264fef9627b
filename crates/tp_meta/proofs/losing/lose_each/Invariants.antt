use Rattle.std.proofs.Common.{◌≡◌}
use Rattle.tp_meta.specs.Marking.{marked_places}
use Rattle.tp_meta.proofs.losing.lose_each.Given as goal

abbrev pub invariant-loop-i : goal.invariant-loop-i
invariant-loop-i l = l.marks ≡ marked_places l.i l.places l.fn.marks
