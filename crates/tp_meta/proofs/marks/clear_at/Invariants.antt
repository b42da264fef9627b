use Rattle.std.proofs.Common.{◌≡◌, drop}
use Rattle.tp_meta.specs.Marking.{cleared}
use Rattle.tp_meta.proofs.marks.clear_at.Given as goal

abbrev pub invariant-loop-i : goal.invariant-loop-i
invariant-loop-i l = cleared l.marks.items (drop l.i l.places) ≡ cleared l.fn.marks.items l.places
