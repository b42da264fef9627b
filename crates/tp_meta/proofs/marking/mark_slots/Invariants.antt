use Rattle.std.proofs.Common.{◌≡◌, drop}
use Rattle.tp_meta.specs.Metadata.{marked_all}
use Rattle.tp_meta.proofs.marking.mark_slots.Given as goal

abbrev pub invariant-loop-i : goal.invariant-loop-i
invariant-loop-i l = marked_all l.slots l.fn.marks ≡ marked_all (drop l.i l.slots) l.marks
