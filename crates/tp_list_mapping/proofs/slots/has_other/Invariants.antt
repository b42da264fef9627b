use Rattle.std.proofs.Common.{◌≡◌, drop}
use Rattle.tp_mapping.specs.Slots.{has_other}
use Rattle.tp_list_mapping.proofs.slots.has_other.Given as goal

abbrev pub invariant-loop-i : goal.invariant-loop-i
invariant-loop-i l = has_other l.block l.place l.slots ≡ has_other l.block l.place (drop l.i l.slots)
