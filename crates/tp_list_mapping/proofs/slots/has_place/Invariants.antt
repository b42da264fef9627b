use Rattle.std.proofs.Common.{◌≡◌, drop}
use Rattle.tp_mapping.specs.Slots.{has_place}
use Rattle.tp_list_mapping.proofs.slots.has_place.Given as goal

abbrev pub invariant-loop-i : goal.invariant-loop-i
invariant-loop-i l = has_place l.place l.slots ≡ has_place l.place (drop l.i l.slots)
