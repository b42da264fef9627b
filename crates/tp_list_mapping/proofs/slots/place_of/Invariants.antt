use Rattle.std.proofs.Common.{◌≡◌, drop}
use Rattle.tp_sharing.specs.Volumes.{place_in}
use Rattle.tp_list_mapping.proofs.slots.place_of.Given as goal

abbrev pub invariant-loop-i : goal.invariant-loop-i
invariant-loop-i l = place_in l.block l.slots ≡ place_in l.block (drop l.i l.slots)
