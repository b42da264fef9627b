use Rattle.std.proofs.Common.{◌≡◌, drop}
use Rattle.tp_mapping.specs.List.{is_used_elsewhere}
use Rattle.tp_list_mapping.specs.List.{volumes}
use Rattle.tp_list_mapping.proofs.device.is_used_elsewhere.Given as goal

abbrev pub invariant-loop-i : goal.invariant-loop-i
invariant-loop-i l = is_used_elsewhere l.id l.block l.place (volumes l.devices) ≡ is_used_elsewhere l.id l.block l.place (volumes (drop l.i l.devices))
