use Rattle.std.proofs.Common.{◌≡◌, ◌+◌, drop}
use Rattle.tp_list_mapping.specs.List.{device_rank, volumes}
use Rattle.tp_list_mapping.proofs.device.rank.Given as goal

abbrev pub invariant-loop-i : goal.invariant-loop-i
invariant-loop-i l = device_rank l.id (volumes l.devices) ≡ l.i + device_rank l.id (volumes (drop l.i l.devices))
