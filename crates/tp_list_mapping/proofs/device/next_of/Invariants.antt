use Rattle.std.proofs.Common.{◌≡◌, drop}
use Rattle.tp_list_mapping.specs.List.{volumes}
use Rattle.tp_mapping.specs.Next.{first_device}
use Rattle.tp_list_mapping.proofs.device.next_of.Given as goal

abbrev pub invariant-loop-i : goal.invariant-loop-i
invariant-loop-i l = first_device l.from (volumes l.devices) ≡ first_device l.from (volumes (drop l.i l.devices))
