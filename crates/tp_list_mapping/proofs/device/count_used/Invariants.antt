use Rattle.std.proofs.Common.{◌≡◌, ◌≤◌}
use Rattle.tp_mapping.specs.List.{used_below}
use Rattle.tp_list_mapping.specs.List.{volumes}
use Rattle.tp_list_mapping.proofs.device.count_used.Given as goal

abbrev pub invariant-loop-number : goal.invariant-loop-number
invariant-loop-number l = record {
  total : l.count ≡ used_below l.number (volumes l.devices);
  bound : l.count ≤ l.number;
}
