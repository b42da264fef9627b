use Rattle.std.proofs.Common.{◌≡◌, ◌≤◌}
use Rattle.tp_list_mapping.specs.List.{free_below, volumes}
use Rattle.tp_list_mapping.proofs.device.count_free.Given as goal

abbrev pub invariant-loop-number : goal.invariant-loop-number
invariant-loop-number l = record {
  total : l.count ≡ free_below l.number (volumes l.devices) l.marks;
  bound : l.count ≤ l.number;
}
