use Rattle.std.proofs.Common.{◌≡◌, ◌≤◌, length}
use Rattle.std.specs.Prelude.{vec_capacity}
use Rattle.tp_list_mapping.specs.List.{IsRoomy}
use Rattle.tp_list_mapping.proofs.list.all_unused.Given as goal

abbrev pub invariant-loop-number : goal.invariant-loop-number
invariant-loop-number l = record {
  sized : length l.devices.items ≡ l.number;
  capacity : l.count ≤ vec_capacity l.devices;
  room : IsRoomy l.room l.devices.items;
}
