use Rattle.std.proofs.Common.{◌≡◌}
use Rattle.std.specs.Prelude.{vec_capacity}
use Rattle.tp_list_mapping.specs.List.{IsAsRoomy, volumes}
use Rattle.tp_mapping.specs.Runs.{without_run}
use Rattle.tp_list_mapping.proofs.device.drop_slots.Given as goal

abbrev pub invariant-loop-i : goal.invariant-loop-i
invariant-loop-i l = record {
  value : volumes l.devices.items ≡ without_run l.id l.first l.i (volumes l.fn.devices.items);
  room : IsAsRoomy l.fn.devices.items l.devices.items;
  capacity : vec_capacity l.devices ≡ vec_capacity l.fn.devices;
}
