use Rattle.std.proofs.Common.{◌≡◌, ◌≢◌, ◌<◌, ℕ, drop, get_or}
use Rattle.tp_list_mapping.specs.declared.device.Device.{Device}
use Rattle.tp_sharing.specs.Volumes.{device_of}
use Rattle.tp_list_mapping.specs.List.{volumes}
use Rattle.tp_list_mapping.proofs.device.find.Given as goal

abbrev pub invariant-loop-i : goal.invariant-loop-i
invariant-loop-i l = record {
  rest : device_of l.id (volumes l.devices) ≡ device_of l.id (volumes (drop l.i l.devices));
  before : (d : Device) (j : ℕ) → j < l.i → (get_or l.devices j d).id ≢ l.id;
}
