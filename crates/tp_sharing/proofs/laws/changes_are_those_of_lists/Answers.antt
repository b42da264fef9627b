use Rattle.tp_sharing.proofs.Changed.{volumes_with_device, volumes_with_slot, volumes_without_device, volumes_without_slot}
use Rattle.tp_sharing.proofs.Changes.{device_changes, slot_changes}
use Rattle.tp_sharing.proofs.Told.{size_changes}
use Rattle.tp_sharing.proofs.laws.changes_are_those_of_lists.Goals as goal

pub returns-clause-devices : goal.returns-clause-devices
returns-clause-devices c = device_changes

pub returns-clause-slots : goal.returns-clause-slots
returns-clause-slots c = slot_changes

pub returns-clause-sizes : goal.returns-clause-sizes
returns-clause-sizes c = size_changes

pub returns-clause-with_device : goal.returns-clause-with_device
returns-clause-with_device c = volumes_with_device

pub returns-clause-without_device : goal.returns-clause-without_device
returns-clause-without_device c = volumes_without_device

pub returns-clause-with_slot : goal.returns-clause-with_slot
returns-clause-with_slot c = volumes_with_slot

pub returns-clause-without_slot : goal.returns-clause-without_slot
returns-clause-without_slot c = volumes_without_slot
