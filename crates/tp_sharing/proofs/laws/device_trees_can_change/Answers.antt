use Rattle.tp_sharing.proofs.Changed.{slots_of_device}
use Rattle.tp_sharing.proofs.Later.{device_is_put, device_is_taken}
use Rattle.tp_sharing.proofs.laws.device_trees_can_change.Goals as goal

pub returns-clause-put : goal.returns-clause-put
returns-clause-put c = device_is_put

pub returns-clause-taken : goal.returns-clause-taken
returns-clause-taken c = device_is_taken

pub returns-clause-slots : goal.returns-clause-slots
returns-clause-slots c = slots_of_device
