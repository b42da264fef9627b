use Rattle.tp_sharing.proofs.Sizes.{nodes_are_few}
use Rattle.tp_sharing.proofs.Use.{use_by_devices}
use Rattle.tp_sharing.proofs.laws.trees_use_few_blocks.Goals as goal

pub returns-clause-few : goal.returns-clause-few
returns-clause-few c = nodes_are_few

pub returns-clause-by_devices : goal.returns-clause-by_devices
returns-clause-by_devices c = use_by_devices
