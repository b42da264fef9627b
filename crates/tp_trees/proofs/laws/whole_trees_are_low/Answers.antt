use Rattle.tp_trees.proofs.Heights.{device_low, device_many, mapping_low, mapping_many, tree_few}
use Rattle.tp_trees.proofs.laws.whole_trees_are_low.Goals as goal

pub returns-clause-mapping_many : goal.returns-clause-mapping_many
returns-clause-mapping_many c = mapping_many

pub returns-clause-device_many : goal.returns-clause-device_many
returns-clause-device_many c = device_many

pub returns-clause-few : goal.returns-clause-few
returns-clause-few c = tree_few

pub returns-clause-mapping_low : goal.returns-clause-mapping_low
returns-clause-mapping_low c = mapping_low

pub returns-clause-device_low : goal.returns-clause-device_low
returns-clause-device_low c = device_low
