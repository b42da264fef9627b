use Rattle.tp_trees.proofs.Sizes.{few_device_nodes, few_mapping_nodes}
use Rattle.tp_trees.proofs.laws.whole_trees_have_few_nodes.Goals as goal

pub returns-clause-mapping : goal.returns-clause-mapping
returns-clause-mapping c = few_mapping_nodes

pub returns-clause-device : goal.returns-clause-device
returns-clause-device c = few_device_nodes
