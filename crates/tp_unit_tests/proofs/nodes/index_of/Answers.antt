use Rattle.tp_layout.specs.Value.{node_value}
use Rattle.tp_nodes.proofs.GoodNodes.{at_index_of}
use Rattle.tp_unit_tests.proofs.nodes.index_of.Goals as goal

pub overflow_sub-result : goal.overflow_sub-result
overflow_sub-result c = (at_index_of (node_value c.args.node.now) c.args.key c.rank.result c.requires.good c.requires.there c.rank.ensures.value).0

pub returns-clause-with : goal.returns-clause-with
returns-clause-with c = (at_index_of (node_value c.args.node.now) c.args.key c.rank.result c.requires.good c.requires.there c.rank.ensures.value).1.with
