use Rattle.tp_layout.specs.Node.{IsNode}
use Rattle.tp_layout.specs.Value.{node_value}
use Rattle.tp_unit_tests.proofs.nodes.changed_often.Given as goal

abbrev pub invariant-loop-round : goal.invariant-loop-round
invariant-loop-round l = IsNode (node_value l.node)
