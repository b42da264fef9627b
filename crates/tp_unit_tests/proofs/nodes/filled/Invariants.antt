use Rattle.std.proofs.Common.{◌≡◌}
use Rattle.tp_layout.specs.Node.{IsNode}
use Rattle.tp_layout.specs.Value.{node_value}
use Rattle.tp_unit_tests.proofs.nodes.filled.Given as goal

abbrev pub invariant-loop-i : goal.invariant-loop-i
invariant-loop-i l = record { good : IsNode (node_value l.node); kind : l.node.kind ≡ l.fn.kind; level : l.node.level ≡ l.fn.level }
