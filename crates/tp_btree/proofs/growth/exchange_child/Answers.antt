use Rattle.std.proofs.Common.{ap, get_or}
use Rattle.tp_layout.specs.Value.{node_value}
use Rattle.tp_trees.specs.Tree.{blank}
use Rattle.tp_trees.specs.Growth.{branch}
use Rattle.tp_btree.proofs.Grafting.{exchanged_ascends}
use Rattle.tp_btree.proofs.growth.exchange_child.Goals as goal

pub replace_at-requires-clause-ascending : goal.replace_at-requires-clause-ascending
replace_at-requires-clause-ascending c =
    exchanged_ascends (node_value c.args.node.now) c.args.i (branch (get_or c.deref.result.now c.args.i blank).key c.args.child) c.requires.good c.requires.within (ap (λ xs. (get_or xs c.args.i blank).key) c.deref.ensures.0)
