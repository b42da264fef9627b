use Rattle.std.proofs.Common.{List, sym, subst}
use Rattle.tp_layout.specs.declared.entry.Entry.{Entry}
use Rattle.tp_layout.specs.Node.{IsNode}
use Rattle.tp_layout.specs.Value.{node_value}
use Rattle.tp_nodes.proofs.GoodNodes.{with_entries, good_remove}
use Rattle.tp_nodes.proofs.change.take_at.Goals as goal

pub returns-clause-good : goal.returns-clause-good
returns-clause-good c =
    let n = node_value c.args.node.now in
    subst (λ (es : List Entry). IsNode (with_entries n es)) (sym c.remove.ensures.items) (good_remove n c.args.index c.requires.good)
