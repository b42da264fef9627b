use Rattle.std.proofs.Common.{List, sym, subst, arith}
use Rattle.tp_layout.specs.declared.entry.Entry.{Entry}
use Rattle.tp_layout.specs.Node.{IsNode, NodeValue}
use Rattle.tp_layout.specs.Value.{node_value}
use Rattle.tp_nodes.proofs.GoodNodes.{with_entries, good_take, good_drop}
use Rattle.tp_nodes.proofs.halves.split.Goals as goal

pub returns-clause-left_good : goal.returns-clause-left_good
returns-clause-left_good c =
    let n = node_value c.args.node.now in
    subst (λ (es : List Entry). IsNode (with_entries n es)) (sym c.split_off-entries.ensures.front) (good_take n _ c.requires.good)

pub returns-clause-right_good : goal.returns-clause-right_good
returns-clause-right_good c =
    let n = node_value c.args.node.now in
    let whole : NodeValue = record { kind = n.kind; level = n.level; own = c.args.own; entries = n.entries } in
    subst (λ (es : List Entry). IsNode (with_entries whole es)) (sym c.split_off-entries.ensures.rest) (good_drop n c.args.own _ (omega arith) c.requires.good)
