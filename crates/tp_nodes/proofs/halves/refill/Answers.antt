use Rattle.std.proofs.Common.{List, sym, subst}
use Rattle.tp_layout.specs.declared.entry.Entry.{Entry}
use Rattle.tp_layout.specs.Node.{IsNode}
use Rattle.tp_layout.specs.Value.{node_value}
use Rattle.tp_nodes.proofs.GoodNodes.{with_entries, Siblings, good_left_half, good_right_half}
use Rattle.tp_nodes.proofs.halves.refill.Goals as goal

pub returns-clause-left_good : goal.returns-clause-left_good
returns-clause-left_good c =
    let l = node_value c.args.left.now in
    let r = node_value c.args.right.now in
    let both : Siblings l r = record {
      left_good = c.requires.left_good;
      right_good = c.requires.right_good;
      kind = c.requires.kind;
      level = c.requires.level;
      ascending = c.requires.ascending;
    } in
    subst (λ (es : List Entry). IsNode (with_entries l es)) (sym c.even_out.ensures.left) (good_left_half l r both)

pub returns-clause-right_good : goal.returns-clause-right_good
returns-clause-right_good c =
    let l = node_value c.args.left.now in
    let r = node_value c.args.right.now in
    let both : Siblings l r = record {
      left_good = c.requires.left_good;
      right_good = c.requires.right_good;
      kind = c.requires.kind;
      level = c.requires.level;
      ascending = c.requires.ascending;
    } in
    subst (λ (es : List Entry). IsNode (with_entries r es)) (sym c.even_out.ensures.right) (good_right_half l r both)
