use Rattle.std.proofs.Common.{List, refl, sym, subst, ◌∙◌}
use Rattle.tp_layout.specs.declared.entry.Entry.{Entry}
use Rattle.tp_layout.specs.Node.{IsNode}
use Rattle.tp_layout.specs.Entries.{found}
use Rattle.tp_layout.specs.Value.{node_value}
use Rattle.tp_nodes.proofs.GoodNodes.{with_entries, some_is, good_replace}
use Rattle.tp_nodes.proofs.change.replace.Goals as goal

pub returns-clause-good : goal.returns-clause-good
returns-clause-good c =
    let n = node_value c.args.node.now in
    let before = some_is (found c.args.entry.key n.entries) c.requires.there in
    subst (λ (es : List Entry). IsNode (with_entries n es)) (sym (c.exchange.ensures.after ∙ c.index_of-index.ensures.with c.args.entry refl))
    (good_replace n c.args.entry before.0 c.requires.good c.requires.fits before.1)
