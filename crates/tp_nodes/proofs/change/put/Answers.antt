use Rattle.std.proofs.Common.{◌≡◌, List, ℕ, sym, ap, subst, ◌∙◌}
use Rattle.std.specs.Prelude.{insert}
use Rattle.tp_layout.specs.declared.entry.Entry.{Entry}
use Rattle.tp_layout.specs.Node.{IsNode}
use Rattle.tp_layout.specs.Value.{node_value}
use Rattle.tp_layout.specs.Entries.{rank_of, found, with_entry}
use Rattle.tp_layout.proofs.Ordered.{insert_at_rank}
use Rattle.tp_nodes.proofs.GoodNodes.{with_entries, good_put}
use Rattle.tp_nodes.proofs.change.put.Goals as goal
use Rattle.std.proofs.Common.{None}

-- an entry that was put in at the rank of its key
put_in : (es new : List Entry) (i : ℕ) (x : Entry) → new ≡ insert es i x → i ≡ rank_of x.key es → found x.key es ≡ None → new ≡ with_entry x es
put_in es new i x e r none = e ∙ ap (λ (k : ℕ). insert es k x) r ∙ insert_at_rank x es none

pub returns-clause-value : goal.returns-clause-value
returns-clause-value c =
    let n = node_value c.args.node.now in
    ap (with_entries n) (put_in n.entries c.insert.new.self.items c.rank-index.result c.args.entry c.insert.ensures.items c.rank-index.ensures.value c.requires.new_key)

pub returns-clause-good : goal.returns-clause-good
returns-clause-good c =
    let n = node_value c.args.node.now in
    let items = put_in n.entries c.insert.new.self.items c.rank-index.result c.args.entry c.insert.ensures.items c.rank-index.ensures.value c.requires.new_key in
    subst (λ (es : List Entry). IsNode (with_entries n es)) (sym items) (good_put n c.args.entry c.requires.good c.requires.fits c.requires.room c.requires.new_key)
