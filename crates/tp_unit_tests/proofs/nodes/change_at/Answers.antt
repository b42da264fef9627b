use Rattle.std.proofs.Common.{◌≡◌, ◌+◌, ℕ, false, Option, Some, None, refl, sym, ap, ◌∙◌}
use Rattle.std.specs.Prelude.{insert, is_some}
use Rattle.tp_layout.specs.declared.entry.Entry.{Entry}
use Rattle.tp_layout.specs.Entries.{rank_of, found}
use Rattle.tp_layout.specs.Value.{node_value}
use Rattle.tp_layout.proofs.Ordered.{insert_at_rank}
use Rattle.tp_nodes.proofs.GoodNodes.{increasing_as_with}
use Rattle.tp_unit_tests.proofs.nodes.change_at.Goals as goal

none_is : (o : Option Entry) → is_some o ≡ false → o ≡ None
none_is None h = refl
none_is (Some v) h = absurd (cc)

pub replace_at-requires-clause-ascending : goal.replace_at-requires-clause-ascending
replace_at-requires-clause-ascending c =
    let n = node_value c.args.node.now in
    let x = c.entry_for-entry.result in
    increasing_as_with n x _ c.requires c.entry_for-entry.ensures.fits.key (c.index_of-index.ensures.with x c.entry_for-entry.ensures.key)

pub insert_behind-requires-clause-ascending : goal.insert_behind-requires-clause-ascending
insert_behind-requires-clause-ascending c =
    let n = node_value c.args.node.now in
    let x = c.entry_for-entry.result in
    let none : found c.args.key n.entries ≡ None = none_is (found c.args.key n.entries) (sym (ap is_some c.find.ensures) ∙ sym c.is_some.ensures ∙ c.if-is_some.false) in
    let none_of_x : found x.key n.entries ≡ None = ap (λ (k : ℕ). found k n.entries) c.entry_for-entry.ensures.key ∙ none in
    let index : c.child_index-index.result + 1 ≡ rank_of x.key n.entries = c.child_index-index.ensures.value ∙ sym (ap (λ (k : ℕ). rank_of k n.entries) c.entry_for-entry.ensures.key) in
    increasing_as_with n x _ c.requires c.entry_for-entry.ensures.fits.key (ap (λ (k : ℕ). insert n.entries k x) index ∙ insert_at_rank x n.entries none_of_x)
