use Rattle.std.proofs.Common.{◌≡◌, ◌≢◌, ◌-◌, ◌^◌, ℕ, List, suc, get_or, sym, ap, ◌∙◌, arith, Some}
use Rattle.tp_layout.specs.declared.entry.Entry.{Entry}
use Rattle.tp_layout.specs.Entries.{rank_of}
use Rattle.tp_layout.specs.Value.{node_value}
use Rattle.tp_layout.proofs.Ordered.{found_none_first, found_at_rank, found_none_at_rank}
use Rattle.tp_nodes.proofs.GoodNodes.{ascend_node}
use Rattle.tp_nodes.proofs.lookup.find.Goals as goal

nothing : Entry
nothing = record { key = 0; value = 0; mapped = 0; size = 0 }

pub returns-then-rank-eq0 : goal.returns-then-rank-eq0
returns-then-rank-eq0 c =
    let n = node_value c.args.node.now in
    sym (found_none_first 0 (2 ^ 64) c.args.key n.entries (ascend_node n c.requires.good) (sym c.rank-rank.ensures.value ∙ c.if-rank-eq0.true))

pub returns-then-entry-key : goal.returns-then-entry-key
unfolding nothing
returns-then-entry-key c =
    let n = node_value c.args.node.now in
    let i : ℕ = c.rank-rank.result - 1 in
    let at : rank_of c.args.key n.entries ≡ suc i = omega (arith, c.rank-rank.ensures.value, c.if-rank-eq0.false) in
    let key : (get_or n.entries i nothing).key ≡ c.args.key = ap (λ (xs : List Entry). (get_or xs i nothing).key) (sym c.deref.ensures.0) ∙ c.if-entry-key.true in
    ap (λ (xs : List Entry). Some (get_or xs i nothing)) c.deref.ensures.0 ∙ sym (found_at_rank 0 (2 ^ 64) c.args.key i nothing n.entries (ascend_node n c.requires.good) at key)

pub returns-else-entry-key : goal.returns-else-entry-key
unfolding nothing
returns-else-entry-key c =
    let n = node_value c.args.node.now in
    let i : ℕ = c.rank-rank.result - 1 in
    let at : rank_of c.args.key n.entries ≡ suc i = omega (arith, c.rank-rank.ensures.value, c.if-rank-eq0.false) in
    let other : (get_or n.entries i nothing).key ≢ c.args.key = λ same. c.if-entry-key.false (ap (λ (xs : List Entry). (get_or xs i nothing).key) c.deref.ensures.0 ∙ same) in
    sym (found_none_at_rank 0 (2 ^ 64) c.args.key i nothing n.entries (ascend_node n c.requires.good) at other)
