use Rattle.std.proofs.Common.{◌≡◌, ◌∙◌, ap, arith}
use Rattle.tp_layout.specs.Node.{NodeValue}
use Rattle.tp_btree.specs.Trees.{last_up_to}
use Rattle.tp_btree.proofs.Leading.{same_entry}
use Rattle.tp_btree.proofs.look_up_run.turn_in.Goals as goal

pub returns-then-rank-len-clause-entry : goal.returns-then-rank-len-clause-entry
returns-then-rank-len-clause-entry c n good kinds bytes next le lt =
    let same : c.known-node.result ≡ n = c.known-node.ensures.only n good kinds bytes in
    c.last_of.ensures
    ∙ (same_entry c.args.key next c.rank-rank.result c.known-node.result.entries c.rank-rank.ensures.good.ascending c.rank-rank.ensures.within c.rank-rank.ensures.below le
    (λ l. absurd (omega (arith, l, c.if-rank-len.true, c.len.ensures.value)))
    ∙ ap (λ (y : NodeValue). last_up_to next y.entries) same)

pub returns-then-behind-until-clause-entry : goal.returns-then-behind-until-clause-entry
returns-then-behind-until-clause-entry c n good kinds bytes next le lt =
    let same : c.known-node.result ≡ n = c.known-node.ensures.only n good kinds bytes in
    c.last_of.ensures
    ∙ (same_entry c.args.key next c.rank-rank.result c.known-node.result.entries c.rank-rank.ensures.good.ascending c.rank-rank.ensures.within c.rank-rank.ensures.below le
    (λ l. omega (arith, lt, c.key-behind.ensures))
    ∙ ap (λ (y : NodeValue). last_up_to next y.entries) same)

pub returns-clause-entry : goal.returns-clause-entry
returns-clause-entry c n good kinds bytes next le lt =
    let same : c.known-node.result ≡ n = c.known-node.ensures.only n good kinds bytes in
    c.last_of.ensures
    ∙ (same_entry c.args.key next c.rank-rank.result c.known-node.result.entries c.rank-rank.ensures.good.ascending c.rank-rank.ensures.within c.rank-rank.ensures.below le
    (λ l. omega (arith, lt, c.if-behind-until.false, c.key-behind.ensures))
    ∙ ap (λ (y : NodeValue). last_up_to next y.entries) same)
