use Rattle.std.proofs.Common.{sym, arith}
use Rattle.tp_layout.proofs.Ordered.{rank_of_from_bounds}
use Rattle.tp_btree.proofs.Steps.{first_entry, entry_before}
use Rattle.tp_btree.proofs.step.last_of.Goals as goal

pub returns-then-rank-eq0 : goal.returns-then-rank-eq0
returns-then-rank-eq0 c =
    sym (first_entry c.args.key c.args.node.now.entries
    (rank_of_from_bounds c.args.key 0 c.args.node.now.entries (omega arith) (λ i l. absurd (omega (arith, l))) (λ i l w. c.rank-rank.ensures.above i (omega (arith, c.if-rank-eq0.true)) w)))

pub returns : goal.returns
returns c =
    sym (entry_before c.args.key c.rank-rank.result c.args.node.now.entries c.entry.result
    (rank_of_from_bounds c.args.key c.rank-rank.result c.args.node.now.entries c.rank-rank.ensures.within c.rank-rank.ensures.below c.rank-rank.ensures.above) (omega (arith, c.if-rank-eq0.false)) c.entry.ensures)
