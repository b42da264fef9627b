use Rattle.std.proofs.Common.{◌-◌, arith}
use Rattle.tp_layout.proofs.ViewLaws.{got, none_above, none_between}
use Rattle.tp_layout.proofs.view.NodeView.find.Goals as goal

pub returns-then-rank-eq0-clause-none : goal.returns-then-rank-eq0-clause-none
returns-then-rank-eq0-clause-none c = none_above c.args.self.now.entries c.args.key (λ i le lt. c.rank-rank.ensures.above i (omega (arith, c.if-rank-eq0.true)) lt)

pub returns-then-entry-key-clause-found : goal.returns-then-entry-key-clause-found
returns-then-entry-key-clause-found c = ((c.rank-rank.result - 1, omega (arith, c.rank-rank.ensures.within, c.if-rank-eq0.false), got c.args.self.now.entries (c.rank-rank.result - 1) c.entry-entry.result c.entry-entry.ensures), c.if-entry-key.true)

pub returns-else-entry-key-clause-none : goal.returns-else-entry-key-clause-none
returns-else-entry-key-clause-none c = none_between c.args.self.now.entries c.args.key c.rank-rank.result c.entry-entry.result c.rank-rank.ensures.good.ascending (omega (arith, c.if-rank-eq0.false)) c.rank-rank.ensures.within c.rank-rank.ensures.below c.rank-rank.ensures.above c.entry-entry.ensures c.if-entry-key.false
