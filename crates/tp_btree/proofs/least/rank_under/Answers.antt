use Rattle.std.proofs.Common.{arith}
use Rattle.tp_btree.proofs.least.rank_under.Goals as goal

pub returns-clause-under : goal.returns-clause-under
returns-clause-under c i lt = omega (arith, c.rank.ensures.below i lt, c.if-from-eq0.false)

pub returns-clause-others : goal.returns-clause-others
returns-clause-others c i le lt = omega (arith, c.rank.ensures.above i le lt, c.if-from-eq0.false)
