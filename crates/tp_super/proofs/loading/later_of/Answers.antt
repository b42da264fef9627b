use Rattle.std.proofs.Common.{rules}
use Rattle.tp_super.proofs.loading.later_of.Goals as goal

pub returns-then-one-other : goal.returns-then-one-other
returns-then-one-other c = search rules

pub returns-else-other-one : goal.returns-else-other-one
returns-else-other-one c = search rules
