use Rattle.std.proofs.Common.{rules}
use Rattle.tp_pool.proofs.messages.enlarge.Goals as goal

pub returns-clause-altered : goal.returns-clause-altered
returns-clause-altered = search rules

pub returns-clause-used : goal.returns-clause-used
returns-clause-used = search rules
