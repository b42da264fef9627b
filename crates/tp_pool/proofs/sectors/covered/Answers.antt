use Rattle.std.proofs.Common.{rules}
use Rattle.tp_pool.proofs.sectors.covered.Goals as goal

pub returns-clause-first : goal.returns-clause-first
returns-clause-first c = search rules

pub returns-clause-blocks : goal.returns-clause-blocks
returns-clause-blocks c = search rules
