use Rattle.std.proofs.Common.{rules}
use Rattle.tp_counts.proofs.Counts.write_area.Goals as goal

pub returns-clause-written : goal.returns-clause-written
returns-clause-written g c = search rules

pub returns-clause-any_moment : goal.returns-clause-any_moment
returns-clause-any_moment g c = search rules

pub returns-clause-outside : goal.returns-clause-outside
returns-clause-outside g c = search rules
