use Rattle.std.proofs.Common.{rules}
use Rattle.tp_tm.proofs.Tm.raise.Goals as goal

pub returns-clause-recounted : goal.returns-clause-recounted
returns-clause-recounted c = search rules
