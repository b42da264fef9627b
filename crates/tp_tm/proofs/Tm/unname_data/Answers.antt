use Rattle.std.proofs.Common.{rules}
use Rattle.tp_tm.proofs.Tm.unname_data.Goals as goal

pub returns-clause-fewer : goal.returns-clause-fewer
returns-clause-fewer c = search rules
