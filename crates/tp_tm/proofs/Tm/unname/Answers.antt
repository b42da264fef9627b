use Rattle.std.proofs.Common.{rules}
use Rattle.tp_tm.proofs.Tm.unname.Goals as goal

pub returns-clause-still : goal.returns-clause-still
returns-clause-still c = search rules
