use Rattle.std.proofs.Common.{rules}
use Rattle.tp_check.proofs.walk.Walk.close.Goals as goal

pub returns : goal.returns
returns c = search rules
