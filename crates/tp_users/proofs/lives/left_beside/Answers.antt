use Rattle.std.proofs.Common.{refl}
use Rattle.tp_users.proofs.lives.left_beside.Goals as goal

pub returns-clause-left : goal.returns-clause-left
returns-clause-left c = (refl, c.in_ok-left.ensures.stopped)
