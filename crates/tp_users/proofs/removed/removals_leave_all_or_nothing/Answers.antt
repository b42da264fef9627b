use Rattle.tp_users.proofs.Removals.{all_or_nothing}
use Rattle.tp_users.proofs.removed.removals_leave_all_or_nothing.Goals as goal

pub returns : goal.returns
returns g c old new s id answer shown only called P found = all_or_nothing g.V.Volumes.view old new s id answer shown only called P found
