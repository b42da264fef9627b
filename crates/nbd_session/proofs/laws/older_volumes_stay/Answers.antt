use Rattle.nbd_session.proofs.Advancing.{older_is_held}
use Rattle.nbd_session.proofs.Comparing.{held_not_deleted, held_not_grown}
use Rattle.nbd_session.proofs.laws.older_volumes_stay.Goals as goal

pub returns-clause-held : goal.returns-clause-held
returns-clause-held g c = λ phase pool ready low. older_is_held phase (g.V.Volumes.view.outline pool) (g.V.Volumes.view.more pool) ready low

pub returns-clause-deleted : goal.returns-clause-deleted
returns-clause-deleted g c = held_not_deleted

pub returns-clause-grown : goal.returns-clause-grown
returns-clause-grown g c = held_not_grown
