use Rattle.nbd_session.proofs.Turning.{lives_are_runs}
use Rattle.nbd_session.proofs.laws.lives_are_runs.Goals as goal

pub returns : goal.returns
returns g c =
    lives_are_runs g.V.Volumes.view g.met.V.Volumes.laws
