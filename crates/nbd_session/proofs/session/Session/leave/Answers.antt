use Rattle.nbd_session.proofs.Advancing.{leaves}
use Rattle.nbd_session.proofs.session.Session.leave.Goals as goal

pub returns : goal.returns
returns g c = let p = g.V.Volumes in leaves p.view g.met.V.Volumes.laws c.args.self.phase c.args.pool.now c.end.new.pool (rw c.phase.ensures.phase at c.end.ensures.lets_go)
