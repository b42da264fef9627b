use Rattle.nbd_session.specs.Turns.{closed}
use Rattle.tp_hub.proofs.Tracing.{hub_leave_goes}
use Rattle.tp_hub.proofs.hub.Hub.into_pool.Goals as goal

pub returns-clause-traced : goal.returns-clause-traced
returns-clause-traced g c = hub_leave_goes g.V.Volumes.view g.met.V.Volumes.laws _ c.args.self closed c.leave_all.result c.self.view_is c.leave_all.ensures.leaves
