use Rattle.std.proofs.Common.{ap}
use Rattle.nbd_session.specs.Session.{own_in}
use Rattle.nbd_session.proofs.answer.let_own_go.Goals as goal

pub part_with-requires : goal.part_with-requires
part_with-requires g c = c.requires c.in-Transmission.volume (ap own_in c.in-Transmission.is)
