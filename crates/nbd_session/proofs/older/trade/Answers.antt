use Rattle.nbd_session.specs.Session.{own_in}
use Rattle.nbd_session.proofs.Advancing.{older_beside, room_left}
use Rattle.nbd_session.proofs.older.trade.Goals as goal

pub let_older_go-requires : goal.let_older_go-requires
let_older_go-requires g c = λ low. older_beside (own_in c.args.next) c.args.number (g.V.Volumes.view.outline c.args.pool.now).holds c.requires low

pub hold_older-requires : goal.hold_older-requires
hold_older-requires g c = room_left g.V.Volumes.view g.met.V.Volumes.laws c.args.pool.now c.let_older_go.new.pool c.args.number c.args.next c.requires c.let_older_go.ensures
