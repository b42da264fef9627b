use Rattle.nbd_session.proofs.Pieces.{feeds_join}
use Rattle.nbd_session.proofs.laws.pieces_join.Goals as goal

pub returns : goal.returns
returns g c = let p = g.V.Volumes in feeds_join p.view g.met.V.Volumes.laws
