use Rattle.std.proofs.Common.{length, take, ◌+◌, ◌*◌, ◌-◌, ◌<◌, ◌≤◌}
use Rattle.nbd_session.specs.Clauses.{Feeds}
use Rattle.nbd_session.specs.Session.{left_in}
use Rattle.nbd_session.proofs.feeding.feed.Given as goal

-- the piece is answered up to a place
abbrev pub invariant-loop-at : goal.invariant-loop-at
invariant-loop-at g l =
    let p = g.V.Volumes in
    record {
      in_range : l.at ≤ length l.piece;
      few : left_in l.session.phase < 4294967296;
      feeds : Feeds p.view l.fn.session l.fn.pool (take l.at l.piece) l.fn.out.items l.out.items l.session l.pool;
    }

abbrev pub decreases-loop-at : goal.decreases-loop-at
decreases-loop-at g l = (length l.piece - l.at) * 4294967296 + left_in l.session.phase
