use Rattle.nbd_session.proofs.Flushing.{holds_some}
use Rattle.nbd_session.proofs.session.Session.begins_flush.Goals as goal

pub returns-then-self-gt0-clause-not_at : goal.returns-then-self-gt0-clause-not_at
returns-then-self-gt0-clause-not_at c none b =
    let s = c.self.inside in
    holds_some c.args.self.now s.phase s.filled s.input.items c.args.piece.now c.self.view_is c.self.invariant.in_range c.if-self-gt0.true b
