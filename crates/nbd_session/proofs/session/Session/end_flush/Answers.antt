use Rattle.std.proofs.Common.{ℕ, ◌<◌, take, sym, subst, arith}
use Rattle.nbd_session.specs.Buffers.{wanted_in}
use Rattle.nbd_session.proofs.Flushing.{advances_flushed, holds_some}
use Rattle.nbd_session.proofs.Stepping.{wanted_at_start}
use Rattle.nbd_session.proofs.session.Session.end_flush.Goals as goal

pub returns-then-self-gt0-clause-none_at : goal.returns-then-self-gt0-clause-none_at
returns-then-self-gt0-clause-none_at g c none b =
    let s = c.self.inside in
    holds_some c.args.self.now s.phase s.filled s.input.items c.args.piece.now c.self.view_is c.self.invariant.in_range c.if-self-gt0.true b

pub invariant_of-self : goal.invariant_of-self
invariant_of-self g c =
    let was = c.self.invariant in
    let next = c.in-Some.next in
    record {
      input_room = was.input_room;
      output_room = was.output_room;
      greeted = was.greeted;
      output_len = was.output_len;
      in_range = omega (arith, c.in-Some.ensures.filled);
      partial = subst (λ (n : ℕ). n < wanted_in next.phase (take n c.self.inside.input.items)) (sym c.in-Some.ensures.filled) (wanted_at_start next.phase);
      sound = c.in-Some.ensures.sound;
    }

pub returns-clause-steps : goal.returns-clause-steps
returns-clause-steps g c p q same ready flushed =
    let s = c.self.inside in
    let next = c.in-Some.next in
    let e = c.in-Some.ensures in
    advances_flushed g.V.Volumes.view g.met.V.Volumes.laws p q c.args.self.now s.phase next.phase s.filled next.filled s.input.items c.args.piece.now (take next.sent c.flushed.new.out) next.taken
    c.self.view_is c.if-self-gt0.false e.filled e.sound e.less e.open ready (e.steps p q same flushed)
