use Rattle.std.proofs.Common.{take}
use Rattle.nbd_session.proofs.Advancing.{advances_still}
use Rattle.nbd_session.proofs.Stepping.{sound_few}
use Rattle.nbd_session.proofs.session.Session.read_shared.Goals as goal

pub returns-clause-steps : goal.returns-clause-steps
returns-clause-steps g c =
    let s = c.self.inside in
    advances_still g.V.Volumes.view g.met.V.Volumes.laws c.take_read.result c.args.self.now s.phase s.filled s.input.items (g.S.SharedReads.of c.args.pool.now) c.args.piece.now (λ n. take n c.take_read.new.out) c.self.view_is c.if-self-gt0.false (sound_few s.phase c.self.invariant.sound) c.take_read.ensures.idle c.requires.ready c.take_read.ensures.steps
