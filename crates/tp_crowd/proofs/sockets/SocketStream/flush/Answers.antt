use Rattle.std.proofs.Common.{sym, ap, ◌∙◌}
use Rattle.tp_lock.specs.Framing.{at_first, given_in, passed}
use Rattle.tp_crowd.proofs.Framing.{stays_flushed}
use Rattle.tp_crowd.proofs.sockets.SocketStream.flush.Goals as goal

pub invariant_of-self : goal.invariant_of-self
invariant_of-self g c =
    let old = c.args.self.now in record {
      follows = stays_flushed at_first old.frames old.log.calls old.follows c.is_ok-done.result ∙ ap (λ calls. passed at_first (given_in calls)) (sym c.note.ensures);
      beside = old.beside;
    }
