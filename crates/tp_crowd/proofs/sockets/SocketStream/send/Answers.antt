use Rattle.std.proofs.Common.{sym, ap, ◌∙◌}
use Rattle.tp_lock.specs.Framing.{at_first, given_in, passed}
use Rattle.tp_crowd.proofs.Framing.{stays_written}
use Rattle.tp_crowd.proofs.sockets.SocketStream.send.Goals as goal

pub invariant_of-self : goal.invariant_of-self
invariant_of-self g c =
    let old = c.args.self.now in record {
      follows = stays_written at_first old.frames old.log.calls old.follows c.write_some-put.result c.args.bytes.now ∙ ap (λ calls. passed at_first (given_in calls)) (sym c.note.ensures);
      beside = old.beside;
    }
