use Rattle.std.proofs.Common.{◌≡◌, IfSome, subst, sym, ap, ◌∙◌}
use Rattle.tp_lock.specs.Framing.{at_first, given_in, passed}
use Rattle.tp_crowd.proofs.Framing.{followed}
use Rattle.tp_crowd.proofs.sockets.SocketStream.receive.Goals as goal

pub invariant_of-self : goal.invariant_of-self
invariant_of-self g c =
    let old = c.args.self.now in record {
      follows =
          followed at_first old.frames old.log.calls old.follows c.read-received.new.frames c.read-received.result c.read-received.new.buffer.items c.as_slice.result.now c.read-received.ensures.follows c.as_slice.ensures.value
          ∙ ap (λ calls. passed at_first (given_in calls)) (sym c.note.ensures);
      beside = subst (λ frames. IfSome c.start.new.self.under_way (λ f. f.handle.promise.frames ≡ frames)) c.copy-frames.ensures c.start.ensures;
    }

pub invariant_of-self-else-is_long : goal.invariant_of-self-else-is_long
invariant_of-self-else-is_long g c =
    let old = c.args.self.now in record {
      follows =
          followed at_first old.frames old.log.calls old.follows c.read-received.new.frames c.read-received.result c.read-received.new.buffer.items c.as_slice.result.now c.read-received.ensures.follows c.as_slice.ensures.value
          ∙ ap (λ calls. passed at_first (given_in calls)) (sym c.note.ensures);
      beside = subst (λ u. IfSome u (λ f. f.handle.promise.frames ≡ c.read-received.new.frames)) (sym c.read-received.ensures.over) tt;
    }
