use Rattle.std.proofs.Common.{◌++◌, sym, ap, ◌∙◌}
use Rattle.tp_hub.specs.Streams.{read_call}
use Rattle.tp_crowd.specs.Guests.{but_end, but_ends}
use Rattle.tp_crowd.proofs.Guests.{told_more}
use Rattle.tp_crowd.proofs.guest.GuestStream.receive.Goals as goal

pub invariant_of-self : goal.invariant_of-self
invariant_of-self g c =
    let old = c.args.self.now in
    let received = c.read_unless-received.result in
    record {
      told =
          told_more old.log.calls c.note.new.self.calls old.socket.log.calls c.read_unless-received.new.socket.log.calls (read_call received c.as_slice.result.now) old.told c.note.ensures
          (c.read_unless-received.ensures.told ∙ ap (λ b. but_ends old.socket.log.calls ++ but_end (read_call received b)) (sym c.as_slice.ensures.value));
    }
