use Rattle.std.proofs.Common.{ap, ◌∙◌}
use Rattle.tp_hub.specs.Streams.{Flushes}
use Rattle.tp_crowd.specs.Guests.{but_ends}
use Rattle.tp_crowd.proofs.Guests.{but_more, told_more}
use Rattle.tp_crowd.proofs.guest.GuestStream.flush.Goals as goal

pub invariant_of-self : goal.invariant_of-self
invariant_of-self g c =
    let old = c.args.self.now in
    let call = Flushes c.flush-done.result in
    record { told = told_more old.log.calls c.note.new.self.calls old.socket.log.calls c.flush-done.new.self.log.calls call old.told c.note.ensures (ap but_ends c.flush-done.ensures ∙ but_more old.socket.log.calls call) }
