use Rattle.std.proofs.Common.{ap, ◌∙◌}
use Rattle.tp_hub.specs.Streams.{write_call}
use Rattle.tp_crowd.specs.Guests.{but_ends}
use Rattle.tp_crowd.proofs.Guests.{but_more, told_more}
use Rattle.tp_crowd.proofs.guest.GuestStream.send.Goals as goal

pub invariant_of-self : goal.invariant_of-self
invariant_of-self g c =
    let old = c.args.self.now in
    let call = write_call c.send-put.result c.args.bytes.now in
    record { told = told_more old.log.calls c.note.new.self.calls old.socket.log.calls c.send-put.new.self.log.calls call old.told c.note.ensures (ap but_ends c.send-put.ensures.calls ∙ but_more old.socket.log.calls call) }
