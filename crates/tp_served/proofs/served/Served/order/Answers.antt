use Rattle.tp_msg.proofs.Asking.{message_kept}
use Rattle.tp_pool.proofs.Ranges.{law_within}
use Rattle.tp_served.specs.Served.{cached, laws}
use Rattle.tp_served.proofs.served.Served.order.Goals as goal

pub returns-in-Some : goal.returns-in-Some
returns-in-Some g c = c.in-Some.ensures

-- the flush behind the change is the message
pub returns-in-None : goal.returns-in-None
returns-in-None g c =
    let M = g.M.Metadata in
    let met = g.met.M.Metadata in
    message_kept (cached M.geometry M.stands M.marks M.room M.changed) (laws M.geometry M.stands M.marks M.room M.changed met.trees (law_within met.within) met.bounded met.one)
    c.args.self.now c.change.new.self c.flush.new.self c.args.message.now c.flush.result c.in-None.ensures c.flush.ensures
