use Rattle.tp_msg.proofs.Asking.{message_kept}
use Rattle.tp_msg.proofs.managed.order.Goals as goal

pub returns-in-Some : goal.returns-in-Some
returns-in-Some g c = c.in-Some.ensures

pub returns-in-None : goal.returns-in-None
returns-in-None g c = message_kept g.V.Volumes.view g.met.V.Volumes.laws c.args.pool.now c.change.new.self c.flush.new.self c.args.message.now c.flush.result c.in-None.ensures c.flush.ensures
