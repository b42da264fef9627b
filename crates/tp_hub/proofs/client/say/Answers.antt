use Rattle.tp_hub.proofs.Carrying.{said_some}
use Rattle.tp_hub.proofs.client.say.Goals as goal

pub returns : goal.returns
returns g c = (c.send_all.ensures.0, c.send_all.ensures.1, said_some c.args.bytes.now c.send_all.ensures.0 c.send_all.result c.is_empty.result c.is_empty.ensures c.if-is_empty.false c.send_all.ensures.2)
