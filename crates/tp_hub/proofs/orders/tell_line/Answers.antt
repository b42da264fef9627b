use Rattle.std.proofs.Common.{arith, length-take}
use Rattle.tp_hub.proofs.orders.tell_line.Goals as goal

pub tell-requires-clause-bytes : goal.tell-requires-clause-bytes
tell-requires-clause-bytes c = omega (arith, c.requires.room.bytes, c.requires.fits, length-take c.args.len c.args.line.now)
