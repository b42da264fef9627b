use Rattle.std.proofs.Common.{sym}
use Rattle.tp_images.proofs.memory.hand_out.Goals as goal

pub returns-in-Some : goal.returns-in-Some
returns-in-Some c = (c.in-Some.ensures.left, (c.in-Some.disk, sym c.in-Some.ensures.taken, c.renew.ensures.state))
