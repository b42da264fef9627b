use Rattle.nbd_wire.proofs.Sent.{stands}
use Rattle.nbd_wire.proofs.laws.puts_are_read.Goals as goal

pub returns : goal.returns
returns c = stands
