use Rattle.std.proofs.Common.{rules}
use Rattle.nbd_wire.specs.Reading.{message_at, whole_len}
use Rattle.nbd_wire.proofs.reading.frame_at.Goals as goal

pub returns-in-1 : goal.returns-in-1
unfolding whole_len message_at
returns-in-1 c = search rules
