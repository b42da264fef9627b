use Rattle.std.proofs.Common.{rules}
use Rattle.nbd_wire.proofs.reading.payload_of.Goals as goal

pub returns-else-request-eq-COMMAND_WRITE : goal.returns-else-request-eq-COMMAND_WRITE
returns-else-request-eq-COMMAND_WRITE c = search rules
