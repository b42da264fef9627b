use Rattle.std.proofs.Common.{rules}
use Rattle.tp_plain.proofs.status.volume_line.Goals as goal

pub returns-in-Writable : goal.returns-in-Writable
returns-in-Writable c = search rules
