use Rattle.std.proofs.Common.{rules}
use Rattle.tp_blocks.proofs.Blocks.read.Goals as goal

pub returns-clause-bytes : goal.returns-clause-bytes
returns-clause-bytes g c = search rules
