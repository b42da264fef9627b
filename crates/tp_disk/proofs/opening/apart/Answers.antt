use Rattle.std.proofs.Common.{rules}
use Rattle.tp_disk.proofs.opening.apart.Goals as goal

pub returns : goal.returns
returns c = search rules
