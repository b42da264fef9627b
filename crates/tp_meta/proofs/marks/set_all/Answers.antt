use Rattle.std.proofs.Common.{rules}
use Rattle.tp_meta.proofs.marks.set_all.Goals as goal

pub returns : goal.returns
returns c = search rules
