use Rattle.std.proofs.Common.{rules}
use Rattle.tp_meta.proofs.whole.Meta.next_superblock.Goals as goal

pub returns-clause-value : goal.returns-clause-value
returns-clause-value c = search rules
