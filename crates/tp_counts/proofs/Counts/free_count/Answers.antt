use Rattle.std.proofs.Common.{rules}
use Rattle.tp_counts.proofs.Counts.free_count.Goals as goal

pub returns : goal.returns
returns c = search rules
