use Rattle.std.proofs.Common.{rules}
use Rattle.tp_counts.proofs.error.RefusalFromStoreError.from.Goals as goal

pub returns-in-Damaged : goal.returns-in-Damaged
returns-in-Damaged c = search rules
