use Rattle.std.proofs.Common.{rules}
use Rattle.tp_disk.proofs.calls.Calls.next_fails.Goals as goal

pub returns-else-self-clause-fails : goal.returns-else-self-clause-fails
returns-else-self-clause-fails c = search rules
