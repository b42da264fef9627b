use Rattle.std.proofs.Common.{rules}
use Rattle.tp_commands.proofs.scripts.is_at_bad_line.Goals as goal

pub returns-in-Ok : goal.returns-in-Ok
returns-in-Ok c = search rules
