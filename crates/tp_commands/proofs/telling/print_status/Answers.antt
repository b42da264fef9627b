use Rattle.std.proofs.Common.{rules}
use Rattle.tp_commands.proofs.telling.print_status.Goals as goal

pub returns : goal.returns
returns g c = search rules
