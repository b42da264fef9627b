use Rattle.std.proofs.Common.{rules}
use Rattle.tp_program.proofs.programs.tell_status.Goals as goal

pub returns-in-Ok : goal.returns-in-Ok
returns-in-Ok g c = search rules
