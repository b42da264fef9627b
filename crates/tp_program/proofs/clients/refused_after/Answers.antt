use Rattle.std.proofs.Common.{rules}
use Rattle.tp_program.proofs.clients.refused_after.Goals as goal

pub returns-then-refused-gt0 : goal.returns-then-refused-gt0
returns-then-refused-gt0 c = search rules
