use Rattle.std.proofs.Common.{rules}
use Rattle.tp_check.proofs.walk.name_held.Goals as goal

pub returns-then-held_root-gt0 : goal.returns-then-held_root-gt0
returns-then-held_root-gt0 c = search rules
