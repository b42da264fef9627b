use Rattle.std.proofs.Common.{rules}
use Rattle.tp_commands.proofs.feeding.told.Goals as goal

pub returns-in-LastLost : goal.returns-in-LastLost
returns-in-LastLost c = search rules
