use Rattle.std.proofs.Common.{rules}
use Rattle.tp_msg.proofs.reading.growth_of.Goals as goal

pub returns-in-Err : goal.returns-in-Err
returns-in-Err c = search rules
