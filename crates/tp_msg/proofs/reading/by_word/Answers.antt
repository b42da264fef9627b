use Rattle.std.proofs.Common.{rules}
use Rattle.tp_msg.proofs.reading.by_word.Goals as goal

pub returns-else-is_some : goal.returns-else-is_some
returns-else-is_some c = search rules
