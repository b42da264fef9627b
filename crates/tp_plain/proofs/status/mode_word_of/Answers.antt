use Rattle.std.proofs.Common.{rules}
use Rattle.tp_plain.proofs.status.mode_word_of.Goals as goal

pub returns-in-Writable : goal.returns-in-Writable
returns-in-Writable c = search rules

pub returns-in-Writable-2 : goal.returns-in-Writable-2
returns-in-Writable-2 c = search rules
