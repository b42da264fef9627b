use Rattle.std.proofs.Common.{rules}
use Rattle.tp_msg.proofs.numeral.begins_as_number.Goals as goal

pub returns : goal.returns
returns c = search rules
