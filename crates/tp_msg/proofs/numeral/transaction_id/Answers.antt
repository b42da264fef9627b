use Rattle.std.proofs.Common.{rules}
use Rattle.tp_msg.proofs.numeral.transaction_id.Goals as goal

pub returns-in-None : goal.returns-in-None
returns-in-None c = search rules
