use Rattle.std.proofs.Common.{rules}
use Rattle.tp_plain.proofs.requests.form_error.Goals as goal

pub returns-in_default : goal.returns-in_default
returns-in_default c = search rules
