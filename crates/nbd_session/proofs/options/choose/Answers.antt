use Rattle.std.proofs.Common.{rules}
use Rattle.nbd_session.proofs.options.choose.Goals as goal

pub returns-then-option-eq-OPTION_ABORT-clause-answer : goal.returns-then-option-eq-OPTION_ABORT-clause-answer
returns-then-option-eq-OPTION_ABORT-clause-answer g c = search rules
