use Rattle.std.proofs.Common.{rules}
use Rattle.nbd_session.proofs.options.export.Goals as goal

pub returns-in-Ok-true-clause-answer : goal.returns-in-Ok-true-clause-answer
returns-in-Ok-true-clause-answer g c = search rules
