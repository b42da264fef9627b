use Rattle.std.proofs.Common.{rules}
use Rattle.nbd_session.proofs.options.look_up.Goals as goal

pub returns-in-Ok-Some-clause-looks : goal.returns-in-Ok-Some-clause-looks
returns-in-Ok-Some-clause-looks g c = search rules
