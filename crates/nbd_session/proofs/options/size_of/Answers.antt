use Rattle.std.proofs.Common.{rules}
use Rattle.nbd_session.proofs.options.size_of.Goals as goal

pub returns-in-Ok-clause-told : goal.returns-in-Ok-clause-told
returns-in-Ok-clause-told g c = search rules
