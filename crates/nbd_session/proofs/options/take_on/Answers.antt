use Rattle.std.proofs.Common.{rules}
use Rattle.nbd_session.proofs.options.take_on.Goals as goal

pub returns-in-Err : goal.returns-in-Err
returns-in-Err g c = search rules
