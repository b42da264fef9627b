use Rattle.std.proofs.Common.{rules}
use Rattle.nbd_session.proofs.listing.list.Goals as goal

pub returns-then-len-gt0-clause-answer : goal.returns-then-len-gt0-clause-answer
returns-then-len-gt0-clause-answer g c = search rules
