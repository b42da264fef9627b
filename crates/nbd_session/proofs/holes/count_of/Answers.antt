use Rattle.std.proofs.Common.{sym}
use Rattle.nbd_session.proofs.Holing.{pairs_len}
use Rattle.nbd_session.proofs.holes.count_of.Goals as goal

pub returns : goal.returns
returns c = sym (pairs_len c.args.spans.now)
