use Rattle.std.proofs.Common.{rules}
use Rattle.nbd_session.proofs.options.put_option_reply.Goals as goal

pub returns-clause-reply : goal.returns-clause-reply
returns-clause-reply c = search rules
