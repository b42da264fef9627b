use Rattle.std.proofs.Common.{take}
use Rattle.nbd_session.proofs.Telling.{contexts_told}
use Rattle.nbd_session.proofs.options.put_contexts.Goals as goal

pub returns-clause-reply : goal.returns-clause-reply
returns-clause-reply c =
    contexts_told c.args.option c.args.first c.args.second c.args.since c.args.is_asked (take c.put_allocation-behind_first.result c.put_allocation-behind_first.new.out)
    (take c.put_since-behind_second.result c.put_since-behind_second.new.out) (take c.put_option_reply_head.result c.put_option_reply_head.new.out) c.put_allocation-behind_first.ensures.reply
    c.put_since-behind_second.ensures.reply c.put_option_reply_head.ensures.bytes.front
