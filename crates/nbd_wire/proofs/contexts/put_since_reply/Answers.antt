use Rattle.nbd_wire.proofs.Puts.{puts_since}
use Rattle.nbd_wire.proofs.contexts.put_since_reply.Goals as goal

pub returns-clause-bytes : goal.returns-clause-bytes
returns-clause-bytes c =
    puts_since _ _ _ _ _ _ _ _ _ _ c.args.option c.args.code c.args.id.now c.put_option_reply_head-data.ensures.bytes c.put_u32-name.ensures.bytes c.put_bytes-behind.ensures.bytes
    c.put_bytes.ensures.bytes
