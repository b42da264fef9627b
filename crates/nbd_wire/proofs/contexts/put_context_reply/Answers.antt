use Rattle.nbd_wire.proofs.Puts.{puts_context}
use Rattle.nbd_wire.proofs.contexts.put_context_reply.Goals as goal

pub returns-clause-bytes : goal.returns-clause-bytes
returns-clause-bytes c =
    puts_context _ _ _ _ _ _ _ _ c.args.option c.args.id c.put_option_reply_head-data.ensures.bytes c.put_u32-name.ensures.bytes c.put_bytes.ensures.bytes
