use Rattle.nbd_wire.specs.Replies.{option_reply_head}
use Rattle.nbd_wire.proofs.Puts.{puts_then}
use Rattle.nbd_wire.proofs.writing.put_option_reply_head.Goals as goal

pub returns-clause-bytes : goal.returns-clause-bytes
unfolding option_reply_head
returns-clause-bytes c = puts_then _ _ _ _ _ _ _ _ (puts_then _ _ _ _ _ _ _ _ (puts_then _ _ _ _ _ _ _ _ (c.put_u64-after_magic.ensures.bytes) c.put_u32-after_option.ensures.bytes) (rw c.code.ensures at c.put_u32-after_reply.ensures.bytes)) c.put_u32.ensures.bytes
