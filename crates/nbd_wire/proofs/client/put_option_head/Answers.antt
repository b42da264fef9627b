use Rattle.nbd_wire.proofs.Puts.{puts_then}
use Rattle.nbd_wire.proofs.Sent.{puts_option_head}
use Rattle.nbd_wire.proofs.client.put_option_head.Goals as goal

pub returns-clause-bytes : goal.returns-clause-bytes
returns-clause-bytes c =
    puts_option_head _ _ _ _ _ _ _ (puts_then _ _ _ _ _ _ _ _ (puts_then _ _ _ _ _ _ _ _ (c.put_u64-after_magic.ensures.bytes) c.put_u32-after_option.ensures.bytes) c.put_u32.ensures.bytes)
