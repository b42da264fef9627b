use Rattle.nbd_wire.specs.Chunks.{chunk_head}
use Rattle.nbd_wire.proofs.Puts.{puts_then}
use Rattle.nbd_wire.proofs.chunks.put_chunk_head.Goals as goal

pub returns-clause-bytes : goal.returns-clause-bytes
unfolding chunk_head
returns-clause-bytes c =
    puts_then _ _ _ _ _ _ _ _
    (puts_then _ _ _ _ _ _ _ _
    (puts_then _ _ _ _ _ _ _ _
    (puts_then _ _ _ _ _ _ _ _ (c.put_u32-after_magic.ensures.bytes) (rw c.done_flag.ensures at c.put_u16-after_flags.ensures.bytes))
    (rw c.code.ensures at c.put_u16-after_type.ensures.bytes))
    c.put_u64-after_cookie.ensures.bytes)
    c.put_u32.ensures.bytes
