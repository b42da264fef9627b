use Rattle.nbd_wire.specs.Contexts.{status_head}
use Rattle.nbd_wire.proofs.Puts.{puts_then}
use Rattle.nbd_wire.proofs.contexts.put_status_head.Goals as goal

pub returns-clause-bytes : goal.returns-clause-bytes
unfolding status_head
returns-clause-bytes c = puts_then _ _ _ _ _ _ _ _ (c.put_chunk_head-after_head.ensures.bytes) (rw c.code.ensures at c.put_u32.ensures.bytes)
