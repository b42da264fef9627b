use Rattle.nbd_wire.specs.Chunks.{hole_chunk}
use Rattle.nbd_wire.proofs.Puts.{puts_then}
use Rattle.nbd_wire.proofs.chunks.put_hole_chunk.Goals as goal

pub returns-clause-bytes : goal.returns-clause-bytes
unfolding hole_chunk
returns-clause-bytes c = puts_then _ _ _ _ _ _ _ _ (puts_then _ _ _ _ _ _ _ _ (c.put_chunk_head-after_head.ensures.bytes) c.put_u64-after_offset.ensures.bytes) c.put_u32.ensures.bytes
