use Rattle.nbd_wire.specs.Chunks.{done_chunk}
use Rattle.nbd_wire.proofs.chunks.put_done_chunk.Goals as goal

pub returns-clause-bytes : goal.returns-clause-bytes
unfolding done_chunk
returns-clause-bytes c = c.put_chunk_head.ensures.bytes
