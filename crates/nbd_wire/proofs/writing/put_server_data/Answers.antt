use Rattle.nbd_wire.specs.Replies.{server_data}
use Rattle.nbd_wire.proofs.Puts.{puts_then}
use Rattle.nbd_wire.proofs.writing.put_server_data.Goals as goal

pub returns-clause-bytes : goal.returns-clause-bytes
unfolding server_data
returns-clause-bytes c = puts_then _ _ _ _ _ _ _ _ (c.put_u32-after_len.ensures.bytes) c.put_bytes.ensures.bytes
