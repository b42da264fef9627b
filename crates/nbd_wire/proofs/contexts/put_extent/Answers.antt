use Rattle.nbd_wire.specs.Contexts.{extent_text}
use Rattle.nbd_wire.proofs.Puts.{puts_then}
use Rattle.nbd_wire.proofs.contexts.put_extent.Goals as goal

pub returns-clause-bytes : goal.returns-clause-bytes
unfolding extent_text
returns-clause-bytes c = puts_then _ _ _ _ _ _ _ _ (c.put_u32-after_len.ensures.bytes) c.put_u32.ensures.bytes
