use Rattle.std.proofs.Common.{◌∙◌, arith}
use Rattle.nbd_session.proofs.Zeros.{zero_step}
use Rattle.nbd_session.proofs.holes.bits_of.Goals as goal

pub loop-byte-preserved : goal.loop-byte-preserved
loop-byte-preserved c = c.loop-byte.invariant ∙ zero_step c.loop-byte.seen c.args.bytes.now c.loop-byte.byte-index (omega arith)
