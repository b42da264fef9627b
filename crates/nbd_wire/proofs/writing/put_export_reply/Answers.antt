use Rattle.nbd_wire.proofs.Puts.{puts_padded, puts_then, puts_unpadded}
use Rattle.nbd_wire.proofs.writing.put_export_reply.Goals as goal

pub returns-then-no_zeroes-clause-bytes : goal.returns-then-no_zeroes-clause-bytes
returns-then-no_zeroes-clause-bytes c =
    puts_unpadded _ _ _ _ _ _ c.args.no_zeroes c.if-no_zeroes.true (puts_then _ _ _ _ _ _ _ _ (c.put_u64-after_size.ensures.bytes) c.put_u16-after_flags.ensures.bytes)

pub returns-clause-bytes : goal.returns-clause-bytes
returns-clause-bytes c =
    puts_padded _ _ _ _ _ _ c.args.no_zeroes c.if-no_zeroes.false
    (puts_then _ _ _ _ _ _ _ _ (puts_then _ _ _ _ _ _ _ _ (c.put_u64-after_size.ensures.bytes) c.put_u16-after_flags.ensures.bytes) c.put_bytes.ensures.bytes)
