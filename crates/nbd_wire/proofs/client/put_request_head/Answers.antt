use Rattle.nbd_wire.proofs.Puts.{puts_then}
use Rattle.nbd_wire.proofs.Sent.{puts_request_head}
use Rattle.nbd_wire.proofs.client.put_request_head.Goals as goal

pub returns-clause-bytes : goal.returns-clause-bytes
returns-clause-bytes c =
    puts_request_head _ _ _ _ _ _
    (puts_then _ _ _ _ _ _ _ _ (puts_then _ _ _ _ _ _ _ _ (puts_then _ _ _ _ _ _ _ _ (puts_then _ _ _ _ _ _ _ _ (puts_then _ _ _ _ _ _ _ _ (c.put_u32-after_magic.ensures.bytes)
    c.put_u16-after_flags.ensures.bytes) c.put_u16-after_kind.ensures.bytes) c.put_u64-after_cookie.ensures.bytes) c.put_u64-after_offset.ensures.bytes) c.put_u32.ensures.bytes)

pub returns-clause-fits : goal.returns-clause-fits
returns-clause-fits c = record {
  flags = c.put_u16-after_flags.ensures.fits;
  kind = c.put_u16-after_kind.ensures.fits;
  cookie = c.put_u64-after_cookie.ensures.fits;
  offset = c.put_u64-after_offset.ensures.fits;
  len = c.put_u32.ensures.fits;
}
