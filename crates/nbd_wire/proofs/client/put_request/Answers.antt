use Rattle.std.proofs.Common.{refl}
use Rattle.nbd_wire.proofs.Sent.{puts_request}
use Rattle.nbd_wire.proofs.client.put_request.Goals as goal

pub returns-clause-bytes : goal.returns-clause-bytes
returns-clause-bytes c = puts_request _ _ _ _ _ _ _ _ _ c.put_request_head-after_head.ensures.bytes c.put_bytes.ensures.bytes

pub returns-clause-frame : goal.returns-clause-frame
returns-clause-frame c = record { request_fits = c.put_request_head-after_head.ensures.fits; whole = c.requires.whole; short = c.requires.short; text_is = refl }
