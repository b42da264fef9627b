use Rattle.std.proofs.Common.{refl}
use Rattle.nbd_wire.proofs.Sent.{puts_option}
use Rattle.nbd_wire.proofs.client.put_option.Goals as goal

pub returns-clause-bytes : goal.returns-clause-bytes
returns-clause-bytes c = puts_option _ _ _ _ _ _ _ _ _ _ c.put_option_head-after_head.ensures.bytes c.put_bytes.ensures.bytes

pub returns-clause-frame : goal.returns-clause-frame
returns-clause-frame c = record { option_fits = c.put_option_head-after_head.ensures.fits; short = c.requires.short; text_is = refl }
