use Rattle.std.proofs.Common.{arith, refl}
use Rattle.nbd_wire.proofs.Sent.{length-info_text, puts_info}
use Rattle.nbd_wire.proofs.client.put_info_option.Goals as goal

pub returns-clause-bytes : goal.returns-clause-bytes
returns-clause-bytes c =
    puts_info _ _ _ _ _ _ _ _ _ _ _ _ _ _ _ c.args.name.now c.args.types.now refl c.put_option_head-after_head.ensures.bytes c.put_u32-after_len.ensures.bytes c.put_bytes-after_name.ensures.bytes
    c.put_u16-after_count.ensures.bytes c.put_types.ensures.bytes

pub returns-clause-frame : goal.returns-clause-frame
returns-clause-frame c = record {
  option_fits = c.put_option_head-after_head.ensures.fits;
  short = let len = length-info_text c.args.name.now c.args.types.now in omega (arith, len, c.requires.short);
  text_is = refl;
}

pub returns-clause-info : goal.returns-clause-info
returns-clause-info c = record { name_fits = omega (arith, c.requires.short); count_fits = omega (arith, c.requires.short); text_is = refl }
