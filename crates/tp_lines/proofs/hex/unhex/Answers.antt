use Rattle.std.proofs.Common.{◌+◌, ◌*◌, ◌∙◌, arith, length-set}
use Rattle.tp_lines.proofs.Digits.{hex_at, put_byte}
use Rattle.tp_lines.proofs.hex.unhex.Goals as goal

pub hex_value-requires : goal.hex_value-requires
hex_value-requires c = hex_at c.args.digits.now (2 * c.loop-i.i) c.requires.digits (omega (arith, c.loop-i-test.true))

pub hex_value-requires-in-loop-i : goal.hex_value-requires-in-loop-i
hex_value-requires-in-loop-i c = hex_at c.args.digits.now (2 * c.loop-i.i + 1) c.requires.digits (omega (arith, c.loop-i-test.true))

pub loop-i-preserved : goal.loop-i-preserved
loop-i-preserved c = record {
  bytes = put_byte c.loop-i.out c.args.digits.now _ c.loop-i.i _ (omega (arith, c.loop-i-test.true, c.requires.fits, c.loop-i.invariant.len)) (omega (arith, c.loop-i-test.true))
      (omega (arith, c.hex_value.ensures.value, c.hex_value-in-loop-i.ensures.value)) c.loop-i.invariant.bytes;
  len = length-set c.loop-i.out c.loop-i.i _ ∙ c.loop-i.invariant.len;
}
