use Rattle.std.proofs.Common.{◌+◌, arith}
use Rattle.tp_msg.proofs.Numbers.{begun_large, digit_least, number_more}
use Rattle.tp_msg.proofs.numeral.number_of.Goals as goal

pub with_digit-requires : goal.with_digit-requires
with_digit-requires c = digit_least c.args.digits.now c.loop-digit.digit-index c.requires c.loop-digit-test.true

pub returns-in-None : goal.returns-in-None
returns-in-None c =
    let i = c.loop-digit.digit-index in
    let more = number_more c.args.digits.now i c.loop-digit-test.true in
    let so_far = c.loop-digit.invariant.value in
    let large = c.in-None.ensures in
    begun_large c.args.digits.now (i + 1) (omega arith)

pub loop-digit-preserved : goal.loop-digit-preserved
loop-digit-preserved c =
    let i = c.loop-digit.digit-index in
    let more = number_more c.args.digits.now i c.loop-digit-test.true in
    let so_far = c.loop-digit.invariant.value in
    let is = c.in-Some.ensures in
    record { value = omega arith }
