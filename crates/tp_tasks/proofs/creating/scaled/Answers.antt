use Rattle.std.proofs.Common.{arith, ◌*◌}
use Rattle.tp_tasks.proofs.Decimals.{not_whole, quotient, whole_units}
use Rattle.tp_tasks.proofs.creating.scaled.Goals as goal

pub returns-then-total-power-ne0 : goal.returns-then-total-power-ne0
returns-then-total-power-ne0 c = λ n is low. not_whole n c.args.power (c.args.count * c.args.unit) is c.if-total-power-ne0.true

pub returns-then-bytes : goal.returns-then-bytes
returns-then-bytes c = λ n is low. let same = quotient n c.args.power (c.args.count * c.args.unit) c.requires is in absurd (omega (arith, same, low, c.if-bytes.true))

pub returns : goal.returns
returns c = (whole_units c.args.power (c.args.count * c.args.unit) c.if-total-power-ne0.false, omega (arith, c.if-bytes.false))
