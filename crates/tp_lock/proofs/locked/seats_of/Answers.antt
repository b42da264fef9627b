use Rattle.std.proofs.Common.{arith}
use Rattle.tp_lock.proofs.locked.seats_of.Goals as goal

pub returns : goal.returns
returns g c = record { count = c.loop-number.invariant.count; each = λ k lt. c.loop-number.invariant.each k (omega (arith, lt, c.loop-number-test.false)) }
