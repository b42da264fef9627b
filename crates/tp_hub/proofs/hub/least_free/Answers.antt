use Rattle.std.proofs.Common.{arith}
use Rattle.tp_hub.proofs.Least.{all_open, least_found, open_more}
use Rattle.tp_hub.proofs.hub.least_free.Goals as goal

pub loop-number-init : goal.loop-number-init
loop-number-init c k lt = absurd (omega (arith, lt))

pub loop-number-preserved : goal.loop-number-preserved
loop-number-preserved c = open_more c.args.sessions.now c.loop-number.number c.is_open.result c.loop-number.invariant c.is_open.ensures c.if-not-is_open.false

pub returns-then-not-is_open-clause-free : goal.returns-then-not-is_open-clause-free
returns-then-not-is_open-clause-free c = least_found c.args.sessions.now c.loop-number.number c.is_open.result c.loop-number-test.true c.loop-number.invariant c.is_open.ensures c.if-not-is_open.true

pub returns-clause-none : goal.returns-clause-none
returns-clause-none c none = all_open c.args.sessions.now c.loop-number.number (omega (arith, c.loop-number-test.false)) c.loop-number.invariant
