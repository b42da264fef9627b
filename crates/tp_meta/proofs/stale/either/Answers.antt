use Rattle.std.proofs.Common.{◌||◌, false, get_or, refl, arith}
use Rattle.tp_meta.proofs.Areas.{joins_all, joins_more, joins_none, joins_only}
use Rattle.tp_meta.proofs.stale.either.Goals as goal

pub loop-j-init : goal.loop-j-init
loop-j-init c = joins_none c.args.first.now c.args.second.now

pub loop-j-preserved : goal.loop-j-preserved
loop-j-preserved c =
    let first = c.args.first.now in
    let second = c.args.second.now in
    let j = c.loop-j.j in
    joins_more first second j c.loop-j.marks (get_or first j false || get_or second j false) c.loop-j.invariant c.loop-j-test.true c.told-first c.told-second refl

pub returns-clause-both : goal.returns-clause-both
returns-clause-both c = joins_all c.args.first.now c.args.second.now c.loop-j.j c.loop-j.marks c.loop-j.invariant

pub returns-clause-only : goal.returns-clause-only
returns-clause-only c = joins_only c.args.first.now c.args.second.now c.loop-j.j c.loop-j.marks c.loop-j.invariant (omega (arith, c.loop-j-test.false)) c.told-first
