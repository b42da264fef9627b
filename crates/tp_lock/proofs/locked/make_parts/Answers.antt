use Rattle.std.proofs.Common.{refl, arith}
use Rattle.tp_lock.proofs.Locking.{not_so, parts_all, parts_done, parts_more, parts_none, parts_stop, so}
use Rattle.tp_lock.proofs.locked.make_parts.Goals as goal

pub loop-part-init : goal.loop-part-init
loop-part-init g c = parts_none g.V.Volumes.view c.args.number c.args.seen.is_at_work c.args.out.now

pub loop-part-preserved : goal.loop-part-preserved
loop-part-preserved g c =
    let made = c.ask_for-made in
    parts_more g.V.Volumes.view c.args.number c.args.seen.is_at_work c.loop-part.left.is_at_work made.result.is_at_work made.result.ran.events made.result.ran.bytes c.args.out.now c.loop-part.out made.new.out
    (so c.loop-part.left.is_at_work c.if-not-left.false) (omega (arith, c.if-made-eq0.false)) c.loop-part.invariant made.ensures.told

pub returns-then-not-left : goal.returns-then-not-left
returns-then-not-left g c =
    parts_done g.V.Volumes.view c.args.number c.args.seen.is_at_work c.loop-part.left.is_at_work c.args.out.now c.loop-part.out (not_so c.loop-part.left.is_at_work c.if-not-left.true) c.loop-part.invariant

pub returns-then-made-eq0 : goal.returns-then-made-eq0
returns-then-made-eq0 g c =
    let made = c.ask_for-made in
    parts_stop g.V.Volumes.view c.args.number c.args.seen.is_at_work c.loop-part.left.is_at_work made.result.is_at_work made.result.ran.events made.result.ran.bytes c.args.out.now c.loop-part.out made.new.out
    c.if-made-eq0.true c.loop-part.invariant made.ensures.told

pub returns-then-not-left-2 : goal.returns-then-not-left-2
returns-then-not-left-2 g c =
    parts_done g.V.Volumes.view c.args.number c.args.seen.is_at_work c.loop-part.left.is_at_work c.args.out.now c.loop-part.out (not_so c.loop-part.left.is_at_work c.if-not-left-2.true) c.loop-part.invariant

pub returns : goal.returns
returns g c =
    let last = c.ask_for in
    parts_all g.V.Volumes.view c.args.number c.args.seen.is_at_work c.loop-part.left.is_at_work last.result.is_at_work last.result.ran.events last.result.ran.bytes c.args.out.now c.loop-part.out last.new.out
    (so c.loop-part.left.is_at_work c.if-not-left-2.false) (last.ensures.made c.args.number refl refl) c.loop-part.invariant last.ensures.told
