use Rattle.std.proofs.Common.{Some, refl, subst, sym}
use Rattle.tp_hub.specs.Staged.{IsRead, Standing, standing}
use Rattle.tp_hub.proofs.Staging.{each_serves, order_before, order_few, order_made, order_pool, order_read}
use Rattle.tp_hub.proofs.staged.order_for.Goals as goal

pub returns-in-None-clause-kept : goal.returns-in-None-clause-kept
returns-in-None-clause-kept g c line reads old before =
    let view = g.V.Volumes.view in
    let of = g.V.Midway.SharedReads.of in
    let left = g.V.Midway.SharedReads.left in
    let slots = c.args.sessions.now in
    let message = c.args.message.now in
    let f = order_pool view of left c.args.place.now slots c.args.order.now message old (c.is_for.ensures.its c.if-not-is_for.false) before in
    (order_before view of left c.order_on.new.place slots message old (c.in-None.ensures.ordered old.pool f.0) f.1, refl)

pub returns-in-None-clause-read : goal.returns-in-None-clause-read
returns-in-None-clause-read g c line reads read =
    let b = c.requires.before in
    order_read g.V.Volumes.view g.V.Midway.SharedReads.of g.V.Midway.SharedReads.left c.order_on.new.place c.args.sessions.now c.args.message.now b.0 line reads (returns-in-None-clause-kept g c line reads b.0 b.1).0

pub returns-in-Some-clause-kept : goal.returns-in-Some-clause-kept
returns-in-Some-clause-kept g c line reads old before =
    let view = g.V.Volumes.view in
    let of = g.V.Midway.SharedReads.of in
    let left = g.V.Midway.SharedReads.left in
    let slots = c.args.sessions.now in
    let message = c.args.message.now in
    let b = c.requires.before in
    let f = order_pool view of left c.args.place.now slots c.args.order.now message old (c.is_for.ensures.its c.if-not-is_for.false) before in
    order_made view of left c.order_on.new.place slots (Some message) message old line c.in-Some.answer c.args.out.now c.tell_answer.new.out f.1 reads
    (each_serves view (standing of left c.args.place.now slots c.args.order.now) b.0 old b.1 before b.2) (c.in-Some.ensures.ordered old.pool f.0) c.tell_answer.ensures

pub returns-in-Some-clause-read : goal.returns-in-Some-clause-read
returns-in-Some-clause-read g c line reads read =
    let b = c.requires.before in
    let kept = returns-in-Some-clause-kept g c line reads b.0 b.1 in
    subst (λ (s : Standing _). IsRead s) (sym kept.1) tt

pub returns-in-Some-clause-few : goal.returns-in-Some-clause-few
returns-in-Some-clause-few g c old q before is =
    let view = g.V.Volumes.view in
    let of = g.V.Midway.SharedReads.of in
    let left = g.V.Midway.SharedReads.left in
    let message = c.args.message.now in
    let f = order_pool view of left c.args.place.now c.args.sessions.now c.args.order.now message old (c.is_for.ensures.its c.if-not-is_for.false) before in
    order_few view of left c.order_on.new.place message old.pool q c.in-Some.answer (c.in-Some.ensures.ordered old.pool f.0) is
