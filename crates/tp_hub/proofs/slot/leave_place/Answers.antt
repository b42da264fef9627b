use Rattle.std.proofs.Common.{subst, sym, ap, ◌∙◌}
use Rattle.tp_hub.specs.Places.{IsReadySlot, KeepsServing}
use Rattle.tp_hub.specs.Serving.{shown}
use Rattle.tp_hub.proofs.Placing.{put_is}
use Rattle.tp_hub.proofs.Hearing.{keeps_none}
use Rattle.tp_hub.proofs.Taking.{keeps_left, leave_none, leave_one}
use Rattle.tp_hub.proofs.slot.leave_place.Goals as goal

pub returns-in-None-clause-keeps : goal.returns-in-None-clause-keeps
returns-in-None-clause-keeps g c n =
    let view = g.V.Volumes.view in
    let none = sym c.take.ensures.value ∙ c.in-None.is in
    subst (λ s. KeepsServing view n c.args.slot.now c.args.pool.now s c.args.pool.now) none (keeps_none view n c.args.slot.now c.args.pool.now)

pub returns-in-None-clause-leaves : goal.returns-in-None-clause-leaves
returns-in-None-clause-leaves g c n at is =
    let none = sym c.take.ensures.value ∙ c.in-None.is in
    leave_none g.V.Volumes.view at _ c.args.pool.now (sym (put_is at n _ (is ∙ ap shown none)))

pub returns-in-Some-clause-keeps : goal.returns-in-Some-clause-keeps
returns-in-Some-clause-keeps g c n = keeps_left g.V.Volumes.view n c.args.slot.now c.in-Some.session c.args.pool.now c.leave.new.pool (sym c.take.ensures.value ∙ c.in-Some.is) c.leave.ensures

pub returns-in-Some-clause-leaves : goal.returns-in-Some-clause-leaves
returns-in-Some-clause-leaves g c n at is =
    let some = sym c.take.ensures.value ∙ c.in-Some.is in
    let ready = subst (λ s. IsReadySlot s (g.V.Volumes.view.outline c.args.pool.now) (g.V.Volumes.view.more c.args.pool.now)) some c.requires in
    leave_one g.V.Volumes.view n c.args.slot.now c.in-Some.session c.args.pool.now c.leave.new.pool some ready.1 c.leave.ensures at is
