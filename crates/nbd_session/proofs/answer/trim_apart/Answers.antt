use Rattle.std.proofs.Common.{◌/◌, ◌∙◌, false, ap, subst, sym, take}
use Rattle.tp_model.specs.Calls.{Trim}
use Rattle.tp_model.specs.Clauses.{PoolCall}
use Rattle.nbd_wire.specs.declared.Request.{Request}
use Rattle.nbd_session.specs.declared.phase.Course.TheVariants.{Works}
use Rattle.nbd_session.specs.declared.phase.Phase.TheVariants.{Transmission}
use Rattle.nbd_session.specs.Buffers.{IsSound}
use Rattle.nbd_session.proofs.Parting.{begun_done, begun_refused, left_to_keep}
use Rattle.nbd_session.proofs.answer.trim_apart.Goals as goal

pub returns-in-Ok-clause-answer : goal.returns-in-Ok-clause-answer
returns-in-Ok-clause-answer g c =
    let v = g.V.Volumes.view in
    let r = c.args.request in
    let stands = c.at_work.ensures ∙ ap (λ (x : Request). Transmission c.args.volume c.args.size (Works c.args.manner x)) c.to_keep.ensures in
    begun_done v.outline (PoolCall v) c.args.volume c.args.size c.args.manner r c.args.pool.now c.trim.new.self (Trim c.args.volume (r.offset / 512) (r.len / 512) false) c.at_work.result c.in-Ok.ensures stands

pub returns-in-Ok-clause-sound : goal.returns-in-Ok-clause-sound
returns-in-Ok-clause-sound g c =
    let stands = c.at_work.ensures ∙ ap (λ (x : Request). Transmission c.args.volume c.args.size (Works c.args.manner x)) c.to_keep.ensures in
    subst IsSound (sym stands) (left_to_keep c.args.size c.args.request c.requires.whole c.requires.some)

pub returns-in-Err-clause-answer : goal.returns-in-Err-clause-answer
returns-in-Err-clause-answer g c =
    let v = g.V.Volumes.view in
    let r = c.args.request in
    begun_refused v.outline (PoolCall v) c.args.volume c.args.size c.args.manner r c.args.pool.now c.trim.new.self (Trim c.args.volume (r.offset / 512) (r.len / 512) false) c.in-Err.refusal (take c.put_refusal.result c.put_refusal.new.out) c.listening.result
    c.in-Err.ensures c.put_refusal.ensures.reply c.listening.ensures
