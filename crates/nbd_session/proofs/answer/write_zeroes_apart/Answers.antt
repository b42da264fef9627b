use Rattle.std.proofs.Common.{◌/◌, ◌∙◌, Bool, false, ap, subst, sym, take}
use Rattle.tp_model.specs.Calls.{Done, Refused, WriteZeroes}
use Rattle.tp_model.specs.Clauses.{PoolCall}
use Rattle.nbd_wire.specs.declared.Request.{Request}
use Rattle.nbd_session.specs.declared.phase.Course.TheVariants.{Works}
use Rattle.nbd_session.specs.declared.phase.Phase.TheVariants.{Transmission}
use Rattle.nbd_session.specs.Buffers.{IsSound}
use Rattle.nbd_session.specs.Requests.{has_no_hole}
use Rattle.nbd_session.proofs.Parting.{begun_done, begun_refused, left_to_keep}
use Rattle.nbd_session.proofs.answer.write_zeroes_apart.Goals as goal

pub returns-in-Ok-clause-answer : goal.returns-in-Ok-clause-answer
returns-in-Ok-clause-answer g c =
    let v = g.V.Volumes.view in
    let r = c.args.request in
    let stands = c.at_work.ensures ∙ ap (λ (x : Request). Transmission c.args.volume c.args.size (Works c.args.manner x)) c.to_keep.ensures in
    let P : Bool → Type 0 = λ b. PoolCall v c.args.pool.now (WriteZeroes c.args.volume (r.offset / 512) (r.len / 512) b false) Done c.write_zeroes.new.self in
    begun_done v.outline (PoolCall v) c.args.volume c.args.size c.args.manner r c.args.pool.now c.write_zeroes.new.self (WriteZeroes c.args.volume (r.offset / 512) (r.len / 512) (has_no_hole r) false) c.at_work.result (subst P c.wants_no_hole-no_hole.ensures c.in-Ok.ensures) stands

pub returns-in-Ok-clause-sound : goal.returns-in-Ok-clause-sound
returns-in-Ok-clause-sound g c =
    let stands = c.at_work.ensures ∙ ap (λ (x : Request). Transmission c.args.volume c.args.size (Works c.args.manner x)) c.to_keep.ensures in
    subst IsSound (sym stands) (left_to_keep c.args.size c.args.request c.requires.whole c.requires.some)

pub returns-in-Err-clause-answer : goal.returns-in-Err-clause-answer
returns-in-Err-clause-answer g c =
    let v = g.V.Volumes.view in
    let r = c.args.request in
    let P : Bool → Type 0 = λ b. PoolCall v c.args.pool.now (WriteZeroes c.args.volume (r.offset / 512) (r.len / 512) b false) (Refused c.in-Err.refusal) c.write_zeroes.new.self in
    begun_refused v.outline (PoolCall v) c.args.volume c.args.size c.args.manner r c.args.pool.now c.write_zeroes.new.self (WriteZeroes c.args.volume (r.offset / 512) (r.len / 512) (has_no_hole r) false) c.in-Err.refusal (take c.put_refusal.result c.put_refusal.new.out) c.listening.result
    (subst P c.wants_no_hole-no_hole.ensures c.in-Err.ensures) c.put_refusal.ensures.reply c.listening.ensures
