use Rattle.std.proofs.Common.{◌∙◌, ap, refl, take}
use Rattle.tp_model.specs.Calls.{Refused}
use Rattle.nbd_session.specs.Status.{unit_of}
use Rattle.nbd_session.proofs.Serving.{described, walked_so}
use Rattle.nbd_session.proofs.status.describe.Goals as goal

pub returns-in-Ok-clause-answer : goal.returns-in-Ok-clause-answer
returns-in-Ok-clause-answer g c =
    described g.V.Volumes.view c.args.manner c.args.pool.now c.walk.new.self c.tell_slots.new.pool c.args.volume c.unit_of-unit.result c.in-Some.from c.args.request.now c.walk.new.slots.items c.deref.result.now
    (take c.tell_slots.result c.tell_slots.new.out) (c.unit_of-unit.ensures.value ∙ ap unit_of c.geometry.ensures) c.in-Some.ensures.some.0 c.in-Some.ensures.some.1 c.in-Ok.ensures c.deref.ensures.0
    c.tell_slots.ensures.answer

pub returns-in-Err-clause-answer : goal.returns-in-Err-clause-answer
returns-in-Err-clause-answer g c =
    walked_so g.V.Volumes.view c.args.manner c.args.pool.now c.walk.new.self c.walk.new.self c.args.volume c.unit_of-unit.result c.in-Some.from c.args.request.now (Refused c.in-Err.refusal)
    (take c.put_refusal_chunk.result c.put_refusal_chunk.new.out) (c.unit_of-unit.ensures.value ∙ ap unit_of c.geometry.ensures) c.in-Some.ensures.some.0 c.in-Some.ensures.some.1 c.in-Err.ensures
    (c.put_refusal_chunk.ensures.reply, refl)
