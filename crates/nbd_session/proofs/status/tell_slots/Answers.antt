use Rattle.std.proofs.Common.{take}
use Rattle.tp_model.specs.Slots.{listed}
use Rattle.nbd_session.proofs.Serving.{compared, compare_refused, not_since}
use Rattle.nbd_session.proofs.status.tell_slots.Goals as goal

pub returns-in_default-clause-answer : goal.returns-in_default-clause-answer
returns-in_default-clause-answer g c =
    not_since g.V.Volumes.view c.args.manner c.args.pool.now c.args.unit c.args.from c.args.request.now (listed c.args.slots.now) (take c.put_allocation.result c.put_allocation.new.out)
    c.in_default.ensures.none c.put_allocation.ensures.status

pub returns-in-Ok-clause-answer : goal.returns-in-Ok-clause-answer
returns-in-Ok-clause-answer g c =
    compared g.V.Volumes.view c.args.manner c.args.pool.now c.walk.new.self c.in-Some.id c.args.unit c.args.from c.args.request.now (listed c.args.slots.now) c.walk.new.slots.items c.deref.result.now
    (take c.put_compared.result c.put_compared.new.out) c.in-Some.ensures.some.0 c.in-Some.ensures.some.1 c.in-Ok.ensures c.deref.ensures.0 c.put_compared.ensures.status

pub returns-in-Err-clause-answer : goal.returns-in-Err-clause-answer
returns-in-Err-clause-answer g c =
    compare_refused g.V.Volumes.view c.args.manner c.args.pool.now c.walk.new.self c.in-Some.id c.args.unit c.args.from c.args.request.now (listed c.args.slots.now) c.in-Err.refusal
    (take c.put_refusal_chunk.result c.put_refusal_chunk.new.out) c.in-Some.ensures.some.0 c.in-Some.ensures.some.1 c.in-Err.ensures c.put_refusal_chunk.ensures.reply
