use Rattle.std.proofs.Common.{take}
use Rattle.tp_model.specs.Slots.{listed}
use Rattle.nbd_session.proofs.Serving.{compared, not_since}
use Rattle.nbd_session.proofs.status.tell_slots_shared.Goals as goal

pub returns-in_default-clause-answer : goal.returns-in_default-clause-answer
returns-in_default-clause-answer g c =
    not_since g.V.Volumes.view c.args.manner (g.S.SharedReads.of c.args.pool.now) c.args.unit c.args.from c.args.request.now (listed c.args.slots.now)
    (take c.put_allocation.result c.put_allocation.new.out) c.in_default.ensures.none c.put_allocation.ensures.status

pub returns-clause-answer : goal.returns-clause-answer
returns-clause-answer g c =
    let pool = g.S.SharedReads.of c.args.pool.now in
    compared g.V.Volumes.view c.args.manner pool pool c.in-Some.id c.args.unit c.args.from c.args.request.now (listed c.args.slots.now) c.walk_beside.new.slots.items c.deref.result.now
    (take c.put_compared.result c.put_compared.new.out) c.in-Some.ensures.some.0 c.in-Some.ensures.some.1 (c.walk_beside.ensures c.if-not-walk_beside.false) c.deref.ensures.0 c.put_compared.ensures.status
