use Rattle.std.proofs.Common.{◌∙◌, ap, take}
use Rattle.std.proofs.lemmas.Option.{IfSome_then}
use Rattle.nbd_session.specs.Status.{unit_of}
use Rattle.nbd_session.proofs.Serving.{described}
use Rattle.nbd_session.proofs.status.describe_shared.Goals as goal

pub returns-clause-answer : goal.returns-clause-answer
returns-clause-answer g c =
    let pool = g.S.SharedReads.of c.args.pool.now in
    IfSome_then c.tell_slots_shared.result c.tell_slots_shared.ensures.answer (λ sent told.
    described g.V.Volumes.view c.args.manner pool pool pool c.args.volume c.unit_of-unit.result c.in-Some.from c.args.request.now c.walk_beside.new.slots.items c.deref.result.now
    (take sent c.tell_slots_shared.new.out) (c.unit_of-unit.ensures.value ∙ ap unit_of c.geometry_beside.ensures) c.in-Some.ensures.some.0 c.in-Some.ensures.some.1
    (c.walk_beside.ensures c.if-not-walk_beside.false) c.deref.ensures.0 told)
