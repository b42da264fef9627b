use Rattle.std.proofs.Common.{◌∙◌, ap, drop, take}
use Rattle.nbd_session.specs.Status.{unit_of}
use Rattle.nbd_session.proofs.Serving.{sought}
use Rattle.nbd_session.proofs.shared.seek_beside.Goals as goal

pub returns-clause-sought : goal.returns-clause-sought
returns-clause-sought g c =
    let r = c.args.request.now in
    sought g.V.Volumes.view (g.S.SharedReads.of c.args.pool.now) c.args.volume c.unit_of-unit.result c.in-Some.from r (take r.len (drop 28 c.args.out.now)) c.walk_beside.new.slots.items c.deref.result.now
    (take c.put_holes.result c.put_holes.new.out) (c.unit_of-unit.ensures.value ∙ ap unit_of c.geometry_beside.ensures) c.in-Some.ensures.some.0 c.in-Some.ensures.some.1
    (c.walk_beside.ensures c.if-not-walk_beside.false) c.deref.ensures.0 c.put_holes.ensures.holes
