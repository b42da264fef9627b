use Rattle.tp_model.specs.Clauses.{PoolCall}
use Rattle.nbd_session.proofs.Cloning.{size_refused, size_told}
use Rattle.nbd_session.proofs.clones.take_clone.Goals as goal

pub returns-in-Ok : goal.returns-in-Ok
returns-in-Ok g c =
    let v = g.V.Volumes.view in
    size_told v.outline (PoolCall v) c.args.geometry.now c.args.id c.in-Ok.size c.args.pool.now c.size_of.new.pool c.in-Ok.ensures.told

pub returns-in-Err : goal.returns-in-Err
returns-in-Err g c =
    let v = g.V.Volumes.view in
    size_refused v.outline (PoolCall v) c.args.geometry.now c.args.id c.in-Err.refusal c.args.pool.now c.size_of.new.pool c.give_up.new.pool c.in-Err.ensures.told c.give_up.ensures
