use Rattle.tp_model.specs.Clauses.{PoolCall}
use Rattle.nbd_session.proofs.Cloning.{gives_up}
use Rattle.nbd_session.proofs.clones.give_up.Goals as goal

pub returns : goal.returns
returns g c =
    let v = g.V.Volumes.view in
    gives_up v.outline (PoolCall v) c.args.id c.args.pool.now c.let_go.new.self c.delete.new.self c.delete.result c.let_go.ensures c.delete.ensures
