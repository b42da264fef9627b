use Rattle.std.proofs.Common.{ℕ, subst}
use Rattle.tp_model.specs.Calls.{CreateSnap, Done, Refused}
use Rattle.tp_model.specs.Clauses.{PoolCall}
use Rattle.nbd_session.proofs.clones.try_snapshot.Goals as goal

pub returns-in-Ok-clause-tries : goal.returns-in-Ok-clause-tries
returns-in-Ok-clause-tries g c =
    let P : ℕ → Type 0 = λ i. PoolCall g.V.Volumes.view c.args.pool.now (CreateSnap i c.args.origin) Done c.create_snap.new.self in
    (c.new-id.ensures, subst P c.new-id.ensures c.in-Ok.ensures)

pub returns-in-Err-clause-tries : goal.returns-in-Err-clause-tries
returns-in-Err-clause-tries g c =
    let P : ℕ → Type 0 = λ i. PoolCall g.V.Volumes.view c.args.pool.now (CreateSnap i c.args.origin) (Refused c.in-Err.refusal) c.create_snap.new.self in
    subst P c.new-id.ensures c.in-Err.ensures
