use Rattle.std.proofs.Common.{ℕ, ◌<◌, sym, subst}
use Rattle.std.specs.Ordering.{nat_cmp}
use Rattle.std.specs.FinMap.{FinMap}
use Rattle.tp_model.specs.Pool.{hold_total}
use Rattle.tp_model.specs.Clauses.{PoolCall}
use Rattle.nbd_session.proofs.Cloning.{clone_given_up, clone_held, clone_not_made}
use Rattle.nbd_session.proofs.clones.make_clone.Goals as goal

-- a snapshot holds nothing
pub hold_clone-requires : goal.hold_clone-requires
hold_clone-requires g c = record { ready = let P : FinMap nat_cmp ℕ → Type 0 = λ m. hold_total m < 128 in subst P (sym c.snapshot.ensures.holds) c.requires.ready }

pub returns-in-Ok-hold_clone : goal.returns-in-Ok-hold_clone
returns-in-Ok-hold_clone g c =
    let v = g.V.Volumes.view in
    clone_held v.outline (PoolCall v) c.args.origin c.in-Ok.id c.in-Ok-hold_clone.size c.geometry-geometry.result c.args.pool.now c.snapshot.new.pool c.hold_clone.new.pool
    c.geometry-geometry.ensures c.in-Ok.ensures.snaps c.in-Ok-hold_clone.ensures

pub returns-in-Err-hold_clone : goal.returns-in-Err-hold_clone
returns-in-Err-hold_clone g c =
    let v = g.V.Volumes.view in
    clone_given_up v.outline (PoolCall v) c.args.origin c.in-Ok.id c.in-Err-hold_clone.field-0 c.geometry-geometry.result c.args.pool.now c.snapshot.new.pool c.hold_clone.new.pool
    c.geometry-geometry.ensures c.in-Ok.ensures.snaps c.in-Err-hold_clone.ensures

pub returns-in-Err : goal.returns-in-Err
returns-in-Err g c =
    let v = g.V.Volumes.view in
    let refused = c.in-Err.ensures.snaps in
    clone_not_made v.outline (PoolCall v) c.args.origin refused.0 c.in-Err.refusal c.args.pool.now c.snapshot.new.pool refused.1
