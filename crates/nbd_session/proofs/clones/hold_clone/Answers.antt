use Rattle.std.proofs.Common.{◌≡◌, ℕ, ◌+◌, ap, ◌∙◌, arith}
use Rattle.std.specs.Ordering.{nat_cmp}
use Rattle.std.specs.FinMap.{FinMap}
use Rattle.tp_model.specs.Pool.{hold_count}
use Rattle.tp_model.specs.Clauses.{PoolCall}
use Rattle.nbd_session.proofs.Cloning.{held_refused, held_told}
use Rattle.nbd_session.proofs.Counting.{one_more}
use Rattle.nbd_session.proofs.clones.hold_clone.Goals as goal

pub take_clone-requires : goal.take_clone-requires
take_clone-requires g c =
    let o = g.V.Volumes.view.outline in
    let v = c.args.id in
    let one : hold_count (o c.hold.new.self).holds v ≡ hold_count (o c.args.pool.now).holds v + 1 = ap (λ (m : FinMap nat_cmp ℕ). hold_count m v) c.in-Ok.ensures.holds ∙ one_more (o c.args.pool.now).holds v in
    record { held = omega (arith, one) }

pub returns-in-Ok : goal.returns-in-Ok
returns-in-Ok g c =
    let v = g.V.Volumes.view in
    held_told v.outline (PoolCall v) c.args.geometry.now c.args.id c.args.pool.now c.hold.new.self c.take_clone.new.pool c.take_clone.result c.in-Ok.ensures c.take_clone.ensures

pub returns-in-Err : goal.returns-in-Err
returns-in-Err g c =
    let v = g.V.Volumes.view in
    held_refused v.outline (PoolCall v) c.args.geometry.now c.args.id c.in-Err.refusal c.args.pool.now c.hold.new.self c.delete.new.self c.delete.result c.in-Err.ensures c.delete.ensures
