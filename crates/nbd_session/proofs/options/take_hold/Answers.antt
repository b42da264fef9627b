use Rattle.std.proofs.Common.{◌≡◌, ℕ, ◌+◌, ap, ◌∙◌, arith, rules}
use Rattle.std.specs.Ordering.{nat_cmp}
use Rattle.std.specs.FinMap.{FinMap}
use Rattle.tp_model.specs.Pool.{hold_count}
use Rattle.nbd_session.proofs.Counting.{one_more}
use Rattle.nbd_session.proofs.options.take_hold.Goals as goal

pub take_on-requires : goal.take_on-requires
take_on-requires g c =
    let o = g.V.Volumes.view.outline in
    let v = c.args.volume in
    let one : hold_count (o c.hold.new.self).holds v ≡ hold_count (o c.args.pool.now).holds v + 1 = ap (λ (m : FinMap nat_cmp ℕ). hold_count m v) c.in-Ok.ensures.holds ∙ one_more (o c.args.pool.now).holds v in
    record { held = omega (arith, one) }

pub returns-in-Ok : goal.returns-in-Ok
returns-in-Ok g c = search rules
