use Rattle.std.proofs.Common.{◌≡◌, sym, ap, subst, ◌∙◌}
use Rattle.std.specs.Prelude.{Err, Result}
use Rattle.tp_model.specs.declared.refusal.Refusal.{Refusal}
use Rattle.tp_pool.specs.Held.{Held}
use Rattle.tp_pool.specs.Midway.{IsFlushed}
use Rattle.tp_pool.proofs.pool.Pool.go_on_flush.Goals as goal

pub returns-in-Ok : goal.returns-in-Ok
returns-in-Ok g c old is mid =
    let new = c.go_on_all.new.self.disk in
    (c.go_on_all.ensures.held ∙ ap (λ (h : Held g.row.M.Denot). record h { disk = new }) is, c.in-Ok.ensures.named old is mid)

pub returns-in-Err : goal.returns-in-Err
returns-in-Err g c old is mid =
    let M = g.M.Metadata in
    subst (λ (r : Result (Unit {0}) Refusal). IsFlushed M.geometry M.stands M.marks M.room M.changed old c.settle.new.self r) (sym c.settle.ensures.same)
    (subst (λ (h : Held g.row.M.Denot). IsFlushed M.geometry M.stands M.marks M.room M.changed old h (Err c.in-Err.reason)) (sym c.settle.ensures.err) (c.in-Err.ensures.failed old is mid))
