use Rattle.std.proofs.Common.{◌≡◌, sym, subst}
use Rattle.std.specs.Prelude.{Err, Result}
use Rattle.tp_model.specs.declared.refusal.Refusal.{Refusal}
use Rattle.tp_pool.specs.Held.{Held}
use Rattle.tp_pool.specs.Midway.{IsFlushed}
use Rattle.tp_pool.proofs.pool.Pool.begin_or_fail.Goals as goal

pub returns-then-is_midway : goal.returns-then-is_midway
returns-then-is_midway g c = (c.begin_all.ensures.held, c.in-Ok.ensures.begun c.if-is_midway.true)

pub returns-else-is_midway : goal.returns-else-is_midway
returns-else-is_midway g c =
    let M = g.M.Metadata in
    subst (λ (h : Held g.row.M.Denot). IsFlushed M.geometry M.stands M.marks M.room M.changed h c.flush.new.self c.flush.result) (c.in-Ok.ensures.none c.if-is_midway.false) c.flush.ensures

pub returns-in-Err : goal.returns-in-Err
returns-in-Err g c =
    let M = g.M.Metadata in
    let old = c.args.self.now in
    subst (λ (r : Result (Unit {0}) Refusal). IsFlushed M.geometry M.stands M.marks M.room M.changed old c.settle.new.self r) (sym c.settle.ensures.same)
    (subst (λ (h : Held g.row.M.Denot). IsFlushed M.geometry M.stands M.marks M.room M.changed old h (Err c.in-Err.reason)) (sym c.settle.ensures.err) c.in-Err.ensures.failed)
