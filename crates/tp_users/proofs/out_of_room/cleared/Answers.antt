use Rattle.std.proofs.Common.{◌∙◌, subst, sym}
use Rattle.std.specs.Prelude.{IfErr, Result}
use Rattle.std.proofs.lemmas.Result.{err_from_is_err_and}
use Rattle.tp_model.specs.declared.refusal.Refusal.{Refusal}
use Rattle.tp_model.specs.PoolStops.{reopened}
use Rattle.tp_users.specs.Users.{IsOutside, short}
use Rattle.tp_users.proofs.Outside.{outside}
use Rattle.tp_users.proofs.out_of_room.cleared.Goals as goal

pub returns-in_err-clear_needs_check-clause-only : goal.returns-in_err-clear_needs_check-clause-only
returns-in_err-clear_needs_check-clause-only c = λ s kept.
    let p = err_from_is_err_and c.from_residual.result c.from_residual.ensures.1 in
    subst (λ (r : Result _ Refusal). IfErr r (λ reason. IsOutside reason)) (sym p.1)
    (subst IsOutside (sym p.2)
    (outside _ (λ no_fault some. (c.in_err-clear_needs_check.ensures.refused no_fault some kept.honest).1 kept.is_pool.0 kept.is_pool.1.0 kept.is_pool.1.1)))

pub returns-clause-kept : goal.returns-clause-kept
returns-clause-kept c = λ s kept.
    let made = c.in_ok-clear_needs_check.ensures.cleared kept.honest kept.settled kept.is_pool.0 (reopened (short s)) kept.is_pool.1 kept.stands in
    record {
      honest = c.in_ok-clear_needs_check.ensures.same_disk.is_honest ∙ kept.honest;
      settled = c.in_ok-clear_needs_check.ensures.settled;
      is_pool = (kept.is_pool.0, made.0);
      stands = made.1;
    }
