use Rattle.std.proofs.Common.{subst, sym}
use Rattle.std.specs.Prelude.{IfErr, Result}
use Rattle.std.proofs.lemmas.Result.{err_from_is_err_and}
use Rattle.tp_model.specs.declared.refusal.Refusal.{Refusal}
use Rattle.tp_model.specs.Disk.{DiskState}
use Rattle.tp_users.specs.Users.{IsKept, IsOutside, recovered, short}
use Rattle.tp_users.proofs.Recovering.{removal_done, removal_refused}
use Rattle.tp_users.proofs.out_of_room.short_pool_is_used_again.Goals as goal

pub returns-in_err-disk-clause-only : goal.returns-in_err-disk-clause-only
returns-in_err-disk-clause-only c = λ s kept none there.
    let p = err_from_is_err_and c.from_residual.result c.from_residual.ensures.1 in
    subst (λ (r : Result _ Refusal). IfErr r (λ reason. IsOutside reason)) (sym p.1) (subst IsOutside (sym p.2) (c.in_err-disk.ensures.only s kept))

pub returns-in_err-disk-2-clause-only : goal.returns-in_err-disk-2-clause-only
returns-in_err-disk-2-clause-only c = λ s kept none there.
    let p = err_from_is_err_and c.from_residual-in_err-disk-2.result c.from_residual-in_err-disk-2.ensures.1 in
    let same = subst (λ (d : DiskState). IsKept (short s) d) (sym c.in_ok-disk.ensures.same) kept in
    subst (λ (r : Result _ Refusal). IfErr r (λ reason. IsOutside reason)) (sym p.1) (subst IsOutside (sym p.2) (c.in_err-disk-2.ensures.only s same))

pub returns-in_err-disk-3-clause-only : goal.returns-in_err-disk-3-clause-only
returns-in_err-disk-3-clause-only c = λ s kept none there.
    let p = err_from_is_err_and c.from_residual-in_err-disk-3.result c.from_residual-in_err-disk-3.ensures.1 in
    let same = subst (λ (d : DiskState). IsKept (short s) d) (sym c.in_ok-disk.ensures.same) kept in
    let clear = c.in_ok-disk-2.ensures.kept s same in
    subst (λ (r : Result _ Refusal). IfErr r (λ reason. IsOutside reason)) (sym p.1) (subst IsOutside (sym p.2) (c.in_err-disk-3.ensures.only s clear))

pub returns-in_err-pool-clause-only : goal.returns-in_err-pool-clause-only
returns-in_err-pool-clause-only c = λ s kept none there.
    let p = err_from_is_err_and c.from_residual-in_err-pool.result c.from_residual-in_err-pool.ensures.1 in
    let same = subst (λ (d : DiskState). IsKept (short s) d) (sym c.in_ok-disk.ensures.same) kept in
    let clear = subst (λ (d : DiskState). IsKept (recovered s) d) (sym c.in_ok-disk-3.ensures.same) (c.in_ok-disk-2.ensures.kept s same) in
    subst (λ (r : Result _ Refusal). IfErr r (λ reason. IsOutside reason)) (sym p.1) (subst IsOutside (sym p.2) (c.in_err-pool.ensures.only (recovered s) clear))

pub returns-in_err-delete-clause-only : goal.returns-in_err-delete-clause-only
returns-in_err-delete-clause-only c = λ s kept none there.
    let p = err_from_is_err_and c.from_residual-in_err-delete.result c.from_residual-in_err-delete.ensures.1 in
    let same = subst (λ (d : DiskState). IsKept (short s) d) (sym c.in_ok-disk.ensures.same) kept in
    let clear = subst (λ (d : DiskState). IsKept (recovered s) d) (sym c.in_ok-disk-3.ensures.same) (c.in_ok-disk-2.ensures.kept s same) in
    let shown = c.in_ok-pool.ensures.shows (recovered s) clear in
    subst (λ (r : Result _ Refusal). IfErr r (λ reason. IsOutside reason)) (sym p.1)
    (subst IsOutside (sym p.2) (removal_refused c.in_ok-pool.pool c.delete.new.self c.args.removed c.in_err-delete.field-0.0 s shown none there c.in_err-delete.ensures.called))

pub returns-clause-removed : goal.returns-clause-removed
returns-clause-removed c = λ s kept.
    let same = subst (λ (d : DiskState). IsKept (short s) d) (sym c.in_ok-disk.ensures.same) kept in
    let clear = subst (λ (d : DiskState). IsKept (recovered s) d) (sym c.in_ok-disk-3.ensures.same) (c.in_ok-disk-2.ensures.kept s same) in
    removal_done c.in_ok-pool.pool c.delete.new.self c.args.removed s (c.in_ok-pool.ensures.shows (recovered s) clear) c.in_ok-delete.ensures.called
