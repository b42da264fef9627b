use Rattle.std.proofs.Common.{rules, ap, sym, Err}
use Rattle.std.specs.Prelude.{Result}
use Rattle.std.proofs.lemmas.Result.{err_from_is_err_and}
use Rattle.tp_model.specs.declared.refusal.Refusal.{Refusal}
use Rattle.tp_model.specs.declared.refusal.Refusal.TheVariants.{Damaged}
use Rattle.tp_counts.specs.declared.error.StoreError.{StoreError}
use Rattle.tp_counts.specs.StoreErrors.{refusal_of}
use Rattle.tp_counts.proofs.Refusing.{damaged_so, refusal_is, refused_so}
use Rattle.tp_pool.specs.Messages.{TestedSo, old_tests}
use Rattle.tp_pool.proofs.Answering.{failure_tests_nothing}
use Rattle.tp_pool.proofs.Deleting.{failure_deletes_nothing}
use Rattle.tp_pool.proofs.Serving.{exit_is}
use Rattle.tp_pool.proofs.pool.Pool.test_old.Goals as goal

pub returns-in_err-has-clause-held : goal.returns-in_err-has-clause-held
returns-in_err-has-clause-held g c =
    let p = err_from_is_err_and c.from_residual.result c.from_residual.ensures.1 in
    rw (p.1, p.2) c.in_err-has.ensures.held

pub returns-in_err-has-clause-told : goal.returns-in_err-has-clause-told
returns-in_err-has-clause-told g c now kept st =
    let p = err_from_is_err_and c.from_residual.result c.from_residual.ensures.1 in
    let x = c.in_err-has.field-0.0 in
    exit_is (λ (r : Result (Unit {0}) Refusal). TestedSo r (old_tests c.args.id c.args.self.now.holders now)) c.from_residual.result (refusal_of x) p.0 p.1 (sym p.2)
    (failure_tests_nothing x (old_tests c.args.id c.args.self.now.holders now))

pub returns-in_err-has-clause-damaged : goal.returns-in_err-has-clause-damaged
returns-in_err-has-clause-damaged g c e now kept st =
    let p = err_from_is_err_and c.from_residual.result c.from_residual.ensures.1 in
    let x = c.in_err-has.field-0.0 in
    c.in_err-has.ensures.damaged (ap (λ (r : StoreError). Err r) (damaged_so x (refusal_is c.from_residual.result p.0 (refusal_of x) Damaged p.1 p.2 e))) now kept st

pub returns-in_err-has-clause-only : goal.returns-in_err-has-clause-only
returns-in_err-has-clause-only g c =
    let p = err_from_is_err_and c.from_residual.result c.from_residual.ensures.1 in
    rw (p.1, p.2) (failure_deletes_nothing (refusal_of c.in_err-has.field-0.0) (refused_so c.in_err-has.field-0.0))

pub returns-then-is_held-clause-told : goal.returns-then-is_held-clause-told
returns-then-is_held-clause-told g c = search rules
