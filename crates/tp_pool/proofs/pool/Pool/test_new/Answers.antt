use Rattle.std.proofs.Common.{ap, inr, not, refl, subst, sym, ◌∙◌, Err}
use Rattle.std.specs.Prelude.{Result}
use Rattle.std.proofs.lemmas.Result.{err_from_is_err_and}
use Rattle.tp_model.specs.Disk.{DiskState, after_read}
use Rattle.tp_model.specs.Refusals.{is_fault_refusal}
use Rattle.tp_model.specs.declared.refusal.Refusal.{Refusal}
use Rattle.tp_model.specs.declared.refusal.Refusal.TheVariants.{Damaged}
use Rattle.tp_counts.specs.declared.error.StoreError.{StoreError}
use Rattle.tp_counts.specs.StoreErrors.{refusal_of}
use Rattle.tp_counts.proofs.Refusing.{damaged_so, refusal_is, refused_so}
use Rattle.tp_pool.specs.Held.{Held}
use Rattle.tp_pool.specs.Messages.{TestedSo, new_tests}
use Rattle.tp_pool.proofs.Answering.{failure_tests_nothing, failure_refuses}
use Rattle.tp_pool.proofs.Serving.{exit_is}
use Rattle.tp_pool.proofs.pool.Pool.test_new.Goals as goal

pub returns-in_err-has_origin-clause-held : goal.returns-in_err-has_origin-clause-held
returns-in_err-has_origin-clause-held g c =
    let p = err_from_is_err_and c.from_residual.result c.from_residual.ensures.1 in
    rw (p.1, p.2) c.in_err-has_origin.ensures.held

pub returns-in_err-has_origin-clause-told : goal.returns-in_err-has_origin-clause-told
returns-in_err-has_origin-clause-told g c now kept st =
    let p = err_from_is_err_and c.from_residual.result c.from_residual.ensures.1 in
    let x = c.in_err-has_origin.field-0.0 in
    exit_is (λ (r : Result (Unit {0}) Refusal). TestedSo r (new_tests c.args.id c.args.origin.now now)) c.from_residual.result (refusal_of x) p.0 p.1 (sym p.2)
    (failure_tests_nothing x (new_tests c.args.id c.args.origin.now now))

pub returns-in_err-has_origin-clause-damaged : goal.returns-in_err-has_origin-clause-damaged
returns-in_err-has_origin-clause-damaged g c e now kept st =
    let p = err_from_is_err_and c.from_residual.result c.from_residual.ensures.1 in
    let x = c.in_err-has_origin.field-0.0 in
    c.in_err-has_origin.ensures.damaged (ap (λ (r : StoreError). Err r) (damaged_so x (refusal_is c.from_residual.result p.0 (refusal_of x) Damaged p.1 p.2 e))) now kept st

pub returns-in_err-has_origin-clause-only : goal.returns-in_err-has_origin-clause-only
returns-in_err-has_origin-clause-only g c =
    let p = err_from_is_err_and c.from_residual.result c.from_residual.ensures.1 in
    rw (p.1, p.2) (failure_refuses c.args.origin.now (refusal_of c.in_err-has_origin.field-0.0) (refused_so c.in_err-has_origin.field-0.0))

pub returns-then-not-branch-clause-only : goal.returns-then-not-branch-clause-only
returns-then-not-branch-clause-only g c = inr (inr (inr (inr (refl, c.in_ok-has_origin.ensures.wanted c.if-not-branch.true))))

pub returns-in_err-has-clause-held : goal.returns-in_err-has-clause-held
returns-in_err-has-clause-held g c =
    let p = err_from_is_err_and c.from_residual-in_err-has.result c.from_residual-in_err-has.ensures.1 in
    let x = c.in_err-has.field-0.0 in
    rw (p.1, p.2) (c.in_err-has.ensures.held
    ∙ ap (λ (h : Held g.row.M.Denot). record h { disk = after_read (not (is_fault_refusal (refusal_of x))) h.disk }) c.in_ok-has_origin.ensures.held)

pub returns-in_err-has-clause-told : goal.returns-in_err-has-clause-told
returns-in_err-has-clause-told g c now kept st =
    let p = err_from_is_err_and c.from_residual-in_err-has.result c.from_residual-in_err-has.ensures.1 in
    let x = c.in_err-has.field-0.0 in
    exit_is (λ (r : Result (Unit {0}) Refusal). TestedSo r (new_tests c.args.id c.args.origin.now now)) c.from_residual-in_err-has.result (refusal_of x) p.0 p.1 (sym p.2)
    (failure_tests_nothing x (new_tests c.args.id c.args.origin.now now))

pub returns-in_err-has-clause-damaged : goal.returns-in_err-has-clause-damaged
returns-in_err-has-clause-damaged g c e now kept st =
    let p = err_from_is_err_and c.from_residual-in_err-has.result c.from_residual-in_err-has.ensures.1 in
    let x = c.in_err-has.field-0.0 in
    c.in_err-has.ensures.damaged (ap (λ (r : StoreError). Err r) (damaged_so x (refusal_is c.from_residual-in_err-has.result p.0 (refusal_of x) Damaged p.1 p.2 e))) now kept
    (subst (λ (h : Held g.row.M.Denot). g.M.Metadata.stands h.metadata h.disk now kept) (sym c.in_ok-has_origin.ensures.held) st)

pub returns-in_err-has-clause-only : goal.returns-in_err-has-clause-only
returns-in_err-has-clause-only g c =
    let p = err_from_is_err_and c.from_residual-in_err-has.result c.from_residual-in_err-has.ensures.1 in
    rw (p.1, p.2) (failure_refuses c.args.origin.now (refusal_of c.in_err-has.field-0.0) (refused_so c.in_err-has.field-0.0))

pub returns-in_err-devices-clause-held : goal.returns-in_err-devices-clause-held
returns-in_err-devices-clause-held g c =
    let was : Held g.row.M.Denot = record { disk = g.D.Disk.state c.self.inside.disk; metadata = c.self.inside.metadata; holders = c.self.inside.holders.items; mode = c.self.inside.mode } in
    let p = err_from_is_err_and c.from_residual-in_err-devices.result c.from_residual-in_err-devices.ensures.1 in
    let x = c.in_err-devices.field-0.0 in
    rw (p.1, p.2) (ap (λ (d : DiskState). record was { disk = d }) c.in_err-devices.ensures.state
    ∙ ap (λ (h : Held g.row.M.Denot). record h { disk = after_read (not (is_fault_refusal (refusal_of x))) h.disk })
    (c.self.view_is ∙ c.in_ok-has.ensures.held ∙ c.in_ok-has_origin.ensures.held))

pub returns-in_err-devices-clause-told : goal.returns-in_err-devices-clause-told
returns-in_err-devices-clause-told g c now kept st =
    let p = err_from_is_err_and c.from_residual-in_err-devices.result c.from_residual-in_err-devices.ensures.1 in
    let x = c.in_err-devices.field-0.0 in
    exit_is (λ (r : Result (Unit {0}) Refusal). TestedSo r (new_tests c.args.id c.args.origin.now now)) c.from_residual-in_err-devices.result (refusal_of x) p.0 p.1 (sym p.2)
    (failure_tests_nothing x (new_tests c.args.id c.args.origin.now now))

pub returns-in_err-devices-clause-damaged : goal.returns-in_err-devices-clause-damaged
returns-in_err-devices-clause-damaged g c e now kept st =
    let p = err_from_is_err_and c.from_residual-in_err-devices.result c.from_residual-in_err-devices.ensures.1 in
    let x = c.in_err-devices.field-0.0 in
    c.in_err-devices.ensures.damaged (ap (λ (r : StoreError). Err r) (damaged_so x (refusal_is c.from_residual-in_err-devices.result p.0 (refusal_of x) Damaged p.1 p.2 e))) now kept
    (subst (λ (h : Held g.row.M.Denot). g.M.Metadata.stands h.metadata h.disk now kept) (sym (c.self.view_is ∙ c.in_ok-has.ensures.held ∙ c.in_ok-has_origin.ensures.held)) st)

pub returns-in_err-devices-clause-only : goal.returns-in_err-devices-clause-only
returns-in_err-devices-clause-only g c =
    let p = err_from_is_err_and c.from_residual-in_err-devices.result c.from_residual-in_err-devices.ensures.1 in
    rw (p.1, p.2) (failure_refuses c.args.origin.now (refusal_of c.in_err-devices.field-0.0) (refused_so c.in_err-devices.field-0.0))
