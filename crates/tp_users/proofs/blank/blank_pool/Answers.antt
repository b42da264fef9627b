use Rattle.std.proofs.Common.{ap, sym, subst}
use Rattle.std.specs.Prelude.{IfErr, Result}
use Rattle.std.proofs.lemmas.Result.{err_from_is_err_and}
use Rattle.tp_model.specs.declared.refusal.Refusal.{Refusal}
use Rattle.tp_model.specs.Disk.{DiskState}
use Rattle.tp_users.specs.Users.{IsOutside}
use Rattle.tp_users.proofs.Given.{blank_refused, blank_shown}
use Rattle.tp_users.proofs.blank.blank_pool.Goals as goal

pub returns-in_err-create_thin-clause-only : goal.returns-in_err-create_thin-clause-only
returns-in_err-create_thin-clause-only c =
    let p = err_from_is_err_and c.from_residual-in_err-create_thin.result c.from_residual-in_err-create_thin.ensures.1 in
    let shown = c.in-Ok-format.ensures.shows (ap (λ (d : DiskState). d.is_honest) c.in-Ok.ensures.0) in
    subst (λ (r : Result _ Refusal). IfErr r (λ reason. IsOutside reason)) (sym p.1) (subst IsOutside (sym p.2)
    (blank_refused c.in-Ok-format.pool c.create_thin.new.self c.in_ok-geometry.geometry c.args.id c.in_err-create_thin.field-0.0 c.in_ok-geometry.ensures.good shown c.in_err-create_thin.ensures.called))

pub returns-clause-shows : goal.returns-clause-shows
returns-clause-shows c =
    let shown = c.in-Ok-format.ensures.shows (ap (λ (d : DiskState). d.is_honest) c.in-Ok.ensures.0) in
    blank_shown c.in-Ok-format.pool c.create_thin.new.self c.in_ok-geometry.geometry c.args.id c.in_ok-geometry.ensures.good shown c.in_ok-create_thin.ensures.called
