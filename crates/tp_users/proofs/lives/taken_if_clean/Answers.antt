use Rattle.std.proofs.Common.{◌⊎◌, ◌≡◌, sym, subst}
use Rattle.std.specs.Prelude.{IfErr, Result}
use Rattle.std.proofs.lemmas.Result.{err_from_is_err_and}
use Rattle.tp_check.specs.declared.error.CheckError.{CheckError}
use Rattle.tp_check.specs.declared.error.CheckError.TheVariants.{Fault, Memory}
use Rattle.tp_users.proofs.lives.taken_if_clean.Goals as goal

pub returns-in_err-check_left_under : goal.returns-in_err-check_left_under
returns-in_err-check_left_under c =
    let p = err_from_is_err_and c.from_residual.result c.from_residual.ensures.1 in
    let told = c.in_err-check_left_under.ensures.answers c.requires.honest c.requires.left in
    subst (λ (r : Result _ CheckError). IfErr r (λ e. (e ≡ Fault) ⊎ (e ≡ Memory))) (sym p.1) (subst (λ (e : CheckError). (e ≡ Fault) ⊎ (e ≡ Memory)) (sym p.2) told)
