use Rattle.std.proofs.lemmas.Result.{IfErr-weaker, IfOk-weaker}
use Rattle.tp_model.specs.Pool.{PlainPool}
use Rattle.tp_meta.specs.Standing.{StandsFor, geometry_of}
use Rattle.tp_pool.specs.Held.{shows}
use Rattle.tp_users.proofs.Stopped.{any_ok, either_cause, error_cause, found_alone, opened_if_clean, told_outside}
use Rattle.tp_users.proofs.checked.check_then_open.Goals as goal

pub returns-in-Ok-clause-clean : goal.returns-in-Ok-clause-clean
returns-in-Ok-clause-clean g c = any_ok c.open.result (λ pool. c.in-Ok.ensures.clean)

pub returns-in-Ok-clause-shown : goal.returns-in-Ok-clause-shown
returns-in-Ok-clause-shown g c =
    IfOk-weaker c.open.result _ _ (λ pool found.
    found_alone (λ (s : PlainPool). shows geometry_of StandsFor pool s) (g.D.Disk.state c.args.disk) (g.D.Disk.state c.check.new.disk) c.clean_images_are_commits.ensures.stands
    c.images_stand_for_one_pool.ensures c.in-Ok.ensures.state c.in-Ok.ensures.clean found) c.open.ensures.found

pub returns-in-Ok-clause-opened : goal.returns-in-Ok-clause-opened
returns-in-Ok-clause-opened g c =
    IfErr-weaker c.open.result _ _ (λ back refused.
    opened_if_clean back.0 (g.D.Disk.state c.args.disk) (g.D.Disk.state c.check.new.disk) c.clean_images_are_commits.ensures.stands c.in-Ok.ensures.state refused) c.open.ensures.refused

pub returns-in-Ok-clause-cause : goal.returns-in-Ok-clause-cause
returns-in-Ok-clause-cause g c =
    either_cause _ _ c.open.result (g.D.Disk.state c.args.disk) (g.D.Disk.state c.check.new.disk) c.in-Ok.ensures.state c.open.ensures.state c.open.ensures.back

pub returns-in-Err-clause-opened : goal.returns-in-Err-clause-opened
returns-in-Err-clause-opened g c = λ honest clean. told_outside c.in-Err.error c.refusal.result c.refusal.ensures (c.in-Err.ensures.accepted honest clean)

pub returns-in-Err-clause-cause : goal.returns-in-Err-clause-cause
returns-in-Err-clause-cause g c = error_cause c.in-Err.error c.refusal.result _ _ c.refusal.ensures c.in-Err.ensures.cause
