use Rattle.std.proofs.Common.{◌∙◌, ap, sym}
use Rattle.std.proofs.lemmas.Result.{IfErr-weaker, IfOk-weaker}
use Rattle.tp_model.specs.PoolStops.{reopened}
use Rattle.tp_meta.specs.Standing.{StandsFor, geometry_of}
use Rattle.tp_pool.specs.Shown.{shown}
use Rattle.tp_users.specs.Users.{short}
use Rattle.tp_users.proofs.Outside.{outside}
use Rattle.tp_users.proofs.out_of_room.found_read_only.Goals as goal

pub returns-in-Ok-clause-same : goal.returns-in-Ok-clause-same
returns-in-Ok-clause-same c = IfOk-weaker c.taken_back.result _ _ (λ back is. is ∙ c.in-Ok.ensures.state) c.taken_back.ensures.same

pub returns-in-Ok-clause-only : goal.returns-in-Ok-clause-only
returns-in-Ok-clause-only c = λ s kept.
    let it = (c.in-Ok.ensures.reopened kept.honest kept.settled).shows_it kept.is_pool.0 (reopened (short s)) kept.is_pool.1 kept.stands in
    IfErr-weaker c.taken_back.result _ _ (λ reason none. absurd none) (c.taken_back.ensures.only (sym (ap (λ o. o.mode) (shown geometry_of StandsFor c.in-Ok.pool (reopened (short s)) it))))

pub returns-clause-only : goal.returns-clause-only
returns-clause-only c = λ s kept. outside _ (λ no_fault some. c.in-Err.ensures.refused no_fault some kept.honest kept.is_pool.0 kept.is_pool.1.0 kept.is_pool.1.1)
