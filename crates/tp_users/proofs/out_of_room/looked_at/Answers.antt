use Rattle.std.proofs.Common.{◌∙◌}
use Rattle.std.proofs.lemmas.Result.{IfErr-weaker, IfOk-weaker}
use Rattle.tp_users.proofs.Outside.{outside}
use Rattle.tp_users.proofs.out_of_room.looked_at.Goals as goal

pub returns-in-Ok-clause-same : goal.returns-in-Ok-clause-same
returns-in-Ok-clause-same c = IfOk-weaker c.taken_back.result _ _ (λ back is. is ∙ c.in-Ok.ensures.state) c.taken_back.ensures.same

pub returns-in-Ok-clause-only : goal.returns-in-Ok-clause-only
returns-in-Ok-clause-only c = λ s kept. IfErr-weaker c.taken_back.result _ _ (λ reason none. absurd none) (c.taken_back.ensures.only c.in-Ok.ensures.mode)

pub returns-clause-only : goal.returns-clause-only
returns-clause-only c = λ s kept. outside _ (λ no_fault some. c.in-Err.ensures.refused no_fault some kept.honest kept.is_pool.0 kept.is_pool.1.0 kept.is_pool.1.1)
