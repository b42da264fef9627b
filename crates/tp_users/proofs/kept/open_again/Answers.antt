use Rattle.tp_model.specs.PoolStops.{reopened}
use Rattle.tp_users.proofs.Outside.{outside}
use Rattle.tp_users.proofs.kept.open_again.Goals as goal

pub returns-in-Ok-clause-shows : goal.returns-in-Ok-clause-shows
returns-in-Ok-clause-shows c = λ s kept. (c.in-Ok.ensures.reopened kept.honest kept.settled).shows_it kept.is_pool.0 (reopened s) kept.is_pool.1 kept.stands

pub returns-clause-only : goal.returns-clause-only
returns-clause-only c = λ s kept. outside _ (λ no_fault some. c.in-Err.ensures.refused no_fault some kept.honest kept.is_pool.0 kept.is_pool.1.0 kept.is_pool.1.1)
