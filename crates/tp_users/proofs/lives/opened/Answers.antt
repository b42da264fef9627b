use Rattle.tp_users.proofs.Outside.{outside}
use Rattle.tp_users.proofs.lives.opened.Goals as goal

pub returns-clause-only : goal.returns-clause-only
returns-clause-only c = λ honest is_pool. outside _ (λ no_fault some. c.in-Err.ensures.refused no_fault some honest is_pool.0 is_pool.1.0 is_pool.1.1)
