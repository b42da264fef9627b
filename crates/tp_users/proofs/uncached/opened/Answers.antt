use Rattle.tp_model.specs.Disk.{seen}
use Rattle.tp_disk.specs.Memory.{mem_state}
use Rattle.tp_users.proofs.Outside.{outside}
use Rattle.tp_users.proofs.uncached.opened.Goals as goal

pub returns-in-Ok-clause-opened : goal.returns-in-Ok-clause-opened
returns-in-Ok-clause-opened c = λ honest settled. c.opened_pools_go_on.ensures (seen (mem_state c.args.disk).cells) c.in-Ok.pool (c.in-Ok.ensures.reopened honest settled) c.in-Ok.ensures.unchanged

pub returns-clause-only : goal.returns-clause-only
returns-clause-only c = λ honest is_pool. outside _ (λ no_fault some. c.in-Err.ensures.refused no_fault some honest is_pool.0 is_pool.1.0 is_pool.1.1)
