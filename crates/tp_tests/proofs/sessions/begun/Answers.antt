use Rattle.tp_tests.proofs.Unheld.{unheld}
use Rattle.tp_tests.proofs.sessions.begun.Goals as goal

pub told-requires : goal.told-requires
told-requires c = unheld c.in_ok-pool.pool.holders c.in_ok-pool.ensures
