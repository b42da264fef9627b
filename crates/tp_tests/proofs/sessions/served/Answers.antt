use Rattle.tp_tests.proofs.Unheld.{unheld}
use Rattle.tp_tests.proofs.sessions.served.Goals as goal

pub told-requires : goal.told-requires
told-requires c = unheld c.in-Ok.pool.holders c.in-Ok.ensures.holders
