use Rattle.tp_samples.proofs.Unheld.{unheld}
use Rattle.tp_samples.proofs.served.opened_hub.Goals as goal

pub hub_of-requires : goal.hub_of-requires
hub_of-requires c = unheld c.in-Ok.pool.besides.holders c.in-Ok.ensures.holders
