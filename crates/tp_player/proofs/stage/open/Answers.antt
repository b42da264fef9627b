use Rattle.tp_player.proofs.Unheld.{unheld}
use Rattle.tp_player.proofs.stage.open.Goals as goal

pub idle_stage-requires : goal.idle_stage-requires
idle_stage-requires c = unheld c.in-Ok.pool.besides.holders c.in-Ok.ensures.holders
