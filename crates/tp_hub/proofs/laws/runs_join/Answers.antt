use Rattle.tp_model.specs.Clauses.{PoolCall}
use Rattle.tp_hub.proofs.Taking.{runs_join}
use Rattle.tp_hub.proofs.laws.runs_join.Goals as goal

pub returns : goal.returns
returns g c at between after pool mid new events more before out last a b = runs_join g.V.Volumes.view.outline (PoolCall g.V.Volumes.view) at between after pool mid new events more before out last a b
