use Rattle.tp_model.specs.Clauses.{PoolCall}
use Rattle.tp_hub.proofs.Taking.{served_turns}
use Rattle.tp_hub.proofs.laws.runs_are_turns.Goals as goal

pub returns : goal.returns
returns g c at after pool new events before out run = served_turns g.V.Volumes.view.outline (PoolCall g.V.Volumes.view) at pool run.served run.are
