use Rattle.tp_model.specs.Clauses.{PoolCall}
use Rattle.tp_hub.proofs.Pairing.{two_in_turn}
use Rattle.tp_hub.proofs.laws.two_are_heard_in_turn.Goals as goal

pub returns : goal.returns
returns g c one two pool new first second before out after run = two_in_turn g.V.Volumes.view.outline (PoolCall g.V.Volumes.view) one two pool new first second before out after run
