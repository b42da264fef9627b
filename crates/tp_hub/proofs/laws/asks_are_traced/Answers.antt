use Rattle.tp_hub.proofs.Tracing.{asks_go}
use Rattle.tp_hub.proofs.laws.asks_are_traced.Goals as goal

pub returns : goal.returns
returns g c a b xs asked = asks_go g.V.Volumes.view g.met.V.Volumes.laws a b xs asked
