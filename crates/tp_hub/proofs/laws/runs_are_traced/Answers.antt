use Rattle.tp_hub.proofs.Tracing.{runs_traced}
use Rattle.tp_hub.proofs.laws.runs_are_traced.Goals as goal

pub returns : goal.returns
returns g c from pool new s t at after events before out has run = runs_traced g.V.Volumes.view g.met.V.Volumes.laws from s at after pool new t events before out has run
