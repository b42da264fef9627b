use Rattle.tp_hub.proofs.Living.{runs_go_on}
use Rattle.tp_hub.proofs.laws.runs_go_on.Goals as goal

pub returns : goal.returns
returns g c at after pool new xs events before out are run = runs_go_on g.V.Volumes.view g.met.V.Volumes.laws at after pool new xs events before out are run
