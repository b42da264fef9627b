use Rattle.tp_hub.proofs.Living.{lives_are_plain}
use Rattle.tp_hub.proofs.laws.hub_lives_are_plain.Goals as goal

pub returns : goal.returns
returns g c = lives_are_plain g.V.Volumes.view g.met.V.Volumes.laws
