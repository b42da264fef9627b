use Rattle.tp_model.proofs.Holds.{Takes-FindsHeld}
use Rattle.tp_model.proofs.laws.held_volumes_stay.Goals as goal

pub returns : goal.returns
returns c old call answer made new = Takes-FindsHeld old call answer made new
