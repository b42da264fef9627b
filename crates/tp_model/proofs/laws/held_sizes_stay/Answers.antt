use Rattle.tp_model.proofs.HeldSizes.{Takes-keeps_sizes}
use Rattle.tp_model.proofs.laws.held_sizes_stay.Goals as goal

pub returns : goal.returns
returns c old call answer made new = Takes-keeps_sizes old call answer made new
