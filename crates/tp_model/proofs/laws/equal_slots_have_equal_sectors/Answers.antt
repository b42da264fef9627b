use Rattle.tp_model.proofs.Walking.{equal_sectors}
use Rattle.tp_model.proofs.laws.equal_slots_have_equal_sectors.Goals as goal

pub returns : goal.returns
returns c = equal_sectors
