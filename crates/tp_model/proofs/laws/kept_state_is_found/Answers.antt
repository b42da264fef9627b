use Rattle.tp_model.proofs.Found.{MayReopen-nothing}
use Rattle.tp_model.proofs.laws.kept_state_is_found.Goals as goal

pub returns : goal.returns
returns c = MayReopen-nothing
