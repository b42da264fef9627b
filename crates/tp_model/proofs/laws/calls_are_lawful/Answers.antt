use Rattle.tp_model.proofs.Shape.{Takes-IsSound}
use Rattle.tp_model.proofs.laws.calls_are_lawful.Goals as goal

pub returns : goal.returns
returns c = Takes-IsSound
