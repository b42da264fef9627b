use Rattle.tp_model.proofs.Shape.{found_by_call-IsSound}
use Rattle.tp_model.proofs.laws.stops_are_lawful.Goals as goal

pub returns : goal.returns
returns c = found_by_call-IsSound
