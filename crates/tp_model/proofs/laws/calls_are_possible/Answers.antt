use Rattle.tp_model.proofs.Possible.{Makes-possible, Step-possible}
use Rattle.tp_model.proofs.laws.calls_are_possible.Goals as goal

pub returns-clause-made : goal.returns-clause-made
returns-clause-made c = Makes-possible

pub returns-clause-answered : goal.returns-clause-answered
returns-clause-answered c = Step-possible
