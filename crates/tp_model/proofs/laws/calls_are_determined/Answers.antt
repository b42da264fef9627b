use Rattle.tp_model.proofs.Renaming.{Makes-IsRenamed}
use Rattle.tp_model.proofs.laws.calls_are_determined.Goals as goal

pub returns : goal.returns
returns c = Makes-IsRenamed
