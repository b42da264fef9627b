use Rattle.tp_super.proofs.Choice.{Chooses-one}
use Rattle.tp_super.proofs.laws.one_choice.Goals as goal

pub returns : goal.returns
returns c = Chooses-one
