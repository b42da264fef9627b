use Rattle.tp_model.proofs.Answerable.{tests_told}
use Rattle.tp_model.proofs.laws.tests_may_be_answered.Goals as goal

pub returns : goal.returns
returns c pool call = tests_told pool call
