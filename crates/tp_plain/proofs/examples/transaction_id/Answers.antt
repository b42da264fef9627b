use Rattle.tp_plain.proofs.ExampleSteps.{sets_seven, not_again, seven_line}
use Rattle.tp_plain.proofs.examples.transaction_id.Goals as goal

pub returns-clause-set : goal.returns-clause-set
returns-clause-set c = sets_seven

pub returns-clause-again : goal.returns-clause-again
returns-clause-again c = not_again

pub returns-clause-line : goal.returns-clause-line
returns-clause-line c = seven_line
