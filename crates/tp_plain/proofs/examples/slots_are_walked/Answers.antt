use Rattle.tp_plain.proofs.ExampleSteps.{walked_all, walked_later, walked_none}
use Rattle.tp_plain.proofs.examples.slots_are_walked.Goals as goal

pub returns-clause-all : goal.returns-clause-all
returns-clause-all c = walked_all

pub returns-clause-later : goal.returns-clause-later
returns-clause-later c = walked_later

pub returns-clause-none : goal.returns-clause-none
returns-clause-none c = walked_none
