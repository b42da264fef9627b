use Rattle.tp_plain.proofs.ExampleSteps.{in_place_takes_none, trim_of_none_frees_none}
use Rattle.tp_plain.proofs.examples.requests_that_change_no_slot.Goals as goal

pub returns-clause-in_place : goal.returns-clause-in_place
returns-clause-in_place c = in_place_takes_none

pub returns-clause-unmapped : goal.returns-clause-unmapped
returns-clause-unmapped c = trim_of_none_frees_none
