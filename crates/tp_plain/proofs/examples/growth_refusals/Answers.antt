use Rattle.tp_plain.proofs.ExampleSteps.{grows_none, grows_none_held, shrinks_none, grows_too_far, grows_far, grows_without_room}
use Rattle.tp_plain.proofs.examples.growth_refusals.Goals as goal

pub returns-clause-absent : goal.returns-clause-absent
returns-clause-absent c = grows_none

pub returns-clause-held : goal.returns-clause-held
returns-clause-held c = grows_none_held

pub returns-clause-less : goal.returns-clause-less
returns-clause-less c = shrinks_none

pub returns-clause-more : goal.returns-clause-more
returns-clause-more c = grows_too_far

pub returns-clause-most : goal.returns-clause-most
returns-clause-most c = grows_far

pub returns-clause-no_room : goal.returns-clause-no_room
returns-clause-no_room c = grows_without_room
