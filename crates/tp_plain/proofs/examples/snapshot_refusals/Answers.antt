use Rattle.tp_plain.proofs.ExampleSteps.{exists_already, snap_of_itself, snap_of_none}
use Rattle.tp_plain.proofs.examples.snapshot_refusals.Goals as goal

pub returns-clause-taken : goal.returns-clause-taken
returns-clause-taken c = exists_already

pub returns-clause-of_itself : goal.returns-clause-of_itself
returns-clause-of_itself c = snap_of_itself

pub returns-clause-of_none : goal.returns-clause-of_none
returns-clause-of_none c = snap_of_none
