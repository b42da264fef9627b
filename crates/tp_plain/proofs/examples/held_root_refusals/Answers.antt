use Rattle.tp_plain.proofs.ExampleSteps.{copy_is_none, removes_without_room, removes_with_room, removes_without_root}
use Rattle.tp_plain.proofs.examples.held_root_refusals.Goals as goal

pub returns-clause-no_copy : goal.returns-clause-no_copy
returns-clause-no_copy c = copy_is_none

pub returns-clause-removal : goal.returns-clause-removal
returns-clause-removal c = removes_without_room

pub returns-clause-enough : goal.returns-clause-enough
returns-clause-enough c = removes_with_room

pub returns-clause-no_root : goal.returns-clause-no_root
returns-clause-no_root c = removes_without_root
