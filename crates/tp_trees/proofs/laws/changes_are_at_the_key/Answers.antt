use Rattle.tp_layout.proofs.Ordered.{found_with_other, found_with_same, found_without_other, found_without_same}
use Rattle.tp_trees.proofs.Trees.{ascend_tree}
use Rattle.tp_trees.proofs.laws.changes_are_at_the_key.Goals as goal

pub returns-clause-with_same : goal.returns-clause-with_same
returns-clause-with_same c = found_with_same

pub returns-clause-with_other : goal.returns-clause-with_other
returns-clause-with_other c = found_with_other

pub returns-clause-without_same : goal.returns-clause-without_same
returns-clause-without_same c = found_without_same

pub returns-clause-without_other : goal.returns-clause-without_other
returns-clause-without_other c = found_without_other

pub returns-clause-ascend : goal.returns-clause-ascend
returns-clause-ascend c = ascend_tree
