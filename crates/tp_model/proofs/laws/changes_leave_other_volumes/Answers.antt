use Rattle.tp_model.proofs.Cloning.{removed_others}
use Rattle.tp_model.proofs.laws.changes_leave_other_volumes.Goals as goal

pub returns-clause-edited : goal.returns-clause-edited
returns-clause-edited c p q call id other edits = edits.others other

pub returns-clause-removed : goal.returns-clause-removed
returns-clause-removed c = removed_others
