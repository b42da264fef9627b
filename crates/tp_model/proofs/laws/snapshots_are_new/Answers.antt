use Rattle.tp_model.proofs.Cloning.{snap_others, snap_same, snap_unheld}
use Rattle.tp_model.proofs.laws.snapshots_are_new.Goals as goal

pub returns-clause-unheld : goal.returns-clause-unheld
returns-clause-unheld c = snap_unheld

pub returns-clause-same : goal.returns-clause-same
returns-clause-same c = snap_same

pub returns-clause-others : goal.returns-clause-others
returns-clause-others c = snap_others
