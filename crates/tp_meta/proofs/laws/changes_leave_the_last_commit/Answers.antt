use Rattle.tp_meta.proofs.Changing.{changing, commit_left}
use Rattle.tp_meta.proofs.laws.changes_leave_the_last_commit.Goals as goal

pub returns-clause-left : goal.returns-clause-left
returns-clause-left c = commit_left

pub returns-clause-changing : goal.returns-clause-changing
returns-clause-changing c = changing
