use Rattle.tp_meta.proofs.Changing.{committing}
use Rattle.tp_meta.proofs.laws.commits_leave_contents.Goals as goal

pub returns : goal.returns
returns c = committing
