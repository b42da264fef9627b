use Rattle.tp_stored.proofs.Ruled.{commits_keep_the_rules}
use Rattle.tp_stored.proofs.laws.commits_keep_the_rules.Goals as goal

pub returns : goal.returns
returns c = commits_keep_the_rules
