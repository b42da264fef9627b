use Rattle.tp_stored.proofs.Clearing.{commits_are_clean}
use Rattle.tp_stored.proofs.laws.commits_are_clean.Goals as goal

pub returns : goal.returns
returns c = commits_are_clean
