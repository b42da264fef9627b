use Rattle.tp_stored.proofs.Metadata.{commits_are_metadata}
use Rattle.tp_stored.proofs.laws.commits_are_metadata.Goals as goal

pub returns : goal.returns
returns c = commits_are_metadata
