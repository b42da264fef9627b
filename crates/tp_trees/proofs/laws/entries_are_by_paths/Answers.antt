use Rattle.tp_trees.proofs.Walks.{entries_by_paths}
use Rattle.tp_trees.proofs.laws.entries_are_by_paths.Goals as goal

pub returns : goal.returns
returns c = entries_by_paths
