use Rattle.tp_sharing.proofs.Sharing.{shared_exactly, test_is_within}
use Rattle.tp_sharing.proofs.Walks.{paths_are_down, shared_by_paths}
use Rattle.tp_sharing.proofs.laws.shared_slots_have_shared_paths.Goals as goal

pub returns-clause-exactly : goal.returns-clause-exactly
returns-clause-exactly c = shared_exactly

pub returns-clause-within : goal.returns-clause-within
returns-clause-within c = test_is_within

pub returns-clause-paths : goal.returns-clause-paths
returns-clause-paths c = shared_by_paths

pub returns-clause-same : goal.returns-clause-same
returns-clause-same c = paths_are_down
