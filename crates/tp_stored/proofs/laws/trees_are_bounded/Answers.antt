use Rattle.tp_stored.proofs.Bounded.{commits_are_bounded, sound_are_bounded}
use Rattle.tp_stored.proofs.laws.trees_are_bounded.Goals as goal

pub returns-clause-sound : goal.returns-clause-sound
returns-clause-sound c = sound_are_bounded

pub returns-clause-commits : goal.returns-clause-commits
returns-clause-commits c = commits_are_bounded
