use Rattle.tp_stored.proofs.Soundness.{clean_commit, clean_stand}
use Rattle.tp_stored.proofs.laws.clean_images_are_commits.Goals as goal

pub returns-clause-commits : goal.returns-clause-commits
returns-clause-commits c = clean_commit

pub returns-clause-stands : goal.returns-clause-stands
returns-clause-stands c = clean_stand
