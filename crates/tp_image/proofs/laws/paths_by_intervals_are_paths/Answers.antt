use Rattle.tp_image.proofs.Uniqueness.{HasEntry-LeadsTo, HasEntry-key}
use Rattle.tp_image.proofs.laws.paths_by_intervals_are_paths.Goals as goal

pub returns-clause-path : goal.returns-clause-path
returns-clause-path c = HasEntry-LeadsTo

pub returns-clause-key : goal.returns-clause-key
returns-clause-key c = HasEntry-key
