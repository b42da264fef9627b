use Rattle.tp_shown.proofs.Made.{opened_exists, unnamed_may_change}
use Rattle.tp_shown.proofs.Sound.{contents_are_sound}
use Rattle.tp_shown.proofs.laws.contents_are_of_pools.Goals as goal

pub returns-clause-opened : goal.returns-clause-opened
returns-clause-opened c = opened_exists

pub returns-clause-unnamed : goal.returns-clause-unnamed
returns-clause-unnamed c = unnamed_may_change

pub returns-clause-sound : goal.returns-clause-sound
returns-clause-sound c = contents_are_sound
