use Rattle.tp_stored.proofs.Counted.{commits_count}
use Rattle.tp_stored.proofs.Opened.{stands_for_opened}
use Rattle.tp_stored.proofs.laws.commits_stand_for_pools.Goals as goal

pub returns-clause-stands : goal.returns-clause-stands
returns-clause-stands c = stands_for_opened

pub returns-clause-counts : goal.returns-clause-counts
returns-clause-counts c = commits_count
