use Rattle.tp_served.specs.Served.{got}
use Rattle.tp_served.proofs.volumes.ServedWalked.walk.Given as goal

abbrev pub ghosts-walk_on : goal.ghosts-walk_on
ghosts-walk_on g a = record { start = (got a.lent.now.inside a.lent.now.there).cache }
