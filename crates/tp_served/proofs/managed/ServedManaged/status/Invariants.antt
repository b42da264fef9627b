use Rattle.tp_served.specs.Served.{got}
use Rattle.tp_served.proofs.managed.ServedManaged.status.Given as goal

abbrev pub ghosts-status_on : goal.ghosts-status_on
ghosts-status_on g a = record { start = (got a.lent.now.inside a.lent.now.there).cache }
