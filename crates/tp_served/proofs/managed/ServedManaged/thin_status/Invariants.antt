use Rattle.tp_served.specs.Served.{got}
use Rattle.tp_served.proofs.managed.ServedManaged.thin_status.Given as goal

abbrev pub ghosts-thin_status_on : goal.ghosts-thin_status_on
ghosts-thin_status_on g a = record { start = (got a.lent.now.inside a.lent.now.there).cache }
