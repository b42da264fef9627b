use Rattle.tp_served.specs.Served.{got}
use Rattle.tp_served.proofs.managed.ServedManaged.change.Given as goal

abbrev pub ghosts-change_on : goal.ghosts-change_on
ghosts-change_on g a = record { start = (got a.lent.now.inside a.lent.now.there).cache }
