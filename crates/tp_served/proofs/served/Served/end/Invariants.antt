use Rattle.tp_served.specs.Served.{got}
use Rattle.tp_served.proofs.served.Served.end.Given as goal

abbrev pub ghosts-close_on : goal.ghosts-close_on
ghosts-close_on g a = record { start = (got a.lent.inside a.lent.there).cache }
