use Rattle.tp_served.specs.Served.{got}
use Rattle.tp_served.proofs.volumes.ServedVolumes.let_go.Given as goal

abbrev pub ghosts-let_go_on : goal.ghosts-let_go_on
ghosts-let_go_on g a = record { start = (got a.lent.now.inside a.lent.now.there).cache }
