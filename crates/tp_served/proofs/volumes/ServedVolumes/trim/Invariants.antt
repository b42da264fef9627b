use Rattle.tp_served.specs.Served.{got}
use Rattle.tp_served.proofs.volumes.ServedVolumes.trim.Given as goal

abbrev pub ghosts-trim_on : goal.ghosts-trim_on
ghosts-trim_on g a = record { start = (got a.lent.now.inside a.lent.now.there).cache }
