use Rattle.tp_served.specs.Served.{got}
use Rattle.tp_served.proofs.volumes.ServedVolumes.read.Given as goal

abbrev pub ghosts-read_on : goal.ghosts-read_on
ghosts-read_on g a = record { start = (got a.lent.now.inside a.lent.now.there).cache }
