use Rattle.tp_served.specs.Served.{got}
use Rattle.tp_served.proofs.volumes.ServedVolumes.write.Given as goal

abbrev pub ghosts-write_on : goal.ghosts-write_on
ghosts-write_on g a = record { start = (got a.lent.now.inside a.lent.now.there).cache }
