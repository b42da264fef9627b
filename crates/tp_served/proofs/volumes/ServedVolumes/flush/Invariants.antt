use Rattle.tp_served.specs.Served.{got}
use Rattle.tp_served.proofs.volumes.ServedVolumes.flush.Given as goal

abbrev pub ghosts-flush_on : goal.ghosts-flush_on
ghosts-flush_on g a = record { start = (got a.lent.now.inside a.lent.now.there).cache }
