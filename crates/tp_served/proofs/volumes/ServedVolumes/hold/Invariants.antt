use Rattle.tp_served.specs.Served.{got}
use Rattle.tp_served.proofs.volumes.ServedVolumes.hold.Given as goal

abbrev pub ghosts-hold_on : goal.ghosts-hold_on
ghosts-hold_on g a = record { start = (got a.lent.now.inside a.lent.now.there).cache }
