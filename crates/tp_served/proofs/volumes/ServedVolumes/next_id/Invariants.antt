use Rattle.tp_served.specs.Served.{got}
use Rattle.tp_served.proofs.volumes.ServedVolumes.next_id.Given as goal

abbrev pub ghosts-next_id_on : goal.ghosts-next_id_on
ghosts-next_id_on g a = record { start = (got a.lent.now.inside a.lent.now.there).cache }
