use Rattle.tp_served.specs.Served.{got}
use Rattle.tp_served.proofs.volumes.ServedVolumes.write_zeroes.Given as goal

abbrev pub ghosts-write_zeroes_on : goal.ghosts-write_zeroes_on
ghosts-write_zeroes_on g a = record { start = (got a.lent.now.inside a.lent.now.there).cache }
