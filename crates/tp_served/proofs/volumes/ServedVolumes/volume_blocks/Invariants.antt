use Rattle.tp_served.specs.Served.{got}
use Rattle.tp_served.proofs.volumes.ServedVolumes.volume_blocks.Given as goal

abbrev pub ghosts-volume_blocks_on : goal.ghosts-volume_blocks_on
ghosts-volume_blocks_on g a = record { start = (got a.lent.now.inside a.lent.now.there).cache }
