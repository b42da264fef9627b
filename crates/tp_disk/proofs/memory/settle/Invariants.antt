use Rattle.std.proofs.Common.{◌≡◌, take}
use Rattle.std.specs.List.{concat}
use Rattle.tp_model.specs.Sectors.{sectors_of}
use Rattle.tp_model.specs.Disk.{seen, settled}
use Rattle.tp_disk.specs.Log.{replayed}
use Rattle.tp_disk.proofs.memory.settle.Given as goal

abbrev pub invariant-loop-write : goal.invariant-loop-write
invariant-loop-write l = l.image ≡ concat (seen (replayed (take l.write-index l.writes) (settled (sectors_of l.fn.image))))
