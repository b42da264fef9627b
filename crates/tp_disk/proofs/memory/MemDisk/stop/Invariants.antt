use Rattle.std.proofs.Common.{take}
use Rattle.tp_model.specs.Sectors.{chopped}
use Rattle.tp_model.specs.Disk.{settled}
use Rattle.tp_disk.specs.Log.{replayed}
use Rattle.tp_disk.specs.Picking.{Picking}
use Rattle.tp_disk.proofs.memory.MemDisk.stop.Given as goal

abbrev pub invariant-loop-write : goal.invariant-loop-write
invariant-loop-write l = Picking l.picks (replayed (take l.write-index l.self.writes.items) (settled (chopped l.self.size l.self.kept.items))) l.image.items l.left.items
