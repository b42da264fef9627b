use Rattle.std.proofs.Common.{ℕ, List, take}
use Rattle.tp_model.specs.Sectors.{sectors_of}
use Rattle.tp_model.specs.Disk.{Cell, written}
use Rattle.tp_disk.specs.Picking.{Picking}
use Rattle.tp_disk.proofs.memory.take_write.Given as goal

abbrev pub invariant-loop-k : goal.invariant-loop-k
invariant-loop-k l = (picks : List ℕ) (cells : List Cell) → Picking picks cells l.fn.image l.fn.left → Picking picks (written l.at (take l.k (sectors_of l.bytes)) cells) l.image l.left
