-- Internal: the writes that a `MemDisk` holds since its last flush.
use Rattle.std.specs.Prelude.{◌≡◌, ℕ, ◌+◌, ◌/◌, ◌%◌, ◌≤◌, List, [], ◌∷◌, length}
use Rattle.tp_model.specs.Sectors.{sectors_of}
use Rattle.tp_model.specs.Disk.{Cell, written}
use Rattle.tp_disk.specs.declared.memory.Logged.{Logged}

-- after these writes, the oldest first
unfoldable pub replayed : List Logged → List Cell → List Cell
replayed [] cells = cells
replayed (write ∷ writes) cells = replayed writes (written write.at (sectors_of write.bytes.items) cells)

-- whole sectors of a disk of this size
pub record IsWithin (size : ℕ) (write : Logged) : Type 0 where
  pub whole : length write.bytes.items % 512 ≡ 0
  pub ends : write.at + length write.bytes.items / 512 ≤ size
