-- Trusted reading: a disk as it is handed out when an image is opened or made (own).
use Rattle.std.specs.Prelude.{◌≡◌, IsTrue, []}
use Rattle.tp_model.specs.Disk.{DiskState, IsSettled}

-- No call was made of the disk yet, and where it is honest, a stop leaves what reads give. What it holds is left open.
pub record IsHandedOut (disk : DiskState) : Type 0 where
  pub past : disk.past ≡ []
  pub failures : disk.failures ≡ 0
  pub flushes : disk.flushes ≡ 0
  pub settled : IsTrue disk.is_honest → IsSettled disk.cells
