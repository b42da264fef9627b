use Rattle.std.proofs.Common.{◌≡◌, ℕ}
use Rattle.std.specs.Prelude.{◌<◌, IsTrue}
use Rattle.tp_model.specs.Disk.{seen}
use Rattle.tp_model.specs.Sectors.{sector_at, zero_sector}
use Rattle.tp_devices.proofs.is_blank.Given as goal

abbrev pub invariant-loop-at : goal.invariant-loop-at
invariant-loop-at g l =
    (g.D.Disk.state l.disk ≡ g.D.Disk.state l.fn.disk)
    × (IsTrue (g.D.Disk.state l.fn.disk).is_honest → (k : ℕ) → k < l.at → sector_at (seen (g.D.Disk.state l.fn.disk).cells) k ≡ zero_sector)
