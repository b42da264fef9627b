-- Internal: which superblock may follow another, and what a stop leaves while it is stored.
use Rattle.std.specs.Prelude.{◌≡◌, ℕ, ◌%◌, List, Result, Ok, Err, ◌⊎◌}
use Rattle.tp_model.specs.declared.refusal.Refusal.{Refusal}
use Rattle.tp_model.specs.declared.refusal.Refusal.TheVariants.{NotAPool}
use Rattle.tp_model.specs.Geometry.{metadata_sector}
use Rattle.tp_model.specs.Sectors.{Sector}
use Rattle.tp_model.specs.Disk.{Cell}
use Rattle.tp_model.specs.DiskStops.{IsFrom}
use Rattle.tp_layout.specs.declared.superblock.Superblock.{Superblock}
use Rattle.tp_image.specs.Slots.{Chooses, next_sequence}

-- the sector of the slot that a superblock belongs in
abbrev pub super_sector : Superblock → ℕ
super_sector s = metadata_sector (s.sequence % 2)

-- the superblock may be stored where an image's slots give this one, or say that there is no pool
abbrev pub IsNext : Result Superblock Refusal → Superblock → Type 0
IsNext (Ok old) next = (next.geometry ≡ old.geometry) × (next.sequence ≡ next_sequence old.sequence)
IsNext (Err refusal) next = (refusal ≡ NotAPool) × (next.sequence ≡ 0)

-- while the next superblock is stored: the slots give what they gave, or the next, and outside its slot's sector
-- the image is one that a stop might have left before
abbrev pub IsStoring : Result Superblock Refusal → Superblock → List Cell → List Sector → Type 0
IsStoring one next cells image = (Chooses image one ⊎ Chooses image (Ok next)) × IsFrom (super_sector next) 1 cells image
