-- Trusted reading: what the first 8192 bytes of a device hold, in which a pool has its two superblock slots (own).
use Rattle.std.specs.Prelude.{◌≡◌, ◌≢◌, ◌⊎◌, ◌<◌, ℕ, List, Result, Err}
use Rattle.tp_model.specs.declared.refusal.Refusal.{Refusal}
use Rattle.tp_model.specs.declared.refusal.Refusal.TheVariants.{NotAPool}
use Rattle.tp_model.specs.Sectors.{Sector, sector_at, zero_sector}
use Rattle.tp_layout.specs.declared.superblock.Superblock.{Superblock}
use Rattle.tp_image.specs.Slots.{Chooses}

-- all of it is zero
abbrev pub IsBlank : List Sector → Type 0
IsBlank image = (k : ℕ) → k < 16 → sector_at image k ≡ zero_sector

-- some sector of it is not
abbrev pub HasOther : List Sector → Type 0
HasOther image = (k : ℕ) × (k < 16) × (sector_at image k ≢ zero_sector)

-- the slots give a superblock, or one of them is a pool's that is damaged or of another version
abbrev pub HoldsPool : List Sector → Type 0
HoldsPool image = (choice : Result Superblock Refusal) × Chooses image choice × (choice ≢ Err NotAPool)

-- a pool may be made here
abbrev pub IsFree : List Sector → Type 0
IsFree image = HoldsPool image ⊎ IsBlank image

-- it is somebody else's: no slot is a pool's, and not all is zero
abbrev pub IsForeign : List Sector → Type 0
IsForeign image = Chooses image (Err NotAPool) × HasOther image
