-- Trusted reading: what a superblock is, the one spelling of each, and the four kinds of slot.
use Rattle.std.specs.Prelude.{◌≡◌, ◌≢◌, ◌⊎◌, ℕ, zero, suc, ◌%◌, ◌^◌, ◌<◌, Bool, true, false, List, [], ◌∷◌, ◌++◌, take, drop, codes}
use Rattle.tp_model.specs.Geometry.{IsWithinLimits, IsTreeBlock}
use Rattle.tp_layout.specs.Numbers.{le32, le64, zeros}
use Rattle.tp_layout.specs.declared.superblock.Superblock.{Superblock}
use Rattle.tp_layout.specs.declared.superblock.SlotId.{SlotId}
use Rattle.tp_layout.specs.declared.superblock.SlotId.TheVariants.{Zero, One}
use Rattle.tp_layout.specs.declared.superblock.Slot.{Slot}
use Rattle.tp_layout.specs.declared.superblock.Slot.TheVariants.{Foreign, Other, Bad, Good}
use Rattle.tp_layout.specs.declared.superblock.Version.{Version}
use Rattle.tp_layout.specs.declared.superblock.Version.TheVariants.{OneSize, OwnSizes}

abbrev pub slot_number : SlotId → ℕ
slot_number Zero = 0
slot_number One = 1

-- in an image of version 1 each volume has the pool's own size, in one of version 2 a size of its own
abbrev pub version_number : Version → ℕ
version_number OneSize = 1
version_number OwnSizes = 2

-- bit 0 is the only flag
abbrev pub flags_of : Bool → ℕ
flags_of true = 1
flags_of false = 0

-- The 512 bytes of a superblock.
unfoldable pub super_bytes : Superblock → List ℕ
super_bytes s =
    codes "THINPOOL" ++ le32 (version_number s.version) ++ le32 (flags_of s.needs_check) ++ le64 s.sequence ++ le64 s.transaction_id
    ++ le32 s.geometry.block_sectors ++ le32 s.geometry.virtual_blocks ++ le32 s.geometry.metadata_blocks ++ le32 s.geometry.data_blocks
    ++ le64 s.root ++ le64 s.held_root ++ zeros 448

-- a good superblock of this slot
pub record IsGoodSuper (slot : SlotId) (s : Superblock) : Type 0 where
  pub sequence : s.sequence < 2 ^ 64
  pub transaction_id : s.transaction_id < 2 ^ 64
  pub slot_is : s.sequence % 2 ≡ slot_number slot
  pub geometry : IsWithinLimits s.geometry
  pub root : IsTreeBlock s.geometry s.root
  pub held : (s.held_root ≡ 0) ⊎ IsTreeBlock s.geometry s.held_root
  -- a version 1 image holds no copy: its bytes there are zeros
  pub unheld : s.version ≡ OneSize → s.held_root ≡ 0

-- the roots of the device trees of a pool: that of now, and that of a held copy, if there is one; no tree stands in block 0
abbrev pub held_refs : ℕ → List ℕ
held_refs zero = []
held_refs (suc n) = suc n ∷ []

abbrev pub roots_of : Superblock → List ℕ
roots_of s = s.root ∷ held_refs s.held_root

-- the first 8 bytes, and the 4 behind them
abbrev pub HasMagic : List ℕ → Type 0
HasMagic sector = take 8 sector ≡ codes "THINPOOL"

abbrev pub HasVersion : List ℕ → Type 0
HasVersion sector = (version : Version) × (take 4 (drop 8 sector) ≡ le32 (version_number version))

-- What stands in this slot whose sector has these bytes: each sector is of one kind, and spells one superblock
-- at most.
abbrev pub StandsIn : SlotId → List ℕ → Slot → Type 0
StandsIn slot sector Foreign = ¬ HasMagic sector
StandsIn slot sector Other = HasMagic sector × (¬ HasVersion sector)
StandsIn slot sector Bad = HasMagic sector × HasVersion sector × ((s : Superblock) → IsGoodSuper slot s → sector ≢ super_bytes s)
StandsIn slot sector (Good s) = IsGoodSuper slot s × (sector ≡ super_bytes s)
