-- Trusted reading: the two superblock slots of an image, and which of them says what the pool is (own layout).
use Rattle.std.specs.Prelude.{◌≡◌, ℕ, ◌+◌, ◌*◌, ◌%◌, ◌^◌, ◌<◌, ◌==◌, Bool, ◌&&◌, if◌then◌else◌, List, length, Result, Ok, Err, ◌⊎◌}
use Rattle.tp_model.specs.declared.refusal.Refusal.{Refusal}
use Rattle.tp_model.specs.declared.refusal.Refusal.TheVariants.{Damaged, NotAPool, BadVersion}
use Rattle.tp_model.specs.Geometry.{Geometry}
use Rattle.tp_model.specs.Sectors.{Sector, sector_at}
use Rattle.tp_layout.specs.Super.{StandsIn, slot_number}
use Rattle.tp_layout.specs.declared.superblock.Superblock.{Superblock}
use Rattle.tp_layout.specs.declared.superblock.SlotId.{SlotId}
use Rattle.tp_layout.specs.declared.superblock.SlotId.TheVariants.{Zero, One}
use Rattle.tp_layout.specs.declared.superblock.Slot.{Slot}
use Rattle.tp_layout.specs.declared.superblock.Slot.TheVariants.{Foreign, Other, Bad, Good}

-- the first sector of a slot's metadata block
abbrev pub slot_sector : SlotId → ℕ
slot_sector slot = 8 * slot_number slot

-- what stands in a slot of the image: nothing of a pool's where its sector is not on the disk
abbrev pub SlotIs : List Sector → SlotId → Slot → Type 0
SlotIs image slot what =
    ((slot_sector slot < length image) × StandsIn slot (sector_at image (slot_sector slot)) what)
    ⊎ (((slot_sector slot < length image) → ⊥) × (what ≡ Foreign))

abbrev pub is_same_geometry : Geometry → Geometry → Bool
is_same_geometry g h = g.block_sectors == h.block_sectors && g.virtual_blocks == h.virtual_blocks && g.metadata_blocks == h.metadata_blocks && g.data_blocks == h.data_blocks

-- the sequence after this one; they count modulo 2 ^ 64
abbrev pub next_sequence : ℕ → ℕ
next_sequence n = (n + 1) % 2 ^ 64

-- of two good superblocks of one geometry, the one whose sequence comes right after the other's
abbrev pub later_of : Superblock → Superblock → Result Superblock Refusal
later_of a b =
    if is_same_geometry a.geometry b.geometry then (
    if a.sequence == next_sequence b.sequence then Ok a
    else if b.sequence == next_sequence a.sequence then Ok b
    else Err Damaged
    ) else Err Damaged

-- the superblock of the pool, by what stands in the two slots: another version is told before damage
abbrev pub choice_of : Slot → Slot → Result Superblock Refusal
choice_of Other second = Err BadVersion
choice_of first Other = Err BadVersion
choice_of Bad second = Err Damaged
choice_of first Bad = Err Damaged
choice_of Foreign Foreign = Err NotAPool
choice_of (Good a) Foreign = Ok a
choice_of Foreign (Good b) = Ok b
choice_of (Good a) (Good b) = later_of a b

-- the image's slots give this superblock, or this refusal
pub record Chooses (image : List Sector) (choice : Result Superblock Refusal) : Type 0 where
  pub first : Slot
  pub second : Slot
  pub first_is : SlotIs image Zero first
  pub second_is : SlotIs image One second
  pub choice_is : choice ≡ choice_of first second
