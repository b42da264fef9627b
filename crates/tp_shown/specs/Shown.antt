-- Trusted reading: what a plain pool with the contents of a commit shows, in words of lists and of the image (own).
use Rattle.std.specs.Prelude.{◌≡◌, ◌≢◌, ◌⊎◌, ℕ, zero, suc, ◌+◌, ◌-◌, ◌*◌, ◌/◌, ◌%◌, ◌<◌, ◌≤◌, ◌&&◌, Bool, IsTrue, true, false, List, length, map, slice_get, Option, None, Some, IsSome, is_some}
use Rattle.std.specs.Option.{option_map_or}
use Rattle.std.specs.List.{count_by, range_with_len}
use Rattle.tp_model.specs.Geometry.{Geometry, data_sector}
use Rattle.tp_model.specs.Told.{told_blocks}
use Rattle.tp_model.specs.Sectors.{Sector, sector_at, zero_sector}
use Rattle.tp_model.specs.Calls.{Call, Keeps, Loses, Owns, SlotEffect, Write, WriteZeroes, is_owning, is_within, sector_after, slot_effect}
use Rattle.tp_sharing.specs.Volumes.{OtherSlot, Volumes, device_of, size_of, slot_of}
use Rattle.tp_mapping.specs.List.{is_used_elsewhere}
use Rattle.tp_mapping.specs.Mapping.{size_or_none}

-- how many blocks and sectors the volume of a device has; the pool's own where there is no device
abbrev pub own_blocks : Geometry → Volumes → ℕ → ℕ
own_blocks g volumes id = told_blocks g (size_or_none volumes id)

abbrev pub own_sectors : Geometry → Volumes → ℕ → ℕ
own_sectors g volumes id = own_blocks g volumes id * g.block_sectors

-- sector `offset` of what stands at a data block; zero where there is none
abbrev pub value_of : Geometry → List Sector → Option ℕ → ℕ → Sector
value_of g image None offset = zero_sector
value_of g image (Some place) offset = sector_at image (data_sector g place + offset)

-- sector k of a volume
abbrev pub value_at : Geometry → Volumes → List Sector → ℕ → ℕ → Sector
value_at g volumes image id k = value_of g image (slot_of id (k / g.block_sectors) volumes) (k % g.block_sectors)

-- count sectors of a volume from this one on
abbrev pub values_at : Geometry → Volumes → List Sector → ℕ → ℕ → ℕ → List Sector
values_at g volumes image id sector count = map (value_at g volumes image id) (range_with_len sector count)

-- the virtual block has no data block, or another slot has that too
abbrev pub wants_block : ℕ → Volumes → ℕ → Bool
wants_block id volumes block = option_map_or (λ place. is_used_elsewhere id block place volumes) (slot_of id block volumes) true

-- the first virtual block that a range of sectors touches, and how many it touches
abbrev pub first_block : Geometry → ℕ → ℕ
first_block g sector = sector / g.block_sectors

abbrev pub blocks_touched : Geometry → ℕ → ℕ → ℕ
blocks_touched g sector zero = 0
blocks_touched g sector (suc n) = suc ((sector + n) / g.block_sectors) - sector / g.block_sectors

-- the first virtual block that begins in a range of sectors or behind it, and how many blocks lie wholly in the range
abbrev pub first_covered : Geometry → ℕ → ℕ
first_covered g sector = (sector + (g.block_sectors - 1)) / g.block_sectors

abbrev pub blocks_covered : Geometry → ℕ → ℕ → ℕ
blocks_covered g sector count = (sector + count) / g.block_sectors - first_covered g sector

-- how many of n virtual blocks from this one on are to get a data block before they are written
abbrev pub blocks_wanted : ℕ → Volumes → ℕ → ℕ → ℕ
blocks_wanted id volumes first n = count_by (wants_block id volumes) (range_with_len first n)

-- a request leaves the virtual block, mapped as it is, with a data block of its own
abbrev pub owns_block : Geometry → Call → ℕ → Volumes → ℕ → Bool
owns_block g call id volumes block = is_owning (slot_effect g call block (slot_of id block volumes))

-- to how many of n virtual blocks from this one on it gives one that they lack
abbrev pub blocks_wanted_by : Geometry → Call → ℕ → Volumes → ℕ → ℕ → ℕ
blocks_wanted_by g call id volumes first n = count_by (λ block. owns_block g call id volumes block && wants_block id volumes block) (range_with_len first n)

-- after a request with this effect on the slot of a block the lists have there what the effect says
abbrev pub ListedAfter : SlotEffect → ℕ → ℕ → Volumes → Volumes → Type 0
ListedAfter Keeps id block now after = slot_of id block after ≡ slot_of id block now
ListedAfter Loses id block now after = slot_of id block after ≡ None
ListedAfter Owns id block now after = (place : ℕ) × (slot_of id block after ≡ Some place) × (OtherSlot id block place after → ⊥)

-- A request was done to a volume: its slots are what the effects on them say, and in its data blocks stands, sector by sector, what the request
-- leaves. The slots of all other volumes, and what stands at their data blocks, are as they were.
pub record EditsLists (g : Geometry) (call : Call) (id : ℕ) (now after : Volumes) (image seen : List Sector) : Type 0 where
  pub devices : (i : ℕ) → IsSome (device_of i after) → IsSome (device_of i now)
  pub still : (i : ℕ) → IsSome (device_of i now) → IsSome (device_of i after)
  pub sizes : (i : ℕ) → size_of i after ≡ size_of i now
  pub others : (i block : ℕ) → i ≢ id → slot_of i block after ≡ slot_of i block now
  pub slots : (block : ℕ) → ListedAfter (slot_effect g call block (slot_of id block now)) id block now after
  pub other_data : (i block place offset : ℕ) → i ≢ id → slot_of i block now ≡ Some place → offset < g.block_sectors
      → sector_at seen (data_sector g place + offset) ≡ sector_at image (data_sector g place + offset)
  pub own_data : (block place offset : ℕ) → slot_of id block after ≡ Some place → offset < g.block_sectors
      → sector_at seen (data_sector g place + offset)
      ≡ sector_after g call (block * g.block_sectors + offset) (value_of g image (slot_of id block now) offset)

-- Of a device n virtual blocks from this one on have no data block any more. All other slots are as they were.
pub record HasLost (id first n : ℕ) (now after : Volumes) : Type 0 where
  pub devices : (i : ℕ) → is_some (device_of i after) ≡ is_some (device_of i now)
  pub sizes : (i : ℕ) → size_of i after ≡ size_of i now
  pub lost : (block : ℕ) → first ≤ block → block < first + n → slot_of id block after ≡ None
  pub others : (i block : ℕ) → (((i ≡ id) × (first ≤ block) × (block < first + n)) → ⊥) → slot_of i block after ≡ slot_of i block now

-- sectors were written to it
abbrev pub Overwrites : Geometry → ℕ → ℕ → List Sector → Volumes → Volumes → List Sector → List Sector → Type 0
Overwrites g id sector sectors now after image seen = EditsLists g (Write id sector sectors false) id now after image seen

-- no slot has the data block in which this sector of the image lies
abbrev pub IsUnnamed : Geometry → Volumes → ℕ → Type 0
IsUnnamed g volumes i = (id block place offset : ℕ) → slot_of id block volumes ≡ Some place → offset < g.block_sectors → i ≡ data_sector g place + offset → ⊥

-- the values that a request gives sector k of its volume, whose slots are these
abbrev pub GivesValue : Geometry → Call → ℕ → Volumes → ℕ → Sector → Type 0
GivesValue g (Write i sector sectors fua) id volumes k x = (sector ≤ k) × (slice_get sectors (k - sector) ≡ Some x)
-- zeros where the block keeps a slot
GivesValue g (WriteZeroes i sector count no_hole fua) id volumes k x =
    IsTrue (is_within sector count k) × (x ≡ zero_sector)
    × (slot_effect g (WriteZeroes i sector count no_hole fua) (k / g.block_sectors) (slot_of id (k / g.block_sectors) volumes) ≡ Owns)
GivesValue g call id volumes k x = ⊥

-- This sector of the image is one of a block of the volume that had its data block alone at the last commit, and has a value that the request gives it.
pub record IsGiven (g : Geometry) (call : Call) (id : ℕ) (now kept : Volumes) (image : List Sector) (i : ℕ) : Type 0 where
  pub block : ℕ
  pub place : ℕ
  pub offset : ℕ
  pub inside : offset < g.block_sectors
  pub slot : slot_of id block kept ≡ Some place
  pub alone : OtherSlot id block place kept → ⊥
  pub is_there : i ≡ data_sector g place + offset
  pub value : GivesValue g call id now (block * g.block_sectors + offset) (sector_at image i)

-- While a request is done to a volume: each sector of the data blocks is as before, or of no block of the last commit, or has a value that the
-- request gives it, in a block that its slot had alone there.
pub record IsPartlyDone (g : Geometry) (call : Call) (id : ℕ) (now kept : Volumes) (before image : List Sector) : Type 0 where
  pub same_length : length image ≡ length before
  pub each : (i : ℕ) → 8 * g.metadata_blocks ≤ i → (sector_at image i ≡ sector_at before i) ⊎ IsUnnamed g kept i ⊎ IsGiven g call id now kept image i
