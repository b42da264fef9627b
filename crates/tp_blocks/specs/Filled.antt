-- Internal: what a whole block is filled with.
use Rattle.std.specs.Prelude.{◌≡◌, ℕ, ◌<◌, List, length, take, drop, replicate, Bool, IsTrue, Option, None, Some}
use Rattle.tp_model.specs.Geometry.{Geometry, data_sector}
use Rattle.tp_model.specs.Sectors.{Sector, zero_sector, overlaid, sectors_of}
use Rattle.tp_model.specs.Disk.{DiskState, Writes, seen, after_write}

-- the sectors of a block in an image
abbrev pub block_of : Geometry → List Sector → ℕ → List Sector
block_of g image p = take g.block_sectors (drop (data_sector g p) image)

-- the sectors of a block to copy, or of a new one
abbrev pub base_of : Geometry → List Sector → Option ℕ → List Sector
base_of g image None = replicate g.block_sectors zero_sector
base_of g image (Some p) = block_of g image p

abbrev pub IsPlaceOf : Geometry → Option ℕ → Type 0
IsPlaceOf g None = Unit {0}
IsPlaceOf g (Some p) = p < g.data_blocks

-- What the rest of a filled block holds is known of a new block on any disk, and of a copy on an honest one.
abbrev pub IsKnown : Option ℕ → Bool → Type 0
IsKnown None is_honest = Unit {0}
IsKnown (Some p) is_honest = IsTrue is_honest

-- The whole block was written: with these bytes at a sector, and the rest as the other block, or zero.
pub record Fills (g : Geometry) (block sector : ℕ) (bytes : List ℕ) (from : Option ℕ) (old new : DiskState) : Type 0 where
  pub values : List Sector
  pub whole : length values ≡ g.block_sectors
  pub are : IsKnown from old.is_honest → values ≡ overlaid sector (sectors_of bytes) (base_of g (seen old.cells) from)
  pub written : new ≡ after_write (data_sector g block) values old

-- The same, whether it succeeded or failed: each sector of the block, by itself, is as before or has the value that it was to get, and no other
-- sector changed.
pub record MayFill (g : Geometry) (block sector : ℕ) (bytes : List ℕ) (from : Option ℕ) (old new : DiskState) : Type 0 where
  pub values : List Sector
  pub whole : length values ≡ g.block_sectors
  pub are : IsKnown from old.is_honest → values ≡ overlaid sector (sectors_of bytes) (base_of g (seen old.cells) from)
  pub writes : Writes (data_sector g block) values old new
