-- Internal: what a stop keeps of an image: all that the last commit names (own).
use Rattle.std.specs.Prelude.{◌≡◌, ℕ, ◌+◌, ◌<◌, ◌≤◌, List, length, slice_index}
use Rattle.tp_model.specs.Geometry.{metadata_sector}
use Rattle.tp_model.specs.Sectors.{Sector, sector_at}
use Rattle.tp_model.specs.Disk.{Cell, DiskState, seen}
use Rattle.tp_model.specs.DiskStops.{AfterStop, LeavesOnly}

-- The images are the same in each metadata block that these counts name, and behind the metadata, where all data
-- stands. Counts of a pool name the superblocks and the areas too, so these are the same.
pub record SameKept (kept : List ℕ) (old new : List Sector) : Type 0 where
  pub same_length : length new ≡ length old
  pub named : (b i : ℕ) → 0 < slice_index kept b → i < 8 → sector_at new (metadata_sector b + i) ≡ sector_at old (metadata_sector b + i)
  pub above : (i : ℕ) → metadata_sector (length kept) ≤ i → sector_at new i ≡ sector_at old i

-- in all that these counts name the image is one that a stop might have left before
abbrev pub IsKeptFrom : List ℕ → List Cell → List Sector → Type 0
IsKeptFrom kept cells image = (before : List Sector) × AfterStop cells before × SameKept kept before image

-- From the moment of `old` to that of `new` a stop changes nothing that these counts name, and reads give the same of it.
pub record LeavesKept (kept : List ℕ) (old new : DiskState) : Type 0 where
  pub stops : LeavesOnly old new (IsKeptFrom kept old.cells)
  pub reads : SameKept kept (seen old.cells) (seen new.cells)
