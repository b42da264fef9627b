-- Internal: what it makes of a pool's contents that sectors become zero where their blocks are mapped (own).
use Rattle.std.specs.Prelude.{◌≡◌, ◌≢◌, ◌⊎◌, ℕ, ◌+◌, ◌-◌, ◌%◌, ◌<◌, ◌≤◌, Bool, IsTrue, false, not, ◌&&◌, ◌||◌, nat_lt, List, Option, None, Some, is_some, if◌then◌else◌}
use Rattle.tp_model.specs.Geometry.{Geometry}
use Rattle.tp_model.specs.Pool.{PlainPool}
use Rattle.tp_model.specs.Calls.{Edits, WriteZeroes}
use Rattle.tp_model.specs.Disk.{DiskState, seen}
use Rattle.tp_model.specs.DiskStops.{LeavesOnly}
use Rattle.tp_sharing.specs.Volumes.{Volumes, slot_of}
use Rattle.tp_mapping.specs.Mapping.{free_places}
use Rattle.tp_stored.specs.Contents.{Contents, HasContents}
use Rattle.tp_meta.specs.declared.metadata.Home.{Home}
use Rattle.tp_shown.specs.Shown.{EditsLists, blocks_touched, first_block}
use Rattle.tp_pool.specs.Writing.{IsHalf, IsKnown, blocks_taken_by, takes_block}

-- The first sectors of a range that lie before the first block that begins in it, and the last ones that lie behind the last block that ends in it.
pub record AreEdges (g : Geometry) (sector count head tail : ℕ) : Type 0 where
  pub fits : head + tail ≤ count
  pub first : 0 < head → (0 < sector % g.block_sectors) × (sector % g.block_sectors + head ≤ g.block_sectors)
  pub last : tail < g.block_sectors
  pub begins : (head ≡ count) ⊎ ((sector + head) % g.block_sectors ≡ 0)
  pub ends : (count - head - tail) % g.block_sectors ≡ 0

-- What is known of the sectors at an edge, where there are some.
abbrev pub KnowsEdge : Geometry → ℕ → ℕ → ℕ → Volumes → List Bool → Option Home → Type 0
KnowsEdge g id sector count volumes marks home = 0 < count → IsKnown g id sector count volumes marks home

-- whether zeros that are written to a mapped block take a data block, as it is looked up
abbrev pub zeroes_take : Option Home → Bool
zeroes_take None = false
zeroes_take (Some home) = home.is_shared || home.is_hot

-- and so of an edge, which may have no sectors
abbrev pub edge_takes : ℕ → Option Home → Bool
edge_takes count home = nat_lt 0 count && zeroes_take home

-- another block, or no sector
abbrev pub IsBeside : ℕ → ℕ → ℕ → Type 0
IsBeside block count other = (count ≡ 0) ⊎ (other ≢ block)

-- whether a request of zeros leaves a block that it touches with a data block of its own, by whether it covers the block, and as it is looked up
abbrev pub told_owned : Bool → Bool → Option Home → Bool
told_owned no_hole is_covered home = no_hole || (not is_covered && is_some home)

module _ {M : Type 0} (geometry : M → Geometry) (stands : M → DiskState → Contents → Contents → Type 0) (marks : M → List Bool) where
  -- Sectors became zero, and the blocks that lie wholly in them lost their data blocks.
  pub record HasCleared (id sector count : ℕ) (before after : M) (old new : DiskState) (now kept : Contents) : Type 0 where
    pub volumes : Volumes
    pub meta_used : ℕ
    pub standing : stands after new (record now { volumes = volumes; meta_used = meta_used }) kept
    pub edits : EditsLists (geometry before) (WriteZeroes id sector count false false) id now.volumes volumes (seen old.cells) (seen new.cells)
    -- where no slot has changed, no node has
    pub untouched : ((block : ℕ) → slot_of id block volumes ≡ slot_of id block now.volumes) → meta_used ≡ now.meta_used

  -- Sectors of one block became zero where it is mapped, which took a data block, or was done in place. No other block, and none where there
  -- were no sectors, has to take one that had not.
  pub record HasZeroed (id block sector count : ℕ) (taken : Bool) (before after : M) (old new : DiskState) (now kept : Contents) : Type 0 where
    pub cleared : HasCleared id sector count before after old new now kept
    pub others : (other : ℕ) → IsBeside block count other → slot_of id other cleared.volumes ≡ slot_of id other now.volumes
    pub takes : (other : ℕ) → IsBeside block count other → IsTrue (takes_block id cleared.volumes (marks after) other) → IsTrue (takes_block id now.volumes (marks before) other)
    pub free : free_places (geometry before) now.volumes kept.volumes
        ≤ free_places (geometry before) cleared.volumes kept.volumes + (if taken then 1 else 0)

  -- While sectors become zero, a stop leaves nothing else than what the last commit kept, and zeros that the request gives.
  abbrev pub LeavesZeroes : ℕ → ℕ → ℕ → Bool → M → DiskState → DiskState → Contents → Contents → Type 0
  LeavesZeroes id sector count no_hole before old new now kept =
      LeavesOnly old new (IsHalf (geometry before) (WriteZeroes id sector count no_hole false) id now.volumes kept old.cells)

  -- Sectors became zero: of s that was shown they made the pool that is shown now.
  pub record HasBlanked (id sector count : ℕ) (no_hole : Bool) (after : M) (new : DiskState) (kept : Contents) (s : PlainPool) : Type 0 where
    pub contents : Contents
    pub pool : PlainPool
    pub standing : stands after new contents kept
    pub has : HasContents (geometry after) contents (seen new.cells) pool
    pub edits : Edits s (WriteZeroes id sector count no_hole false) id pool

  -- There are as many free data blocks as it takes.
  abbrev pub HasFreeFor : ℕ → ℕ → ℕ → Bool → M → Contents → Contents → Type 0
  HasFreeFor id sector count no_hole metadata now kept =
      blocks_taken_by (geometry metadata) (WriteZeroes id sector count no_hole false) id now.volumes (marks metadata) (first_block (geometry metadata) sector) (blocks_touched (geometry metadata) sector count)
      ≤ free_places (geometry metadata) now.volumes kept.volumes
