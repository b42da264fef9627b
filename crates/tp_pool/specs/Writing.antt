-- Trusted reading: what a write of the pool does, block by block, and what a stop in it leaves (own).
use Rattle.std.specs.Prelude.{◌≡◌, ◌⊎◌, ℕ, ◌+◌, ◌-◌, ◌/◌, ◌%◌, ◌<◌, ◌≤◌, Bool, IsSome, IsTrue, true, false, ◌&&◌, ◌||◌, List, [], length, replicate, slice_index_or, Option, None, Some, if◌then◌else◌}
use Rattle.std.specs.Option.{option_map_or}
use Rattle.std.specs.List.{count_by, range_with_len}
use Rattle.tp_model.specs.Geometry.{Geometry}
use Rattle.tp_model.specs.Sectors.{Sector}
use Rattle.tp_model.specs.Pool.{PlainPool}
use Rattle.tp_model.specs.Calls.{Call, Edits, Write, touches}
use Rattle.tp_model.specs.Disk.{Cell, DiskState, IsSettled, seen}
use Rattle.tp_model.specs.DiskStops.{AfterStop, Leaves, LeavesOnly}
use Rattle.tp_sharing.specs.Volumes.{Volumes, device_of, slot_of, with_slot}
use Rattle.tp_mapping.specs.List.{is_used_elsewhere}
use Rattle.tp_mapping.specs.Mapping.{IsLeastFree, free_places}
use Rattle.tp_stored.specs.Contents.{Contents, HasContents, HoldsContents, IsStill, SameData}
use Rattle.tp_meta.specs.Metadata.{marked}
use Rattle.tp_meta.specs.declared.metadata.Home.{Home}
use Rattle.tp_shown.specs.Shown.{IsPartlyDone, Overwrites, own_blocks, own_sectors, owns_block}

-- ---- ranges of a volume

-- there is the device, and what ends there lies in its volume
abbrev pub Reaches : Geometry → ℕ → ℕ → Volumes → Type 0
Reaches g id end volumes = IsSome (device_of id volumes) × (end ≤ own_sectors g volumes id)

-- there is the device, and its volume has the block
abbrev pub HasBlock : Geometry → ℕ → ℕ → Volumes → Type 0
HasBlock g id block volumes = IsSome (device_of id volumes) × (block < own_blocks g volumes id)

-- ---- data blocks that a write takes

-- The virtual block is to get a new data block before it is written: it has none, or another slot has that too, or it is marked.
abbrev pub takes_block : ℕ → Volumes → List Bool → ℕ → Bool
takes_block id volumes marks block =
    option_map_or (λ place. is_used_elsewhere id block place volumes || slice_index_or marks place false) (slot_of id block volumes) true

-- how many of n virtual blocks from this one on
abbrev pub blocks_taken : ℕ → Volumes → List Bool → ℕ → ℕ → ℕ
blocks_taken id volumes marks first n = count_by (takes_block id volumes marks) (range_with_len first n)

-- how many of them a request leaves with a data block of their own that they are to get first
abbrev pub blocks_taken_by : Geometry → Call → ℕ → Volumes → List Bool → ℕ → ℕ → ℕ
blocks_taken_by g call id volumes marks first n = count_by (λ block. owns_block g call id volumes block && takes_block id volumes marks block) (range_with_len first n)

-- the data block where it may be written in place
abbrev pub own_place : Option Home → Option ℕ
own_place None = None
own_place (Some home) = if home.is_shared || home.is_hot then None else Some home.place

-- the data block, whether it may or not
abbrev pub old_place : Option Home → Option ℕ
old_place None = None
old_place (Some home) = Some home.place

-- whether the block is to get one, as it is looked up; and whether it has none of its own
abbrev pub told_taken : Option Home → Bool
told_taken None = true
told_taken (Some home) = home.is_shared || home.is_hot

abbrev pub told_wanted : Option Home → Bool
told_wanted None = true
told_wanted (Some home) = home.is_shared

-- The n sectors from this one on lie in blocks that may be written in place, and whose data blocks follow one another from this one on.
abbrev pub IsOwnRun : Geometry → ℕ → ℕ → ℕ → Volumes → List Bool → ℕ → Type 0
IsOwnRun g id sector n volumes marks place =
    (block : ℕ) → IsTrue (touches g sector n block) → (slot_of id block volumes ≡ Some (place + (block - sector / g.block_sectors))) × (takes_block id volumes marks block ≡ false)

-- What is known of n sectors from this one on, whose first block was looked up: what data block that has, and whether they all may be written in
-- place. Other blocks may have been mapped since.
pub record IsKnown (g : Geometry) (id sector n : ℕ) (volumes : Volumes) (marks : List Bool) (home : Option Home) : Type 0 where
  pub has : old_place home ≡ slot_of id (sector / g.block_sectors) volumes
  pub run : (place : ℕ) → own_place home ≡ Some place → IsOwnRun g id sector n volumes marks place

-- The n sectors from this one on lie in one block, or are whole blocks.
abbrev pub AreInBlocks : Geometry → ℕ → ℕ → Type 0
AreInBlocks g sector n = (sector % g.block_sectors + n ≤ g.block_sectors) ⊎ ((sector % g.block_sectors ≡ 0) × (n % g.block_sectors ≡ 0))

-- ---- stops

-- While a request is done to a volume, whose slots are these: the image has the contents of the last commit, and but for values that the request
-- gives it is one that a stop might have left before.
abbrev pub IsHalf : Geometry → Call → ℕ → Volumes → Contents → List Cell → List Sector → Type 0
IsHalf g call id volumes kept cells image =
    (before : List Sector) × AfterStop cells before × HoldsContents g kept image × IsPartlyDone g call id volumes kept.volumes before image

-- While sectors are written: which slots there are does not matter to that.
abbrev pub IsHalfWritten : Geometry → ℕ → ℕ → List Sector → Contents → List Cell → List Sector → Type 0
IsHalfWritten g id sector sectors kept cells image = IsHalf g (Write id sector sectors false) id [] kept cells image

-- ---- what is written

module _ {M : Type 0} (geometry : M → Geometry) (stands : M → DiskState → Contents → Contents → Type 0) (marks : M → List Bool) where
  -- Sectors were written: of s that was shown they made the pool that is shown now.
  pub record HasWritten (id sector : ℕ) (sectors : List Sector) (after : M) (new : DiskState) (kept : Contents) (s : PlainPool) : Type 0 where
    pub contents : Contents
    pub pool : PlainPool
    pub standing : stands after new contents kept
    pub device : IsSome (device_of id contents.volumes)
    pub has : HasContents (geometry after) contents (seen new.cells) pool
    pub edits : Edits s (Write id sector sectors false) id pool

  -- The metadata have given the virtual block this data block, the least one that is free.
  abbrev pub Mapped : ℕ → ℕ → ℕ → M → M → DiskState → Contents → Contents → Type 0
  Mapped id block place before after mid now kept =
      IsLeastFree (geometry before) now.volumes kept.volumes place
      × ((meta_used : ℕ) × stands after mid (record now { volumes = with_slot id (record { block = block; place = place }) now.volumes; meta_used = meta_used }) kept)
      × (marks after ≡ marked (slot_of id block now.volumes) (marks before))

  -- Sectors were written, to n blocks from this one on that took a data block each, or in place. No other block has to take one that had not.
  pub record HasWrittenPart (id block n sector : ℕ) (sectors : List Sector) (taken : Bool) (before after : M) (old new : DiskState) (now kept : Contents) : Type 0 where
    pub volumes : Volumes
    pub meta_used : ℕ
    pub standing : stands after new (record now { volumes = volumes; meta_used = meta_used }) kept
    pub overwrites : Overwrites (geometry before) id sector sectors now.volumes volumes (seen old.cells) (seen new.cells)
    -- where the block has the data block that it had, nothing else was changed
    pub in_place : slot_of id block volumes ≡ slot_of id block now.volumes → (volumes ≡ now.volumes) × (meta_used ≡ now.meta_used)
    -- and where it took none, the metadata are as before
    pub still : taken ≡ false → (after ≡ before) × (volumes ≡ now.volumes)
    pub others : (other : ℕ) → (other < block) ⊎ (block + n ≤ other) → IsTrue (takes_block id volumes (marks after) other) → IsTrue (takes_block id now.volumes (marks before) other)
    pub free : free_places (geometry before) now.volumes kept.volumes
        ≤ free_places (geometry before) volumes kept.volumes + (if taken then n else 0)

  -- While they are written, a stop leaves nothing else.
  abbrev pub LeavesHalf : ℕ → ℕ → List Sector → M → DiskState → DiskState → Type 0
  LeavesHalf id sector sectors before old new =
      (now kept : Contents) → stands before old now kept → Reaches (geometry before) id (sector + length sectors) now.volumes → LeavesOnly old new (IsHalfWritten (geometry before) id sector sectors kept old.cells)

  -- There are as many free data blocks as n virtual blocks from this one on take.
  abbrev pub HasFree : ℕ → M → Contents → Contents → ℕ → ℕ → Type 0
  HasFree id metadata now kept first n = blocks_taken id now.volumes (marks metadata) first n ≤ free_places (geometry metadata) now.volumes kept.volumes

-- ---- room

-- Fewer metadata blocks are not in use than that.
abbrev pub LacksBlocks : ℕ → Geometry → Contents → Type 0
LacksBlocks least g now = g.metadata_blocks - now.meta_used < least

-- There is no more metadata room than a call wants that changes metadata.
abbrev pub LacksMetadata : Geometry → Contents → Type 0
LacksMetadata = LacksBlocks 512

-- A root is held, and there is no more metadata room than the removal of a volume wants then.
abbrev pub LacksForRemoval : Geometry → Contents → Type 0
LacksForRemoval g now = (0 < now.held_root) × LacksBlocks 256 g now

-- While there is a commit, a stop leaves what the last one kept, or what stands now.
abbrev pub IsReclaiming : Geometry → Contents → Contents → DiskState → List Sector → Type 0
IsReclaiming g now kept old image = IsStill g kept old.cells image ⊎ (HoldsContents g now image × SameData g (seen old.cells) image)

module _ {M : Type 0} (geometry : M → Geometry) (stands : M → DiskState → Contents → Contents → Type 0) (marks : M → List Bool) where
  -- Nothing was changed.
  pub record IsAsBefore (before after : M) (old new : DiskState) : Type 0 where
    pub metadata : after ≡ before
    pub disk : new ≡ old

  -- What stands was kept, with what stands in the data blocks.
  pub record IsKept (before after : M) (old new : DiskState) (now : Contents) : Type 0 where
    pub standing : stands after new now now
    pub unmarked : marks after ≡ replicate (geometry before).data_blocks false
    pub same_data : SameData (geometry before) (seen old.cells) (seen new.cells)
    pub left : Leaves (λ image. HoldsContents (geometry before) now image × SameData (geometry before) (seen old.cells) image) new.cells
    pub settled : IsSettled new.cells
