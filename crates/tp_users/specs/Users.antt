-- Trusted reading: what the users of a pool want to know of it (own).
use Rattle.std.specs.Prelude.{◌≡◌, ◌≢◌, ◌⊎◌, ℕ, ◌+◌, ◌-◌, ◌*◌, ◌/◌, ◌<◌, ◌≤◌, List, Some, length, replicate, take, drop, IsTrue, false, true}
use Rattle.std.specs.FinMap.{empty, insert, remove}
use Rattle.std.specs.List.{count_by, range_with_len}
use Rattle.tp_model.specs.declared.mode.Mode.TheVariants as mode
use Rattle.tp_model.specs.declared.refusal.Refusal.{Refusal}
use Rattle.tp_model.specs.declared.refusal.Refusal.TheVariants.{Fault, Memory, NoMetadataSpace}
use Rattle.tp_model.specs.Geometry.{Geometry}
use Rattle.tp_model.specs.Sectors.{Sector, sectors_of, zero_sector}
use Rattle.tp_model.specs.Pool.{PlainPool, copy_id, is_exclusive, used, volume_sectors, volume_size}
use Rattle.tp_model.specs.Calls.{Makes, ReleaseMetadataSnap, after_refusal, exists, has_copy, new_volume, touches, volume_of}
use Rattle.tp_model.specs.Status.{pool_line}
use Rattle.tp_model.specs.PoolStops.{reopened}
use Rattle.tp_model.specs.Disk.{DiskState, IsSettled, seen}
use Rattle.tp_model.specs.DiskStops.{AfterStop}
use Rattle.tp_image.specs.Fresh.{empty_pool}
use Rattle.tp_image.specs.Stands.{StandsFor}
use Rattle.tp_pool.specs.Checked.{cleared}
use Rattle.tp_pool.specs.Held.{IsSomePool}

-- 16 blocks of 128 sectors a volume, over as many data blocks
abbrev pub users_geometry : Geometry
users_geometry = record { block_sectors = 128; virtual_blocks = 16; metadata_blocks = 2048; data_blocks = 16 }

-- a pool of these sizes with one volume, which has no data blocks
abbrev pub IsBlank : ℕ → PlainPool → Type 0
IsBlank id s = (meta_used : ℕ) × (s ≡ record (empty_pool users_geometry) { volumes = insert empty id (new_volume users_geometry); meta_used = meta_used })

-- A pool that works, whose volume has these bytes from a sector on.
pub record Bears (id sector : ℕ) (bytes : List ℕ) (s : PlainPool) : Type 0 where
  pub geometry : s.geometry ≡ users_geometry
  pub works : s.mode ≡ mode.Writable
  pub clean : s.needs_check ≡ false
  pub there : exists s id ≡ true
  pub inside : sector + length bytes / 512 ≤ length (volume_sectors s id)
  pub bytes_are : take (length bytes / 512) (drop sector (volume_sectors s id)) ≡ sectors_of bytes

-- A pool that works and holds a copy of its mapping, in which the volume has these bytes from a sector on.
pub record BearsCopy (id sector : ℕ) (bytes : List ℕ) (s : PlainPool) : Type 0 where
  pub works : s.mode ≡ mode.Writable
  pub held : 0 < s.held_root
  pub there : has_copy s id ≡ true
  pub bytes_are : take (length bytes / 512) (drop sector (volume_sectors s (copy_id id))) ≡ sectors_of bytes

-- A pool that works, whose volume has so many blocks: behind the end that it had first all is zero.
pub record IsGrown (id blocks : ℕ) (s : PlainPool) : Type 0 where
  pub geometry : s.geometry ≡ users_geometry
  pub works : s.mode ≡ mode.Writable
  pub clean : s.needs_check ≡ false
  pub there : exists s id ≡ true
  pub size : volume_size s id ≡ Some (blocks * 128)
  pub zeros : (from : ℕ) → 2048 ≤ from → drop from (volume_sectors s id) ≡ replicate (blocks * 128 - from) zero_sector

-- the pool behind a refusal for want of metadata room
abbrev pub short : PlainPool → PlainPool
short s = after_refusal NoMetadataSpace s

-- the pool as it is opened behind that, where its flag was cleared
abbrev pub recovered : PlainPool → PlainPool
recovered s = reopened (cleared s)

-- There is no memory, or the disk failed. A disk in memory of which no call was made to fail does so only where there is no memory for
-- what is written.
abbrev pub IsOutside : Refusal → Type 0
IsOutside reason = (reason ≡ Memory) ⊎ (reason ≡ Fault)

-- The disk holds what was kept of a pool: it is honest and settled, and its image is opened as that pool.
pub record IsKept (s : PlainPool) (disk : DiskState) : Type 0 where
  pub honest : IsTrue disk.is_honest
  pub settled : IsSettled disk.cells
  pub is_pool : IsSomePool (seen disk.cells)
  pub stands : StandsFor (seen disk.cells) (reopened s)

-- whatever a stop leaves of the disk is opened as that pool
abbrev pub IsLeftAs : PlainPool → DiskState → Type 0
IsLeftAs s disk = (image : List Sector) → AfterStop disk.cells image → IsSomePool image × StandsFor image (reopened s)

-- the image stands for this pool, and for no other
pub record StandsForOne (image : List Sector) (s : PlainPool) : Type 0 where
  pub stands : StandsFor image s
  pub alone : (other : PlainPool) → StandsFor image other → other ≡ s

-- The status lines of a pool, of the same with a snapshot of one of its volumes, and of the same behind the snapshot's removal: at most three
-- metadata blocks more are in use for the second, and no more than that for the third, where no metadata root is held.
pub record CostsFew (s : PlainPool) (id origin : ℕ) (before between behind : List ℕ) : Type 0 where
  pub more : ℕ  -- metadata blocks in use with the snapshot
  pub left : ℕ  -- those in use behind its removal
  pub before_is : before ≡ pool_line s
  pub between_is : between ≡ pool_line (record s { volumes = insert s.volumes id (volume_of s origin); meta_used = more })
  pub behind_is : behind ≡ pool_line (record s { meta_used = left })
  pub few : s.held_root ≡ 0 → more ≤ s.meta_used + 3
  pub none : s.held_root ≡ 0 → left ≤ more

-- The data blocks that a volume has for itself: no other slot has their labels.
abbrev pub own_blocks : PlainPool → ℕ → ℕ
own_blocks s id = count_by (is_exclusive s id) (range_with_len 0 (length (volume_sectors s id) / s.geometry.block_sectors))

-- the blocks of a volume of which a range of sectors has some
abbrev pub blocks_touched : PlainPool → ℕ → ℕ → ℕ → ℕ
blocks_touched s id sector count = count_by (touches s.geometry sector count) (range_with_len 0 (length (volume_sectors s id) / s.geometry.block_sectors))

-- What the release of the held copies frees: each block of this volume, at least, of which a range has some sectors; and there are such blocks.
pub record Frees (id sector count : ℕ) (s : PlainPool) : Type 0 where
  pub those : (after : PlainPool) → Makes s ReleaseMetadataSnap after → used after + blocks_touched s id sector count ≤ used s
  pub some : 0 < count → 0 < blocks_touched s id sector count

-- An image is opened as the pool that was, with the whole volume; or as that pool without the volume. Where a metadata root is held, also as the pool
-- that was, with the whole volume, which was refused for want of metadata room.
abbrev pub IsWholeOrGone : ℕ → PlainPool → PlainPool → Type 0
IsWholeOrGone id s P =
    (P ≡ reopened s)
    ⊎ ((s.held_root ≢ 0) × (P ≡ reopened (short s)))
    ⊎ ((meta_used : ℕ) × (P ≡ reopened (record s { volumes = remove s.volumes id; meta_used = meta_used })))
