-- Trusted reading: what the metadata of a pool tell, and what their calls leave (own).
use Rattle.std.specs.Prelude.{◌≡◌, ◌⊎◌, ℕ, zero, suc, ◌+◌, ◌^◌, ◌<◌, ◌≤◌, ◌↔◌, Bool, IsTrue, true, false, if◌then◌else◌, List, [], ◌∷◌, ◌++◌, replicate, set, Option, None, Some, Err, IfOk, OnOk, Result, is_err, slice_index_or}
use Rattle.tp_model.specs.Geometry.{Geometry, IsWithinLimits}
use Rattle.tp_model.specs.Sectors.{Sector}
use Rattle.tp_model.specs.Disk.{Cell, DiskState, FaultHasCause, IsSameDisk, IsSettled, seen}
use Rattle.tp_model.specs.DiskStops.{AfterStop, Leaves, LeavesOnly, moments}
use Rattle.tp_counts.specs.LookUps.{IsLookedUp}
use Rattle.tp_counts.specs.declared.error.StoreError.{StoreError}
use Rattle.tp_counts.specs.declared.error.StoreError.TheVariants.{Damaged}
use Rattle.tp_counts.specs.StoreErrors.{is_fault}
use Rattle.tp_sharing.specs.Volumes.{BlockSlot, OtherSlot, Volumes, device_of, slot_of}
use Rattle.tp_stored.specs.Contents.{Contents, HoldsContents, IsStill, SameData, SameMetadata}
use Rattle.tp_mapping.specs.Mapping.{IsWithin}
use Rattle.tp_mapping.specs.declared.mapped.Mapped.{Mapped}
use Rattle.tp_meta.specs.declared.metadata.Home.{Home}

-- the data block is marked
abbrev pub IsHot : List Bool → ℕ → Type 0
IsHot marks place = slice_index_or marks place false ≡ true

-- A slot of the last commit has its data block still, or the data block is marked.
abbrev pub IsTracked : Volumes → Volumes → List Bool → Type 0
IsTracked now kept marks = (id block place : ℕ) → slot_of id block kept ≡ Some place → (slot_of id block now ≡ Some place) ⊎ IsHot marks place

-- the marks when a slot that had this data block lost it
abbrev pub marked : Option ℕ → List Bool → List Bool
marked None marks = marks
marked (Some place) marks = set marks place true

-- the marks when slots lost their data blocks
abbrev pub marked_all : List BlockSlot → List Bool → List Bool
marked_all [] marks = marks
marked_all (x ∷ xs) marks = marked_all xs (marked (Some x.place) marks)

-- the marks when n virtual blocks of a device from this one on lost the data blocks that they had
abbrev pub marked_run : ℕ → ℕ → ℕ → Volumes → List Bool → List Bool
marked_run id first zero volumes marks = marks
marked_run id first (suc n) volumes marks = marked (slot_of id (first + n) volumes) (marked_run id first n volumes marks)

-- what is told of a virtual block of a device: its data block, whether another slot has that too, and whether it is marked
abbrev pub IsTold : ℕ → ℕ → Volumes → List Bool → Option Home → Type 0
IsTold id block volumes marks None = slot_of id block volumes ≡ None
IsTold id block volumes marks (Some home) =
    (slot_of id block volumes ≡ Some home.place) × (IsTrue home.is_shared ↔ OtherSlot id block home.place volumes) × (home.is_hot ≡ slice_index_or marks home.place false)

-- what is told of n virtual blocks of a device from this one on
abbrev pub AreTold : ℕ → ℕ → Volumes → List Bool → ℕ → List (Option Home) → Type 0
AreTold id first volumes marks n homes = (i : ℕ) → i < n → IsTold id (first + i) volumes marks (slice_index_or homes i None)

-- one of so many data blocks, if any
abbrev pub IsInside : ℕ → Option Home → Type 0
IsInside data_blocks None = Unit {0}
IsInside data_blocks (Some home) = home.place < data_blocks

abbrev pub AreInside : ℕ → ℕ → List (Option Home) → Type 0
AreInside data_blocks n homes = (i : ℕ) → i < n → IsInside data_blocks (slice_index_or homes i None)

-- what is told of a place, by these marks
abbrev pub home_of : List Bool → Option Mapped → Option Home
home_of marks None = None
home_of marks (Some at) = Some (record { place = at.place; is_shared = at.is_shared; is_hot = slice_index_or marks at.place false })

-- a call looked something up in metadata that stand so
abbrev pub LooksUp : {A : Type 0} → (DiskState → Contents → Contents → Type 0) → DiskState → DiskState → Result A StoreError → (A → Contents → Type 0) → Type 0
LooksUp stands before after result Told =
    IsLookedUp (λ (P : Contents → Contents → Type 0). (now kept : Contents) → stands before now kept → P now kept) before after result (λ answer now kept. Told answer now)

-- What holds of all contents that stand: they are within the sizes, no metadata block is both free and in use, and each that is not free is in use
-- now or was at the last commit.
pub record AreWithin (g : Geometry) (free : ℕ) (marks : List Bool) (now kept : Contents) : Type 0 where
  pub limits : IsWithinLimits g
  pub volumes_now : IsWithin g now.volumes
  pub volumes_kept : IsWithin g kept.volumes
  pub tracked : IsTracked now.volumes kept.volumes marks
  -- where no root is held, there are no copies
  pub copies : now.held_root ≡ 0 → (id : ℕ) → 2 ^ 24 ≤ id → device_of id now.volumes ≡ None
  pub room : free + now.meta_used ≤ g.metadata_blocks
  pub no_less_room : g.metadata_blocks ≤ free + now.meta_used + kept.meta_used

-- The metadata blocks are as they were, for reads and for a stop.
pub record KeepsMetadata (g : Geometry) (old new : DiskState) : Type 0 where
  pub same_disk : IsSameDisk old new
  pub seen_same : SameMetadata g (seen old.cells) (seen new.cells)
  pub left : Leaves (λ image. (before : List Sector) × AfterStop old.cells before × SameMetadata g before image) new.cells

-- The disk has been all that it had been before, and what a call made of it since.
pub record IsLater (old new : DiskState) : Type 0 where
  pub between : List (List Cell)
  pub joined : moments new ≡ between ++ moments old

-- A call changed the metadata and read and wrote on one disk: it took n free metadata blocks at most, a fault is answered exactly
-- where the disk failed, and nothing was flushed.
pub record Ran (n : ℕ) (faulted : Bool) (before_room after_room : ℕ) (g after_g : Geometry) (before after : DiskState) : Type 0 where
  pub geometry : after_g ≡ g
  pub room : before_room ≤ after_room + n
  pub same_disk : IsSameDisk before after
  pub cause : FaultHasCause faulted before after
  pub flushes : after.flushes ≡ before.flushes
  pub time : IsLater before after

-- While a change runs, a stop leaves the contents of the last commit, and no data block changes.
pub record IsChanging (g : Geometry) (kept : Contents) (old new : DiskState) : Type 0 where
  pub any_moment : LeavesOnly old new (IsStill g kept old.cells)
  pub same_data : SameData g (seen old.cells) (seen new.cells)

module _ {M : Type 0} (stands : M → DiskState → Contents → Contents → Type 0) (marks_of : M → List Bool) where
  -- These stand now for these volumes with these marks. What the last commit kept stays.
  abbrev pub StandsWith : M → DiskState → Contents → Contents → Volumes → List Bool → Type 0
  StandsWith new after now kept volumes marks = ((meta_used : ℕ) × stands new after (record now { volumes = volumes; meta_used = meta_used }) kept) × (marks_of new ≡ marks)

module _ {M : Type 0} (sizes : M → Geometry) (stands : M → DiskState → Contents → Contents → Type 0) (room_of : M → ℕ) where
  -- A call altered metadata, by n free metadata blocks at most. `OfAll P` says P of all that may stand before it, by the contents of now and of the last commit. Of all that it made
  -- what it was to make, and where any stands it found nothing damaged. A stop in it leaves the contents of the last commit.
  pub record IsAltered {A : Type 0} (n : ℕ) (old new : M) (before after : DiskState) (result : Result A StoreError) (OfAll : (Contents → Contents → Type 0) → Type 0) (Made : A → Contents → Contents → Type 0) : Type 0 where
    pub made : IfOk result (λ answer. OfAll (Made answer))
    pub damaged : result ≡ Err Damaged → OfAll (λ now kept. ⊥)
    pub changing : (now kept : Contents) → stands old before now kept → IsChanging (sizes old) kept before after
    pub ran : Ran n (is_fault result) (room_of old) (room_of new) (sizes old) (sizes new) before after

-- While a commit runs, a stop leaves the contents of the last one, or those of now with the data blocks that reads give.
pub record IsCommitting (g : Geometry) (now kept : Contents) (old new : DiskState) : Type 0 where
  pub any_moment : LeavesOnly old new (λ image. IsStill g kept old.cells image ⊎ (HoldsContents g now image × SameData g (seen old.cells) image))
  pub same_data : SameData g (seen old.cells) (seen new.cells)

-- A call wrote to one disk and flushed it: never more than `most` times, and `done` times where it succeeded, with nothing written behind the last one. A fault is
-- answered exactly where the disk failed.
pub record RanWithFlushes {A E : Type 0} (done most : ℕ) (faulted : Bool) (result : Result A E) (before after : DiskState) : Type 0 where
  pub time : IsLater before after
  pub same_disk : IsSameDisk before after
  pub cause : FaultHasCause faulted before after
  pub flushes : (before.flushes ≤ after.flushes) × (after.flushes ≤ before.flushes + most)
  pub flushed : OnOk result (after.flushes ≡ before.flushes + done)
  pub settled : OnOk result (IsSettled after.cells)

module _ {M : Type 0} (sizes : M → Geometry) (stands : M → DiskState → Contents → Contents → Type 0) (marks_of : M → List Bool) (room_of : M → ℕ) (changed_of : M → Bool) where
  -- A call committed metadata. Where enough room is left, a stop in it leaves the contents of the last commit or those of now; where it succeeded these are kept, with the data blocks that
  -- reads gave, no data block is marked, and nothing has changed since.
  pub record IsCommitted {A E : Type 0} (old new : M) (result : Result A E) (before after : DiskState) : Type 0 where
    pub kept : OnOk result ((now kept : Contents) → stands old before now kept → now.meta_used + 128 ≤ (sizes old).metadata_blocks
        → stands new after now now × (room_of new + now.meta_used ≡ (sizes old).metadata_blocks)
        × Leaves (λ image. HoldsContents (sizes old) now image × SameData (sizes old) (seen before.cells) image) after.cells)
    pub marks : OnOk result (marks_of new ≡ replicate (sizes old).data_blocks false)
    pub committing : (now kept : Contents) → stands old before now kept → now.meta_used + 128 ≤ (sizes old).metadata_blocks → IsCommitting (sizes old) now kept before after
    pub geometry : sizes new ≡ sizes old
    pub room : OnOk result (room_of old ≤ room_of new)
    pub unchanged : OnOk result (changed_of new ≡ false)
    pub ran : RanWithFlushes (if changed_of old then 2 else 1) (if changed_of old then 2 else 1) (is_err result) result before after

module _ {M : Type 0} (sizes : M → Geometry) (stands tells : M → DiskState → Contents → Contents → Type 0) where
  -- Between two parts of a commit, which was begun on the disk `before`: look-ups tell what stood there, and no data block has changed.
  pub record IsBetween (m : M) (before disk : DiskState) : Type 0 where
    pub told : (now kept : Contents) → stands m before now kept → tells m disk now kept
    pub same_data : SameData (sizes m) (seen before.cells) (seen disk.cells)
    pub same_disk : IsSameDisk before disk
