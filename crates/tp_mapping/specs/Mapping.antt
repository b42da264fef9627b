-- Trusted reading: what a mapping tells of its volumes, and what its calls leave (own).
use Rattle.std.specs.Prelude.{◌≡◌, ℕ, ◌+◌, ◌*◌, ◌^◌, ◌<◌, ◌≤◌, ◌==◌, ◌↔◌, Bool, IsTrue, IsSome, List, [], ◌∷◌, ◌++◌, length, nat_le, not, slice_index_or, take, ◌||◌, Option, None, Some, Err, IfOk, Result, if◌then◌else◌}
use Rattle.std.specs.List.{count_by, range_with_len}
use Rattle.std.specs.Option.{option_map_or}
use Rattle.tp_model.specs.Geometry.{Geometry, IsWithinLimits, fixed_part}
use Rattle.tp_model.specs.Pool.{is_now}
use Rattle.tp_model.specs.Sectors.{Sector, sector_at}
use Rattle.tp_model.specs.Disk.{DiskState, FaultHasCause, IsSameDisk}
use Rattle.tp_counts.specs.LookUps.{IsLookedUp}
use Rattle.tp_counts.specs.declared.error.StoreError.{StoreError}
use Rattle.tp_counts.specs.declared.error.StoreError.TheVariants.{Damaged}
use Rattle.tp_counts.specs.StoreErrors.{is_fault}
use Rattle.tp_sharing.specs.Volumes.{AreSized, BlockSlot, DevicesAscend, OtherSlot, Unused, Volumes, device_of, devices_in, size_of, slot_of}
use Rattle.tp_tm.specs.Keeps.{LeavesKept}
use Rattle.tp_mapping.specs.Slots.{is_used}
use Rattle.tp_mapping.specs.declared.mapped.Mapped.{Mapped}

-- ---- volumes of a pool

-- The devices and their slots are in order and within the sizes of a pool.
pub record IsWithin (g : Geometry) (volumes : Volumes) : Type 0 where
  pub ascend : DevicesAscend 0 volumes
  pub few : devices_in volumes ≤ 65536
  pub ids : (id : ℕ) (slots : List BlockSlot) → device_of id volumes ≡ Some slots → id < 2 ^ 25
  pub slots : (id block place : ℕ) → slot_of id block volumes ≡ Some place → (block < 2 ^ 24) × (place < g.data_blocks)
  pub sized : AreSized g volumes

-- what holds of each mapping that stands: its volumes now and at the last commit, and counts of the blocks that the latter names
pub record AreWithin (g : Geometry) (counts : List ℕ) (now kept : Volumes) : Type 0 where
  pub limits : IsWithinLimits g
  pub volumes_now : IsWithin g now
  pub volumes_kept : IsWithin g kept
  pub sized : length counts ≡ g.metadata_blocks

-- The images are the same in the metadata blocks that may hold nodes of trees.
pub record SameTreeBlocks (g : Geometry) (old new : List Sector) : Type 0 where
  pub same_length : length new ≡ length old
  pub same : (i : ℕ) → 8 * fixed_part g ≤ i → i < 8 * g.metadata_blocks → sector_at new i ≡ sector_at old i

-- the devices without the copies of a held root
abbrev pub without_copies : Volumes → Volumes
without_copies [] = []
without_copies (d ∷ ds) = if is_now d.id then d ∷ without_copies ds else without_copies ds

-- ---- sizes

-- the size that a record tells of so many blocks
abbrev pub size_for : Geometry → ℕ → ℕ
size_for g blocks = if blocks == g.virtual_blocks then 0 else blocks

-- ---- what is told

-- what is told of a virtual block of a device: its data block, and whether another slot has that too
abbrev pub IsTold : ℕ → ℕ → Volumes → Option Mapped → Type 0
IsTold id block volumes None = slot_of id block volumes ≡ None
IsTold id block volumes (Some at) = (slot_of id block volumes ≡ Some at.place) × (IsTrue at.is_shared ↔ OtherSlot id block at.place volumes)

-- What is told of n virtual blocks of a device from this one on.
abbrev pub AreTold : ℕ → ℕ → Volumes → ℕ → List (Option Mapped) → Type 0
AreTold id first volumes n places = (i : ℕ) → i < n → IsTold id (first + i) volumes (slice_index_or places i None)

-- one of so many data blocks, if any
abbrev pub IsInside : ℕ → Option Mapped → Type 0
IsInside data_blocks None = Unit {0}
IsInside data_blocks (Some at) = at.place < data_blocks

abbrev pub AreInside : ℕ → ℕ → List (Option Mapped) → Type 0
AreInside data_blocks n places = (i : ℕ) → i < n → IsInside data_blocks (slice_index_or places i None)

-- The greatest virtual block of a device that has a data block; none where there is no device, or no slot of it.
abbrev pub IsHighest : ℕ → Volumes → Option ℕ → Type 0
IsHighest id volumes None = (block : ℕ) → slot_of id block volumes ≡ None
IsHighest id volumes (Some top) = IsSome (slot_of id top volumes) × ((block : ℕ) → IsSome (slot_of id block volumes) → block ≤ top)

-- the slots of a device; none where there is no device
abbrev pub slots_or_none : Option (List BlockSlot) → List BlockSlot
slots_or_none None = []
slots_or_none (Some slots) = slots

abbrev pub slots_of : ℕ → Volumes → List BlockSlot
slots_of id volumes = slots_or_none (device_of id volumes)

-- the size that is told of a device; 0 where there is no device
abbrev pub size_or_none : Volumes → ℕ → ℕ
size_or_none volumes id = option_map_or (λ n. n) (size_of id volumes) 0

-- the slots with virtual blocks from this one on
abbrev pub from_block : ℕ → List BlockSlot → List BlockSlot
from_block low [] = []
from_block low (x ∷ xs) = if nat_le low x.block then x ∷ from_block low xs else from_block low xs

-- To the old slots these were added, as many as there was room for.
abbrev pub IsFilled : List BlockSlot → List BlockSlot → List BlockSlot → Type 0
IsFilled added old new = new ≡ take 252 (old ++ added)

-- slots were added at the end
abbrev pub IsLonger : List BlockSlot → List BlockSlot → Type 0
IsLonger old new = (added : List BlockSlot) × (new ≡ old ++ added)

-- ---- data blocks

-- no slot has the data block now, and none had it at the last commit
abbrev pub IsFree : Volumes → Volumes → ℕ → Type 0
IsFree now kept place = Unused place now × Unused place kept

-- the least data block that is free
pub record IsLeastFree (g : Geometry) (now kept : Volumes) (place : ℕ) : Type 0 where
  pub inside : place < g.data_blocks
  pub free : IsFree now kept place
  pub least : (other : ℕ) → other < place → IsFree now kept other → ⊥

-- how many data blocks are free
abbrev pub free_places : Geometry → Volumes → Volumes → ℕ
free_places g now kept = count_by (λ place. not (is_used place now || is_used place kept)) (range_with_len 0 g.data_blocks)

-- no data block is free
abbrev pub NoneIsFree : Geometry → Volumes → Volumes → Type 0
NoneIsFree g now kept = (place : ℕ) → place < g.data_blocks → IsFree now kept place → ⊥

-- A call looked something up in a mapping that stands so on an honest disk.
abbrev pub LooksUp : {A : Type 0} → (DiskState → Volumes → Volumes → Type 0) → DiskState → DiskState → Result A StoreError → (A → Volumes → Type 0) → Type 0
LooksUp stands before after result Told =
    IsLookedUp (λ (P : Volumes → Volumes → Type 0). IsTrue before.is_honest → (now kept : Volumes) → stands before now kept → P now kept) before after result
    (λ answer now kept. Told answer now)

-- ---- what a change leaves

-- A call changed a mapping and read and wrote on one disk: it took n free metadata blocks at most, a stop at any moment of it
-- changes nothing that the last commit names, a fault is answered exactly where the disk failed, and nothing was flushed.
pub record Ran (n : ℕ) (faulted : Bool) (before_room after_room : ℕ) (counts after_counts : List ℕ) (g after_g : Geometry) (before after : DiskState) : Type 0 where
  pub geometry : after_g ≡ g
  pub counts_kept : after_counts ≡ counts
  pub room : before_room ≤ after_room + n
  pub any_moment : LeavesKept counts before after
  pub same_disk : IsSameDisk before after
  pub cause : FaultHasCause faulted before after
  pub flushes : after.flushes ≡ before.flushes

module _ {M : Type 0} (sizes : M → Geometry) (room_of used_of : M → ℕ) (kept_of data_of : M → List ℕ) (held_of : M → ℕ) where
  -- A call changed a mapping, by n free metadata blocks at most, and as many more are in use then at most. `OfAll P` says P of all that may stand before it, by the volumes of now and of the last commit. Of all that it made
  -- what it was to make, and where any stands it found nothing damaged. What the last commit names stays named, and a held copy stays held.
  pub record IsChanged {A : Type 0} (n : ℕ) (old new : M) (before after : DiskState) (result : Result A StoreError) (OfAll : (Volumes → Volumes → Type 0) → Type 0) (Made : A → Volumes → Volumes → Type 0) : Type 0 where
    pub made : IfOk result (λ answer. OfAll (Made answer))
    pub damaged : result ≡ Err Damaged → OfAll (λ now kept. ⊥)
    pub ran : Ran n (is_fault result) (room_of old) (room_of new) (kept_of old) (kept_of new) (sizes old) (sizes new) before after
    pub used : used_of new ≤ used_of old + n
    pub same_kept : data_of new ≡ data_of old
    pub same_held : held_of new ≡ held_of old
