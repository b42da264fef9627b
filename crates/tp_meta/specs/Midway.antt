-- Internal: a commit in its midst (own).
use Rattle.std.specs.Prelude.{◌≡◌, ◌≢◌, ◌⊎◌, ℕ, ◌+◌, ◌%◌, ◌<◌, ◌≤◌, ◌^◌, Bool, List, [], ◌∷◌, IsTrue, OnErr, OnOk, Result, Ok, false, is_err, length, true}
use Rattle.tp_model.specs.declared.refusal.Refusal.{Refusal}
use Rattle.tp_model.specs.Geometry.{IsWithinLimits, fixed_part, sectors_of_image}
use Rattle.tp_model.specs.Disk.{DiskState, IsSameDisk, IsSettled, after_write, seen}
use Rattle.tp_model.specs.DiskStops.{Leaves, LeavesOnly, LeavesOutside}
use Rattle.tp_layout.specs.Super.{IsGoodSuper, slot_number, super_bytes}
use Rattle.tp_layout.specs.declared.counts.Part.{Part}
use Rattle.tp_layout.specs.declared.superblock.SlotId.{SlotId}
use Rattle.tp_layout.specs.declared.superblock.Superblock.{Superblock}
use Rattle.tp_image.specs.Areas.{HoldsCounts}
use Rattle.tp_image.specs.Slots.{Chooses}
use Rattle.tp_super.specs.Store.{IsNext, IsStoring, super_sector}
use Rattle.tp_refs.specs.Store.{Store, committed, node_at}
use Rattle.tp_stored.specs.Commit.{held_by}
use Rattle.tp_stored.specs.Contents.{Contents, SameData}
use Rattle.tp_tm.specs.Tm.{IsSized, Tm, kept_now, now_of}
use Rattle.tp_tm.specs.Holds.{Holds}
use Rattle.tp_mapping.specs.Trees.{StandForVolumes}
use Rattle.tp_meta.specs.Committing.{IsNextCommit, IsStillCommit, MayCommit}
use Rattle.tp_meta.specs.Metadata.{IsLater, RanWithFlushes}
use Rattle.tp_meta.specs.Stale.{AreCurrent, SameArea}
use Rattle.tp_meta.specs.Standing.{StandsFor, next_of}
use Rattle.tp_meta.specs.declared.stale.StaleBlocks.{StaleBlocks}
use Rattle.tp_meta.specs.declared.whole.Meta.{Meta}

-- The nodes of a store and the counts for the superblock `next` were written since `before`, and the disk was flushed n times. No superblock was.
pub record IsWritten (n : ℕ) (t : Tm) (stale : StaleBlocks) (next : Superblock) (before disk : DiskState) : Type 0 where
  pub area : SlotId
  pub its : slot_number area ≡ next.sequence % 2
  pub limits : IsWithinLimits t.geometry
  pub sized : IsSized t
  pub run : (last : Superblock) (kept s : Store) → MayCommit t stale before last next kept s → LeavesOnly before disk (IsStillCommit last kept before.cells)
  pub holds : (held : List ℕ) (s : Store) → Holds t before [] held s → ((b : ℕ) → b < fixed_part t.geometry → (node_at s b).rank ≡ 0) → Holds t disk [] held s
  pub counts : (last : Superblock) (kept s : Store) → MayCommit t stale before last next kept s → (part : Part) → HoldsCounts (seen disk.cells) t.geometry part area (now_of t part)
  pub beside : (last : Superblock) (kept s : Store) → MayCommit t stale before last next kept s → (other : SlotId) → other ≢ area
      → SameArea t.geometry other (seen before.cells) (seen disk.cells)
  pub same_data : SameData t.geometry (seen before.cells) (seen disk.cells)
  pub time : IsLater before disk
  pub same_disk : IsSameDisk before disk
  pub failures : disk.failures ≡ before.failures
  pub flushes : disk.flushes ≡ before.flushes + n

-- They were flushed, and behind that the superblock was written, which no flush has kept yet.
pub record IsNamed (t : Tm) (stale : StaleBlocks) (next : Superblock) (before disk : DiskState) : Type 0 where
  pub mid : DiskState
  pub written : IsWritten 1 t stale next before mid
  pub settled : IsSettled mid.cells
  pub whole : sectors_of_image t.geometry ≤ length (seen mid.cells)
  pub is : disk ≡ after_write (super_sector next) (super_bytes next ∷ []) mid
  pub any_moment : (slot : SlotId) (one : Result Superblock Refusal) → IsGoodSuper slot next → IsNext one next → Leaves (λ image. Chooses image one) mid.cells
      → LeavesOnly mid disk (IsStoring one next mid.cells)
  pub chosen : (slot : SlotId) (one : Result Superblock Refusal) → IsGoodSuper slot next → IsNext one next → Leaves (λ image. Chooses image one) mid.cells
      → Chooses (seen disk.cells) (Ok next)
  pub outside : LeavesOutside (super_sector next) 1 mid disk

-- What a commit of a store of nodes did since `before`, in all its parts.
pub record StoresCommit {A E : Type 0} (t u : Tm) (stale new : StaleBlocks) (next : Superblock) (result : Result A E) (before after : DiskState) : Type 0 where
  pub any_moment : (last : Superblock) (kept s : Store) → MayCommit t stale before last next kept s
      → LeavesOnly before after (λ image. IsStillCommit last kept before.cells image ⊎ IsNextCommit next s before.cells image)
  pub stored : OnOk result ((last : Superblock) (kept s : Store) → MayCommit t stale before last next kept s → Leaves (IsNextCommit next s before.cells) after.cells)
  pub holds : OnOk result ((last : Superblock) (kept s : Store) → MayCommit t stale before last next kept s
      → Holds u after [] (held_by next.geometry next.root next.held_root) (committed s))
  pub current : OnOk result ((last : Superblock) (kept s : Store) → MayCommit t stale before last next kept s → AreCurrent u new (seen after.cells))
  pub same_data : SameData t.geometry (seen before.cells) (seen after.cells)
  pub kept : OnOk result (u ≡ kept_now t)
  pub unchanged : OnErr result (u ≡ t)
  pub ran : RanWithFlushes 2 2 (is_err result) result before after

-- On this disk the trees stand for these contents as they are read, whatever a stop leaves.
pub record TellsFor (m : Meta) (disk : DiskState) (now kept : Contents) : Type 0 where
  pub honest : IsTrue disk.is_honest
  pub mapping : StandForVolumes m.mapping disk now.volumes kept.volumes
  pub marks_long : length m.marks ≡ m.mapping.tm.geometry.data_blocks

pub tells_so : (m : Meta) (disk : DiskState) (now kept : Contents) → StandsFor m disk now kept → TellsFor m disk now kept
tells_so m disk now kept st = record { honest = st.honest; mapping = st.mapping; marks_long = st.marks_long }

-- The next commit of the metadata was begun on the disk `before`: its superblock is written, or the nodes and the counts alone.
abbrev pub CommitStage : Meta → Bool → DiskState → DiskState → Type 0
CommitStage m true before disk = IsNamed m.mapping.tm m.stale.value (next_of m) before disk
CommitStage m false before disk = IsWritten 0 m.mapping.tm m.stale.value (next_of m) before disk

pub record IsMidway (m : Meta) (is_named : Bool) (before disk : DiskState) : Type 0 where
  pub changed : m.is_changed ≡ true
  pub stage : CommitStage m is_named before disk
