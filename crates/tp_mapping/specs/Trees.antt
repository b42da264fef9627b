-- Trusted reading: when trees on a disk stand for volumes (own).
use Rattle.std.specs.Prelude.{◌≡◌, ℕ, ◌<◌, ◌↔◌, [], Result, slice_index}
use Rattle.tp_model.specs.Disk.{DiskState}
use Rattle.tp_refs.specs.Store.{Store}
use Rattle.tp_sharing.specs.Volumes.{Unused, Volumes, volumes_of}
use Rattle.tp_counts.specs.declared.error.StoreError.{StoreError}
use Rattle.tp_tm.specs.Tm.{free_metadata, used_metadata}
use Rattle.tp_tm.specs.Holds.{Holds}
use Rattle.tp_stored.specs.Commit.{IsSound, held_by}
use Rattle.tp_mapping.specs.Mapping.{AreWithin, IsChanged}
use Rattle.tp_mapping.specs.declared.trees.TreeMapping.{TreeMapping}

-- The trees below the root stand on the disk for these volumes. The counts of the last commit name the data blocks of its volumes, and
-- no others.
pub record StandForVolumes (m : TreeMapping) (disk : DiskState) (now kept : Volumes) : Type 0 where
  pub store : Store
  pub holds : Holds m.tm disk [] (held_by m.tm.geometry m.root m.tm.held_root) store
  pub sound : IsSound m.tm.geometry m.root m.tm.held_root store
  pub listed : now ≡ volumes_of m.tm.geometry.metadata_blocks store m.root m.tm.held_root
  pub within : AreWithin m.tm.geometry m.tm.metadata_kept now kept
  pub kept_places : (place : ℕ) → place < m.tm.geometry.data_blocks → (slice_index m.tm.data_kept place ≡ 0) ↔ Unused place kept

-- A call changed a mapping on trees.
abbrev pub ChangesTrees : {A : Type 0} → ℕ → TreeMapping → TreeMapping → DiskState → DiskState → Result A StoreError → ((Volumes → Volumes → Type 0) → Type 0)
    → (A → Volumes → Volumes → Type 0) → Type 0
ChangesTrees n old new before after result OfAll Made =
    IsChanged (λ m. m.tm.geometry) (λ m. free_metadata m.tm) (λ m. used_metadata m.tm) (λ m. m.tm.metadata_kept) (λ m. m.tm.data_kept) (λ m. m.tm.held_root) n old new before after result OfAll Made
