-- Trusted reading: when trees and what is in memory beside them stand for contents (own).
use Rattle.std.specs.Prelude.{◌≡◌, ℕ, ◌+◌, ◌++◌, Bool, List, [], IfSome, IsTrue, false, length, replicate, take}
use Rattle.tp_model.specs.Geometry.{Geometry, fixed_part}
use Rattle.tp_model.specs.Disk.{DiskState, seen}
use Rattle.tp_model.specs.DiskStops.{Leaves}
use Rattle.tp_layout.specs.declared.superblock.Version.TheVariants.{OwnSizes}
use Rattle.tp_layout.specs.declared.superblock.Superblock.{Superblock}
use Rattle.tp_image.specs.Slots.{next_sequence}
use Rattle.tp_refs.specs.Store.{Store}
use Rattle.tp_sharing.specs.Volumes.{devices_in}
use Rattle.tp_stored.specs.Commit.{IsCommit}
use Rattle.tp_stored.specs.Contents.{Contents, contents_of}
use Rattle.tp_tm.specs.Tm.{free_metadata, kept_now, used_metadata}
use Rattle.tp_mapping.specs.Trees.{StandForVolumes}
use Rattle.tp_meta.specs.Committing.{KeepsCounts}
use Rattle.tp_meta.specs.Metadata.{IsTracked}
use Rattle.tp_meta.specs.Stale.{AreCurrent}
use Rattle.tp_meta.specs.declared.opening.Opened.{Opened}
use Rattle.tp_meta.specs.declared.whole.Meta.{Meta}

abbrev pub geometry_of : Meta → Geometry
geometry_of m = m.mapping.tm.geometry

-- its counts, and the superblock of the last commit
abbrev pub opened_of : Meta → Opened
opened_of m = record { tm = m.mapping.tm; superblock = m.last }

-- the mark of each data block; none is marked that there is no room for
abbrev pub marks_of : Meta → List Bool
marks_of m = take m.mapping.tm.geometry.data_blocks (m.marks ++ replicate m.mapping.tm.geometry.data_blocks false)

-- whether a node, a count or a field of the superblock has changed since the last commit
abbrev pub changed_of : Meta → Bool
changed_of m = m.is_changed

-- how many metadata blocks are free
abbrev pub room_of : Meta → ℕ
room_of m = free_metadata m.mapping.tm

-- the superblock of the next commit
abbrev pub next_of : Meta → Superblock
next_of m = record {
  version = OwnSizes;
  needs_check = m.needs_check;
  sequence = next_sequence m.last.sequence;
  transaction_id = m.transaction_id;
  geometry = m.last.geometry;
  root = m.mapping.root;
  held_root = m.mapping.tm.held_root;
}

-- On this disk, which is honest, the trees stand for these contents now, and a stop leaves the commit of these others, whose counts the
-- trees keep, and which each count block holds that is not stale.
pub record StandsFor (m : Meta) (disk : DiskState) (now kept : Contents) : Type 0 where
  pub honest : IsTrue disk.is_honest
  pub mapping : StandForVolumes m.mapping disk now.volumes kept.volumes
  pub held_root : m.mapping.tm.held_root ≡ now.held_root
  pub numbered : IfSome m.devices (λ n. n ≡ devices_in now.volumes)
  pub transaction_id : m.transaction_id ≡ now.transaction_id
  pub needs_check : m.needs_check ≡ now.needs_check
  pub sized : length m.mapping.tm.metadata_now ≡ m.mapping.tm.geometry.metadata_blocks
  pub meta_used : now.meta_used ≡ used_metadata m.mapping.tm
  pub geometry : m.mapping.tm.geometry ≡ m.last.geometry
  pub commit : Store
  pub left : Leaves (λ image. IsCommit image m.last commit) disk.cells
  pub kept_counts : KeepsCounts m.mapping.tm m.last commit
  pub kept_contents : kept ≡ contents_of m.last commit
  pub current : AreCurrent m.mapping.tm m.stale.value (seen disk.cells)
  pub marks_long : length m.marks ≡ m.mapping.tm.geometry.data_blocks
  pub tracked : IsTracked now.volumes kept.volumes m.marks
  -- where nothing was changed since the commit
  pub same_contents : m.is_changed ≡ false → now ≡ kept
  pub same_counts : m.is_changed ≡ false → kept_now m.mapping.tm ≡ m.mapping.tm

-- the contents of a pool just formatted: no volumes, and of the metadata blocks the fixed part and the root
abbrev pub fresh_contents : Geometry → Contents
fresh_contents g = record { volumes = []; transaction_id = 0; needs_check = false; meta_used = fixed_part g + 1; held_root = 0 }
