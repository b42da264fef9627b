-- Trusted reading: what a commit needs, and what a stop leaves while it runs (own).
use Rattle.std.specs.Prelude.{◌≡◌, ◌+◌, ◌≤◌, List, [], take}
use Rattle.tp_model.specs.Sectors.{Sector}
use Rattle.tp_model.specs.Disk.{Cell, DiskState, seen}
use Rattle.tp_model.specs.DiskStops.{AfterStop, Leaves}
use Rattle.tp_layout.specs.declared.superblock.Superblock.{Superblock}
use Rattle.tp_layout.specs.declared.superblock.Version.TheVariants.{OneSize}
use Rattle.tp_image.specs.Slots.{next_sequence}
use Rattle.tp_refs.specs.Store.{Store, committed}
use Rattle.tp_sharing.specs.Volumes.{volumes_of}
use Rattle.tp_stored.specs.Commit.{IsCommit, IsOfVersion, IsSound, held_by, use_of}
use Rattle.tp_stored.specs.Contents.{SameData}
use Rattle.tp_tm.specs.Tm.{Tm}
use Rattle.tp_tm.specs.Holds.{Holds}
use Rattle.tp_meta.specs.Stale.{AreCurrent}
use Rattle.tp_meta.specs.declared.stale.StaleBlocks.{StaleBlocks}

-- the store of nodes keeps the counts of metadata blocks of this commit
abbrev pub KeepsCounts : Tm → Superblock → Store → Type 0
KeepsCounts t last kept = t.metadata_kept ≡ take last.geometry.metadata_blocks kept.counts

-- A stop leaves the commit of `last`, whose counts are those that the store of nodes keeps, and which each count block holds that is not stale. Below the roots of the superblock `next`, which
-- follows, trees stand that keep their rules and leave room; in an image of the first version no root is held.
pub record MayCommit (t : Tm) (stale : StaleBlocks) (disk : DiskState) (last next : Superblock) (kept s : Store) : Type 0 where
  pub left : Leaves (λ image. IsCommit image last kept) disk.cells
  pub kept_is : KeepsCounts t last kept
  pub geometry : t.geometry ≡ last.geometry
  pub same_geometry : next.geometry ≡ last.geometry
  pub follows : next.sequence ≡ next_sequence last.sequence
  pub holds : Holds t disk [] (held_by next.geometry next.root next.held_root) s
  pub sound : IsSound next.geometry next.root next.held_root s
  pub of_version : IsOfVersion next.version (volumes_of next.geometry.metadata_blocks s next.root next.held_root)
  pub unheld : next.version ≡ OneSize → next.held_root ≡ 0
  pub current : AreCurrent t stale (seen disk.cells)
  pub spare : use_of next.geometry s + 128 ≤ next.geometry.metadata_blocks

-- The image is that of this commit, with the data blocks of one that a stop might have left before.
abbrev pub IsStillCommit : Superblock → Store → List Cell → List Sector → Type 0
IsStillCommit last kept cells image = (before : List Sector) × AfterStop cells before × IsCommit image last kept × SameData last.geometry before image

-- The image is that of the next commit, with the data blocks that reads gave before.
abbrev pub IsNextCommit : Superblock → Store → List Cell → List Sector → Type 0
IsNextCommit next s cells image = IsCommit image next (committed s) × SameData next.geometry (seen cells) image
