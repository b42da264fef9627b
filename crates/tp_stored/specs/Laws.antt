-- Trusted reading: laws of what a commit stores (own).
use Rattle.std.specs.Prelude.{◌≡◌, ◌↔◌, ℕ, ◌+◌, ◌<◌, ◌≤◌, List, Contains, slice_index}
use Rattle.tp_model.specs.Geometry.{Geometry}
use Rattle.tp_model.specs.Sectors.{Sector}
use Rattle.tp_model.specs.Pool.{PlainPool}
use Rattle.tp_layout.specs.Node.{NodeValue}
use Rattle.tp_layout.specs.Super.{roots_of}
use Rattle.tp_layout.specs.declared.superblock.Superblock.{Superblock}
use Rattle.tp_image.specs.Bound.{metadata_bound}
use Rattle.tp_image.specs.Clean.{IsClean}
use Rattle.tp_image.specs.Counts.{AreReachable, data_count, metadata_count}
use Rattle.tp_image.specs.Rules.{KeepTheRules}
use Rattle.tp_image.specs.Stands.{StandsFor}
use Rattle.tp_refs.specs.Store.{Store}
use Rattle.tp_sharing.specs.Sizes.{mapped_counts}
use Rattle.tp_sharing.specs.Volumes.{volumes_below}
use Rattle.tp_stored.specs.Commit.{IsCommit, IsSound, use_of}
use Rattle.tp_stored.specs.Rebuilt.{store_from}
use Rattle.tp_stored.specs.Contents.{Contents, HoldsContents, IsOpened, SameMetadata}

-- An image with the contents of a commit stands for the pools that are opened with them, and for no others.
abbrev pub StandsForOpened : Type 0
StandsForOpened = (g : Geometry) (c : Contents) (image : List Sector) → HoldsContents g c image → (p : PlainPool) → (StandsFor image p) ↔ (IsOpened g c image p)

-- The stored counts are those of the reachable nodes.
pub record CountsAreTrue (image : List Sector) (superblock : Superblock) (s : Store) (nodes : List NodeValue) : Type 0 where
  pub metadata : (b : ℕ) → b < superblock.geometry.metadata_blocks → slice_index s.counts b ≡ metadata_count superblock.geometry (roots_of superblock) nodes b
  pub others : (p : ℕ) → p < superblock.geometry.data_blocks → slice_index s.counts (superblock.geometry.metadata_blocks + p) ≡ data_count nodes p

abbrev pub CommitsCount : Type 0
CommitsCount =
    (image : List Sector) (superblock : Superblock) (s : Store) → IsCommit image superblock s
    → (nodes : List NodeValue) × AreReachable image (roots_of superblock) nodes × CountsAreTrue image superblock s nodes

-- The trees keep the rules of nodes.
abbrev pub CommitsKeepTheRules : Type 0
CommitsKeepTheRules =
    (image : List Sector) (superblock : Superblock) (s : Store) → IsCommit image superblock s
    → (root : ℕ) → Contains (roots_of superblock) root → KeepTheRules image superblock.version superblock.geometry root

-- What stands in the data blocks is no matter of a commit.
abbrev pub CommitsAreMetadata : Type 0
CommitsAreMetadata =
    (g : Geometry) (c : Contents) (old new : List Sector) → SameMetadata g old new → HoldsContents g c old → HoldsContents g c new

-- Where no root is held, the contents use at most as many metadata blocks as their volumes may.
abbrev pub AreBounded : Geometry → Contents → Type 0
AreBounded g c = c.held_root ≡ 0 → c.meta_used ≤ metadata_bound g (mapped_counts c.volumes)

-- Sound trees use no more metadata blocks than their volumes may.
abbrev pub SoundAreBounded : Type 0
SoundAreBounded =
    (g : Geometry) (root : ℕ) (s : Store) → IsSound g root 0 s → use_of g s ≤ metadata_bound g (mapped_counts (volumes_below g.metadata_blocks s root))

-- Nor does a commit.
abbrev pub CommitsAreBounded : Type 0
CommitsAreBounded = (g : Geometry) (c : Contents) (image : List Sector) → HoldsContents g c image → AreBounded g c

-- A clean image is that of a commit of the store that it has.
abbrev pub CleanAreCommits : Type 0
CleanAreCommits =
    (image : List Sector) (clean : IsClean image)
    → IsCommit image clean.superblock (store_from clean.superblock.geometry clean.nodes clean.counts.counts)

-- So it has the contents of a commit, and stands for exactly the pools that are opened with them.
abbrev pub CleanStandForOpened : Type 0
CleanStandForOpened =
    (image : List Sector) → IsClean image
    → (g : Geometry) × (c : Contents) × HoldsContents g c image × ((p : PlainPool) → (StandsFor image p) ↔ (IsOpened g c image p))
