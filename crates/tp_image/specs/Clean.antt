-- Trusted reading: a clean image: its trees keep the rules, and its stored counts are the true ones (own).
use Rattle.std.specs.Prelude.{◌≡◌, ℕ, ◌<◌, ◌≤◌, ◌%◌, ◌==◌, List, length, slice_index, Contains, Ok, count_by}
use Rattle.tp_model.specs.Geometry.{Geometry, sectors_of_image}
use Rattle.tp_model.specs.Sectors.{Sector}
use Rattle.tp_layout.specs.Node.{NodeValue}
use Rattle.tp_layout.specs.Super.{roots_of, slot_number}
use Rattle.tp_layout.specs.declared.counts.Part.{Part}
use Rattle.tp_layout.specs.declared.counts.Part.TheVariants.{Data, Metadata}
use Rattle.tp_layout.specs.declared.superblock.SlotId.{SlotId}
use Rattle.tp_layout.specs.declared.superblock.Superblock.{Superblock}
use Rattle.tp_image.specs.Areas.{HoldsCounts, blocks_of}
use Rattle.tp_image.specs.Counts.{AreReachable, data_count, metadata_count}
use Rattle.tp_image.specs.Rules.{KeepTheRules}
use Rattle.tp_image.specs.Slots.{Chooses}

-- the count of a block of this part, where these nodes are the reachable ones
abbrev pub true_count : Geometry → List ℕ → List NodeValue → Part → ℕ → ℕ
true_count g roots nodes Metadata b = metadata_count g roots nodes b
true_count g roots nodes Data p = data_count nodes p

-- In the superblock's area stand the counts of these nodes, and at least 128 metadata blocks have the count 0.
pub record HasTrueCounts (image : List Sector) (superblock : Superblock) (nodes : List NodeValue) : Type 0 where
  pub counts : Part → List ℕ
  pub stored : (part : Part) (area : SlotId) → slot_number area ≡ superblock.sequence % 2 → HoldsCounts image superblock.geometry part area (counts part)
  pub true_ones : (part : Part) (b : ℕ) → b < blocks_of superblock.geometry part
      → slice_index (counts part) b ≡ true_count superblock.geometry (roots_of superblock) nodes part b
  pub spare : 128 ≤ count_by (λ n. n == 0) (counts Metadata)

pub record IsClean (image : List Sector) : Type 0 where
  pub superblock : Superblock
  pub chosen : Chooses image (Ok superblock)
  pub whole : sectors_of_image superblock.geometry ≤ length image
  pub rules : (root : ℕ) → Contains (roots_of superblock) root → KeepTheRules image superblock.version superblock.geometry root
  pub nodes : List NodeValue
  pub reachable : AreReachable image (roots_of superblock) nodes
  pub counts : HasTrueCounts image superblock nodes
