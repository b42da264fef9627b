-- Trusted reading: what the image of a commit has: a superblock, the counts of its area, and the nodes that they name (own layout).
use Rattle.std.specs.Prelude.{◌≡◌, ℕ, ◌+◌, ◌<◌, ◌≤◌, ◌%◌, ◌^◌, List, [], ◌∷◌, ◌++◌, drop, length, nat_lt, take, Ok, Some, ⊤}
use Rattle.std.specs.List.{count_by, range_with_len}
use Rattle.tp_model.specs.Geometry.{Geometry, IsWithinLimits, fixed_part, sectors_of_image}
use Rattle.tp_model.specs.Sectors.{Sector}
use Rattle.tp_layout.specs.declared.counts.Part.{Part}
use Rattle.tp_layout.specs.declared.counts.Part.TheVariants.{Data, Metadata}
use Rattle.tp_layout.specs.declared.superblock.SlotId.{SlotId}
use Rattle.tp_layout.specs.declared.superblock.Superblock.{Superblock}
use Rattle.tp_layout.specs.declared.superblock.Version.{Version}
use Rattle.tp_layout.specs.declared.superblock.Version.TheVariants.{OneSize, OwnSizes}
use Rattle.tp_layout.specs.Super.{slot_number}
use Rattle.tp_image.specs.Areas.{HoldsCounts}
use Rattle.tp_image.specs.Slots.{Chooses}
use Rattle.tp_refs.specs.Store.{Store, count_of, node_at}
use Rattle.tp_refs.specs.Balance.{Balanced, occurrences}
use Rattle.tp_sharing.specs.Forest.{Forest, HeldForest, content, held_refs}
use Rattle.tp_sharing.specs.Volumes.{AreSized, Volumes, copies_below, size_of, volumes_below, volumes_of}
use Rattle.tp_tm.specs.Holds.{IsSpelled}

-- the blocks of the fixed part, each of which a pool holds once
abbrev pub fixed_blocks : Geometry → List ℕ
fixed_blocks g = range_with_len 0 (fixed_part g)

-- the references that a pool holds: to the root of its device tree, to that of a held copy, if there is one, and to each block of the fixed part
abbrev pub held_by : Geometry → ℕ → ℕ → List ℕ
held_by g root held = root ∷ (held_refs held ++ fixed_blocks g)

-- The counts of the store are those of these references, one of which is to the root, and the trees below that keep their rules. The virtual blocks
-- of a volume lie below its size.
pub record IsRooted (g : Geometry) (refs : List ℕ) (root : ℕ) (s : Store) : Type 0 where
  pub limits : IsWithinLimits g
  pub sized : length s.nodes ≡ g.metadata_blocks
  pub counted : length s.counts ≡ g.metadata_blocks + g.data_blocks
  pub balanced : Balanced s [] refs
  pub named : 0 < occurrences root refs
  pub forest : Forest s root (fixed_blocks g) (2 ^ 24)
  pub sizes : AreSized g (volumes_below g.metadata_blocks s root)
  pub few : length (content 5 s root) ≤ 65536

-- The counts of the store are those of its references, and the trees below both roots keep their rules. The virtual blocks of a volume, held or not,
-- lie below its size.
pub record IsSound (g : Geometry) (root held : ℕ) (s : Store) : Type 0 where
  pub limits : IsWithinLimits g
  pub sized : length s.nodes ≡ g.metadata_blocks
  pub counted : length s.counts ≡ g.metadata_blocks + g.data_blocks
  pub balanced : Balanced s [] (held_by g root held)
  pub forest : Forest s root (fixed_blocks g) (2 ^ 24)
  pub copy : HeldForest s held (fixed_blocks g) (2 ^ 24)
  pub sizes : AreSized g (volumes_of g.metadata_blocks s root held)
  pub few : length (content 5 s root) ≤ 65536
  pub few_held : length (copies_below g.metadata_blocks s held) ≤ 65536

-- how many metadata blocks have a count over 0
abbrev pub use_of : Geometry → Store → ℕ
use_of g s = count_by (λ b. nat_lt 0 (count_of s b)) (range_with_len 0 g.metadata_blocks)

-- the counts of the blocks of one part
abbrev pub counts_of_part : Geometry → Part → List ℕ → List ℕ
counts_of_part g Metadata counts = take g.metadata_blocks counts
counts_of_part g Data counts = drop g.metadata_blocks counts

-- each live block that is to be a node spells it
abbrev pub NodesStand : Geometry → List Sector → Store → Type 0
NodesStand g image s = (b : ℕ) → 0 < count_of s b → 0 < (node_at s b).rank → IsSpelled g.metadata_blocks image b (node_at s b)

-- the sizes that an image of this version tells: none in the first one
abbrev pub IsOfVersion : Version → Volumes → Type 0
IsOfVersion OneSize volumes = (id size : ℕ) → size_of id volumes ≡ Some size → size ≡ 0
IsOfVersion OwnSizes volumes = ⊤

-- The image is that of a commit: its slots give this superblock, in whose area the counts of the store stand, and its root and
-- all nodes below it. Enough metadata blocks are free to open it.
pub record IsCommit (image : List Sector) (superblock : Superblock) (s : Store) : Type 0 where
  pub chosen : Chooses image (Ok superblock)
  pub whole : sectors_of_image superblock.geometry ≤ length image
  pub sound : IsSound superblock.geometry superblock.root superblock.held_root s
  pub of_version : IsOfVersion superblock.version (volumes_of superblock.geometry.metadata_blocks s superblock.root superblock.held_root)
  pub kept : s.kept ≡ s.counts
  pub counts : (part : Part) (area : SlotId) → slot_number area ≡ superblock.sequence % 2
      → HoldsCounts image superblock.geometry part area (counts_of_part superblock.geometry part s.counts)
  pub nodes : NodesStand superblock.geometry image s
  pub spare : use_of superblock.geometry s + 128 ≤ superblock.geometry.metadata_blocks
