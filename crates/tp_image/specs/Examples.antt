-- Internal: a small image: the example pool of 128 sectors a block, 16 blocks a volume, 2048 metadata blocks and 4 data blocks.
use Rattle.std.specs.Prelude.{◌≡◌, List, [], ◌∷◌, replicate}
use Rattle.tp_model.specs.Geometry.{Geometry}
use Rattle.tp_model.specs.Sectors.{Sector}
use Rattle.tp_layout.specs.Node.{NodeValue, node_bytes}
use Rattle.tp_layout.specs.declared.counts.Part.TheVariants.{Metadata}
use Rattle.tp_layout.specs.declared.entry.Entry.{Entry}
use Rattle.tp_layout.specs.declared.kind.TreeKind.TheVariants.{Device, Mapping}
use Rattle.tp_layout.specs.declared.superblock.SlotId.TheVariants.{Zero}
use Rattle.tp_image.specs.Areas.{HoldsCounts}
use Rattle.tp_image.specs.Nodes.{block_at}

abbrev pub example : Geometry
example = record { block_sectors = 128; virtual_blocks = 16; metadata_blocks = 2048; data_blocks = 4 }

-- ---- a volume with one block, and a snapshot of it

abbrev pub one_record : Entry
one_record = record { key = 0; value = 9; mapped = 1; size = 0 }

abbrev pub snapshot_record : Entry
snapshot_record = record { key = 7; value = 9; mapped = 1; size = 0 }

-- the device tree with volume 0 and its snapshot 7, whose root they share
abbrev pub device_leaf : NodeValue
device_leaf = record { kind = Device; level = 0; own = 8; entries = one_record ∷ snapshot_record ∷ [] }

-- virtual block 3 stands at data block 2
abbrev pub mapping_leaf : NodeValue
mapping_leaf = record { kind = Mapping; level = 0; own = 9; entries = record { key = 3; value = 2; mapped = 0; size = 0 } ∷ [] }

abbrev pub two_nodes : List NodeValue
two_nodes = device_leaf ∷ mapping_leaf ∷ []

pub record HasOneBlock (image : List Sector) : Type 0 where
  pub devices : block_at image 8 ≡ node_bytes device_leaf
  pub mappings : block_at image 9 ≡ node_bytes mapping_leaf

-- ---- the same two volumes, whose root is another node

pub record HasRoot (root : NodeValue) (image : List Sector) : Type 0 where
  pub devices : block_at image 8 ≡ node_bytes device_leaf
  pub mappings : block_at image 9 ≡ node_bytes root

-- it is no node of a volume's tree
abbrev pub other_kind : NodeValue
other_kind = record { kind = Device; level = 0; own = 9; entries = [] }

-- the volumes have the virtual blocks 0 to 15
abbrev pub late_key : NodeValue
late_key = record { kind = Mapping; level = 0; own = 9; entries = record { key = 16; value = 2; mapped = 0; size = 0 } ∷ [] }

-- the pool has the data blocks 0 to 3
abbrev pub far_block : NodeValue
far_block = record { kind = Mapping; level = 0; own = 9; entries = record { key = 3; value = 4; mapped = 0; size = 0 } ∷ [] }

-- a root that is no leaf has two children at least
abbrev pub only_child : NodeValue
only_child = record { kind = Mapping; level = 1; own = 9; entries = record { key = 0; value = 10; mapped = 0; size = 0 } ∷ [] }

-- the records tell one mapped block
abbrev pub no_entry : NodeValue
no_entry = record { kind = Mapping; level = 0; own = 9; entries = [] }

-- volume 0 tells a size that is less than the pool's own
abbrev pub small_record : NodeValue
small_record = record { kind = Device; level = 0; own = 8; entries = record { key = 0; value = 9; mapped = 1; size = 7 } ∷ [] }

-- it stands where the device tree's root does
pub record HasDevices (devices : NodeValue) (image : List Sector) : Type 0 where
  pub here : block_at image 8 ≡ node_bytes devices

-- no metadata block has a count, though the superblock names the root
pub record HasNoCounts (image : List Sector) : Type 0 where
  pub nodes : HasOneBlock image
  pub counts : HoldsCounts image example Metadata Zero (replicate 2048 0)
