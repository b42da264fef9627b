-- Trusted reading: the image of a pool just formatted (own).
use Rattle.std.specs.Prelude.{◌≡◌, ℕ, ◌+◌, ◌-◌, ◌≤◌, false, List, [], ◌++◌, length, replicate}
use Rattle.std.specs.FinMap.{empty}
use Rattle.tp_model.specs.declared.mode.Mode.TheVariants.{Writable}
use Rattle.tp_model.specs.Geometry.{Geometry, fixed_part, sectors_of_image}
use Rattle.tp_model.specs.Sectors.{Sector, sector_at}
use Rattle.tp_model.specs.Pool.{PlainPool}
use Rattle.tp_layout.specs.Node.{NodeValue, node_bytes}
use Rattle.tp_layout.specs.Super.{HasMagic, super_bytes}
use Rattle.tp_layout.specs.declared.counts.Part.{Part}
use Rattle.tp_layout.specs.declared.counts.Part.TheVariants.{Data, Metadata}
use Rattle.tp_layout.specs.declared.superblock.Superblock.{Superblock}
use Rattle.tp_layout.specs.declared.superblock.SlotId.TheVariants.{Zero}
use Rattle.tp_layout.specs.declared.superblock.Version.TheVariants.{OwnSizes}
use Rattle.tp_layout.specs.declared.kind.TreeKind.TheVariants.{Device}
use Rattle.tp_image.specs.Nodes.{block_at}
use Rattle.tp_image.specs.Areas.{HoldsCounts}

-- the first superblock, whose root is the first tree block
abbrev pub fresh_super : Geometry → Superblock
fresh_super g = record { version = OwnSizes; needs_check = false; sequence = 0; transaction_id = 0; geometry = g; root = fixed_part g; held_root = 0 }

-- the device tree without devices
abbrev pub fresh_leaf : Geometry → NodeValue
fresh_leaf g = record { kind = Device; level = 0; own = fixed_part g; entries = [] }

-- each block of the fixed part is named once, and so is the root
abbrev pub fresh_counts : Geometry → Part → List ℕ
fresh_counts g Metadata = replicate (fixed_part g + 1) 1 ++ replicate (g.metadata_blocks - (fixed_part g + 1)) 0
fresh_counts g Data = replicate g.data_blocks 0

-- what stands behind the superblocks: the counts in the first area, and the empty leaf in the first tree block
pub record HasFreshContents (g : Geometry) (image : List Sector) : Type 0 where
  pub counts : (part : Part) → HoldsCounts image g part Zero (fresh_counts g part)
  pub leaf : block_at image (fixed_part g) ≡ node_bytes (fresh_leaf g)

-- these, the first superblock in slot 0, and nothing in slot 1; the rest may be anything
pub record IsFreshOf (g : Geometry) (image : List Sector) : Type 0 where
  pub size : sectors_of_image g ≤ length image
  pub first : sector_at image 0 ≡ super_bytes (fresh_super g)
  pub no_second : HasMagic (sector_at image 8) → ⊥
  pub contents : HasFreshContents g image

-- the pool without volumes
abbrev pub empty_pool : Geometry → PlainPool
empty_pool g = record { geometry = g; volumes = empty; transaction_id = 0; needs_check = false; mode = Writable; holds = empty; meta_used = fixed_part g + 1; held_root = 0 }
