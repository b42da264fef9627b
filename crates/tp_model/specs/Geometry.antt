-- Trusted reading: the sizes of a pool, their limits, and where its parts lie on the disk (own layout, in the manner of the
-- kernel's thin-provisioning target: a metadata part and a data part).
use Rattle.std.specs.Prelude.{◌≡◌, ℕ, ◌+◌, ◌*◌, ◌/◌, ◌%◌, ◌^◌, ◌≤◌, ◌<◌}

pub record Geometry : Type 0 where
  pub block_sectors : ℕ  -- sectors of one data block
  pub virtual_blocks : ℕ  -- blocks of a new volume
  pub metadata_blocks : ℕ  -- blocks of 4096 bytes
  pub data_blocks : ℕ

-- blocks that hold one number for each of n blocks, 1024 in each
abbrev pub count_blocks : ℕ → ℕ
count_blocks n = (n + 1023) / 1024

-- the blocks of one count area: those for the metadata blocks, then those for the data blocks
abbrev pub area_blocks : Geometry → ℕ
area_blocks g = count_blocks g.metadata_blocks + count_blocks g.data_blocks

-- the metadata blocks with a place of their own: two superblocks, and two areas of counts
abbrev pub fixed_part : Geometry → ℕ
fixed_part g = 2 + 2 * area_blocks g

-- a metadata block that may hold a node of a tree
abbrev pub IsTreeBlock : Geometry → ℕ → Type 0
IsTreeBlock g b = (fixed_part g ≤ b) × (b < g.metadata_blocks)

-- the sectors of a volume of the pool's own size
abbrev pub sectors_of_volume : Geometry → ℕ
sectors_of_volume g = g.virtual_blocks * g.block_sectors

-- the first sector of a metadata block, and of a data block
abbrev pub metadata_sector : ℕ → ℕ
metadata_sector b = 8 * b

abbrev pub data_sector : Geometry → ℕ → ℕ
data_sector g p = 8 * g.metadata_blocks + p * g.block_sectors

abbrev pub sectors_of_image : Geometry → ℕ
sectors_of_image g = 8 * g.metadata_blocks + g.data_blocks * g.block_sectors

pub record IsWithinLimits (g : Geometry) : Type 0 where
  pub block_least : 128 ≤ g.block_sectors
  pub block_most : g.block_sectors ≤ 2048
  pub block_step : g.block_sectors % 128 ≡ 0
  pub virtual_least : 1 ≤ g.virtual_blocks
  pub virtual_most : g.virtual_blocks ≤ 2 ^ 24
  pub metadata_least : fixed_part g + 1024 ≤ g.metadata_blocks
  pub metadata_most : g.metadata_blocks ≤ 65536
  pub data_least : 1 ≤ g.data_blocks
  pub data_most : g.data_blocks ≤ 1048576
