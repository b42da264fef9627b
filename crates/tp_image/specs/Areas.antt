-- Trusted reading: the two areas of stored counts: where they lie on the disk, and which counts an image holds there (own layout).
use Rattle.std.specs.Prelude.{◌≡◌, ℕ, ◌+◌, ◌*◌, ◌^◌, ◌<◌, List, length, take, drop}
use Rattle.std.specs.List.{All}
use Rattle.tp_model.specs.Geometry.{Geometry, area_blocks, count_blocks, metadata_sector}
use Rattle.tp_model.specs.Sectors.{Sector}
use Rattle.tp_layout.specs.Counts.{counts_bytes}
use Rattle.tp_layout.specs.declared.counts.Part.{Part}
use Rattle.tp_layout.specs.declared.counts.Part.TheVariants.{Metadata, Data}
use Rattle.tp_layout.specs.declared.superblock.SlotId.{SlotId}
use Rattle.tp_layout.specs.declared.superblock.SlotId.TheVariants.{Zero, One}
use Rattle.tp_image.specs.Nodes.{block_at}

-- how many blocks a part has
abbrev pub blocks_of : Geometry → Part → ℕ
blocks_of g Metadata = g.metadata_blocks
blocks_of g Data = g.data_blocks

-- the first metadata block of an area; the areas stand behind the two superblocks, the one behind the other
abbrev pub area_start : Geometry → SlotId → ℕ
area_start g Zero = 2
area_start g One = 2 + area_blocks g

-- the first count block of a part in an area: the counts of the data blocks stand behind those of the metadata blocks
abbrev pub counts_start : Geometry → Part → SlotId → ℕ
counts_start g Metadata area = area_start g area
counts_start g Data area = area_start g area + count_blocks g.metadata_blocks

-- the first sector of these blocks, and how many sectors they are
abbrev pub counts_sector : Geometry → Part → SlotId → ℕ
counts_sector g part area = metadata_sector (counts_start g part area)

abbrev pub counts_sectors : Geometry → Part → ℕ
counts_sectors g part = 8 * count_blocks (blocks_of g part)

-- the counts of one count block: 1024, and fewer in the last
unfoldable pub counts_in : List ℕ → ℕ → List ℕ
counts_in counts j = take 1024 (drop (1024 * j) counts)

-- the blocks from this one on spell these counts
abbrev pub AreSpelled : List Sector → ℕ → List ℕ → Type 0
AreSpelled image first counts = (j : ℕ) → j < count_blocks (length counts) → block_at image (first + j) ≡ counts_bytes (counts_in counts j)

-- these are the counts of the part's blocks that stand in this area
pub record HoldsCounts (image : List Sector) (g : Geometry) (part : Part) (area : SlotId) (counts : List ℕ) : Type 0 where
  pub long : length counts ≡ blocks_of g part
  pub fit : All (λ n. n < 2 ^ 32) counts
  pub spelled : AreSpelled image (counts_start g part area) counts
