-- Trusted reading: the reference counts of one part of a pool, now and as the last commit kept them (own).
use Rattle.std.specs.Prelude.{◌≡◌, ℕ, ◌+◌, ◌<◌, ◌==◌, ◌&&◌, Bool, true, false, nat_lt, List, length, replicate, slice_index, slice_index_or, count_by}
use Rattle.std.specs.List.{range_with_len}
use Rattle.tp_model.specs.Geometry.{Geometry, count_blocks}
use Rattle.tp_model.specs.Sectors.{Sector}
use Rattle.tp_layout.specs.Counts.{counts_bytes}
use Rattle.tp_layout.specs.declared.counts.Part.{Part}
use Rattle.tp_layout.specs.declared.superblock.SlotId.{SlotId}
use Rattle.tp_image.specs.Nodes.{block_at}
use Rattle.tp_image.specs.Areas.{blocks_of, counts_in, counts_start}

pub record Counts : Type 0 where
  pub geometry : Geometry
  pub part : Part
  pub now : List ℕ
  pub kept : List ℕ

-- both lists the same
abbrev pub same_counts : Geometry → Part → List ℕ → Counts
same_counts g part counts = record { geometry = g; part = part; now = counts; kept = counts }

-- nothing is counted
abbrev pub no_counts : Geometry → Part → Counts
no_counts g part = same_counts g part (replicate (blocks_of g part) 0)

abbrev pub is_used : List ℕ → ℕ → Bool
is_used now b = nat_lt 0 (slice_index now b)

abbrev pub is_free : List ℕ → List ℕ → ℕ → Bool
is_free now kept b = slice_index now b == 0 && slice_index kept b == 0

-- how many of the first n blocks are used now, and how many are free now and in the last commit
abbrev pub used_in : ℕ → List ℕ → ℕ
used_in n now = count_by (is_used now) (range_with_len 0 n)

abbrev pub free_in : ℕ → List ℕ → List ℕ → ℕ
free_in n now kept = count_by (is_free now kept) (range_with_len 0 n)

abbrev pub used_count : Counts → ℕ
used_count c = used_in (blocks_of c.geometry c.part) c.now

abbrev pub free_count : Counts → ℕ
free_count c = free_in (blocks_of c.geometry c.part) c.now c.kept

-- the block counts zero now and in the last commit
pub record IsFree (c : Counts) (b : ℕ) : Type 0 where
  pub inside : b < blocks_of c.geometry c.part
  pub now : slice_index c.now b ≡ 0
  pub kept : slice_index c.kept b ≡ 0

-- the first such block
pub record IsLeastFree (c : Counts) (b : ℕ) : Type 0 where
  pub free : IsFree c b
  pub least : (k : ℕ) → k < b → IsFree c k → ⊥

-- the count block is not marked
abbrev pub IsUnmarked : List Bool → ℕ → Type 0
IsUnmarked marks j = slice_index_or marks j true ≡ false

-- the count block is marked
abbrev pub IsMarked : List Bool → ℕ → Type 0
IsMarked marks j = slice_index_or marks j false ≡ true

-- each count block that is not marked has the same counts in both lists
abbrev pub SameUnmarked : List ℕ → List ℕ → List Bool → Type 0
SameUnmarked now kept marks = (j : ℕ) → IsUnmarked marks j → counts_in now j ≡ counts_in kept j

-- each count block that is marked has other counts
abbrev pub DifferMarked : List ℕ → List ℕ → List Bool → Type 0
DifferMarked now kept marks = (j : ℕ) → IsMarked marks j → counts_in now j ≡ counts_in kept j → ⊥

-- of the blocks from this one on, those that are not marked spell their counts
abbrev pub SpellOthers : List Sector → ℕ → List ℕ → List Bool → Type 0
SpellOthers image first counts marks = (j : ℕ) → j < count_blocks (length counts) → IsUnmarked marks j → block_at image (first + j) ≡ counts_bytes (counts_in counts j)

-- the same of the count blocks of a part in an area
abbrev pub SpellUnmarked : List Sector → Geometry → Part → SlotId → List ℕ → List Bool → Type 0
SpellUnmarked image g part area counts marks =
    (j : ℕ) → j < count_blocks (blocks_of g part) → IsUnmarked marks j → block_at image (counts_start g part area + j) ≡ counts_bytes (counts_in counts j)
