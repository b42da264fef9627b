-- Trusted reading: who holds what, as a row of holdings and as counts (own).
use Rattle.std.specs.Prelude.{◌≡◌, ◌≢◌, ◌<◌, ℕ, List, [], ◌∷◌, ◌==◌, length, map, slice_index_or, if◌then◌else◌}
use Rattle.std.specs.Ordering.{nat_cmp}
use Rattle.std.specs.FinMap.{FinMap, empty}
use Rattle.tp_model.specs.Pool.{hold_count}
use Rattle.tp_model.specs.Calls.{Done, Hold, holds_after}

-- that a session holds a volume, which has so many blocks as long as it is held
pub record Holding : Type 0 where
  pub volume : ℕ
  pub blocks : ℕ

-- how often an id stands in a row
unfoldable pub counts_of : List ℕ → FinMap nat_cmp ℕ
counts_of [] = empty
counts_of (id ∷ ids) = holds_after (counts_of ids) (Hold id) Done

abbrev pub volumes_of : List Holding → List ℕ
volumes_of hs = map (λ h. h.volume) hs

-- a row has the id of a volume once for each session that holds it
abbrev pub holds_of : List Holding → FinMap nat_cmp ℕ
holds_of hs = counts_of (volumes_of hs)

-- the blocks of a volume, by the first of those who hold it; 0 where nobody does
abbrev pub blocks_held : List Holding → ℕ → ℕ
blocks_held [] id = 0
blocks_held (h ∷ hs) id = if h.volume == id then h.blocks else blocks_held hs id

-- those who are left behind a call hold as many blocks as before
abbrev pub LeftTold : List Holding → List Holding → Type 0
LeftTold before after = (id : ℕ) → 0 < hold_count (holds_of after) id → (0 < hold_count (holds_of before) id) × (blocks_held after id ≡ blocks_held before id)

-- the last place of a volume in a row
pub record IsLastOf (hs : List Holding) (id place : ℕ) : Type 0 where
  pub inside : place < length hs
  pub there : slice_index_or (volumes_of hs) place 0 ≡ id
  pub last : (j : ℕ) → place < j → j < length hs → slice_index_or (volumes_of hs) j 0 ≢ id
