-- Trusted reading: pages of listings: as much of them as one walk over each volume tells, and as seven runs say (own).
use Rattle.std.specs.Prelude.{◌≡◌, ◌≢◌, ◌⊎◌, ◌<◌, ◌≤◌, ◌+◌, ◌==◌, ℕ, Bool, true, false, Option, Some, None, IsTrue, List, [], ◌∷◌, length, min, slice_get}
use Rattle.std.specs.Ordering.{nat_cmp}
use Rattle.std.specs.FinMap.{find, is_sorted}
use Rattle.tp_listings.specs.declared.extent.Extent.{Extent}
use Rattle.tp_listings.specs.Listings.{AreRunsOf, Covers}

-- A walk that was asked for slots from some block on lists all of them that are before this block: where it lists fewer than 252, there are no more.
abbrev pub behind : Option (ℕ × ℕ) → ℕ
behind None = 16777216
behind (Some x) = x.0 + 1

abbrev pub reach : List (ℕ × ℕ) → ℕ
reach slots = behind (slice_get slots 251)

-- they are in the order of their blocks, as those of a pool are
abbrev pub AreOrdered : List (ℕ × ℕ) → Type 0
AreOrdered slots = IsTrue (is_sorted nat_cmp slots)

-- by the slots of two volumes these have not the same data block at a block
abbrev pub Differ : List (ℕ × ℕ) → List (ℕ × ℕ) → ℕ → Type 0
Differ old new block = find nat_cmp block new ≢ find nat_cmp block old

-- as far as two walks tell, and to this block at most
abbrev pub far_as : ℕ → List (ℕ × ℕ) → List (ℕ × ℕ) → ℕ
far_as most old new = min most (min (reach old) (reach new))

-- Behind seven runs an eighth begins at this block.
pub record BeginsEighth (old new : List (ℕ × ℕ)) (from limit : ℕ) (extents : List Extent) (block : ℕ) : Type 0 where
  pub seven : length extents ≡ 7
  pub later : from ≤ block
  pub inside : block < limit
  pub differ : Differ old new block
  pub begins : (before : ℕ) → before + 1 ≡ block → Covers extents before → ⊥

-- A page: of the blocks from `from` on and before `end` those in which one volume may differ from another, by what a walk over each lists from there, as runs, seven at most. It goes
-- as far as the walks tell, or up to an eighth run. A volume that has no slots may stand for the old one: then it is the blocks of the new one that are mapped.
pub record IsPage (old new : List (ℕ × ℕ)) (from most : ℕ) (extents : List Extent) (end : ℕ) : Type 0 where
  pub runs : AreRunsOf extents (λ block. (from ≤ block) × (block < end) × Differ old new block)
  pub few : length extents ≤ 7
  pub far : (end ≡ far_as most old new) ⊎ BeginsEighth old new from (far_as most old new) extents end

-- ---- pages one behind the other

-- two runs as one where they meet
abbrev pub meet : Bool → Extent → Extent → List Extent → List Extent
meet true e f fs = record { first = e.first; blocks = e.blocks + f.blocks } ∷ fs
meet false e f fs = e ∷ f ∷ fs

-- runs with others behind them, of which the first goes on with the last of these where that ends at it
abbrev pub joined : List Extent → List Extent → List Extent
joined [] fs = fs
joined (e ∷ []) [] = e ∷ []
joined (e ∷ []) (f ∷ fs) = meet (e.first + e.blocks == f.first) e f fs
joined (e ∷ d ∷ es) fs = e ∷ joined (d ∷ es) fs
