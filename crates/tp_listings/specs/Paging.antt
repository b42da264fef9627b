-- Internal: what is known of the slots of two walks as they are gone through.
use Rattle.std.specs.Prelude.{◌≡◌, ◌<◌, ◌≤◌, ◌+◌, ℕ, Option, List, length}
use Rattle.std.specs.Ordering.{nat_cmp}
use Rattle.std.specs.FinMap.{find}
use Rattle.tp_model.specs.Slots.{BlockSlot}
use Rattle.tp_listings.specs.declared.extent.Extent.{Extent}
use Rattle.tp_listings.specs.Listings.{AreApart, Covers}
use Rattle.tp_listings.specs.Pages.{Differ}
use Rattle.tp_listings.specs.Seeking.{IsUpTo, told}

-- It is the first of some slots from a block on.
pub record IsFirstOf (slots : List (ℕ × ℕ)) (from : ℕ) (found : Option BlockSlot) : Type 0 where
  pub later : IsUpTo found from
  pub tells : (block : ℕ) → from ≤ block → IsUpTo found block → find nat_cmp block slots ≡ told found block

-- from one block to another they have the same data blocks
abbrev pub AreAlike : List (ℕ × ℕ) → List (ℕ × ℕ) → ℕ → ℕ → Type 0
AreAlike old new from until = (block : ℕ) → from ≤ block → block < until → find nat_cmp block new ≡ find nat_cmp block old

-- of the blocks between those that are told
abbrev pub IsTold : List (ℕ × ℕ) → List (ℕ × ℕ) → ℕ → ℕ → ℕ → Type 0
IsTold old new from until block = (from ≤ block) × (block < until) × Differ old new block

-- There is no room for this block behind seven runs, with which none of them goes on.
pub record IsFullBefore (block : ℕ) (old now : List Extent) : Type 0 where
  pub same : now ≡ old
  pub seven : length old ≡ 7
  pub begins : AreApart 0 old → ((b : ℕ) → Covers old b → b < block) → (before : ℕ) → before + 1 ≡ block → Covers old before → ⊥
