-- Words of private functions: the numbers of blocks as formulas.
use Rattle.std.specs.Prelude.{◌≡◌, ℕ, ◌+◌, ◌*◌, ◌/◌, ◌-◌, ◌≤◌, max}
use Rattle.tp_model.specs.Geometry.{count_blocks}
use Rattle.tp_sizing.specs.declared.wanted.Wanted.{Wanted}
use Rattle.tp_sizing.specs.Sizing.{IsAllowed}

-- the metadata blocks of so many volumes, where each takes so many besides what 31 of them share
abbrev pub for_volumes : ℕ → ℕ → ℕ
for_volumes volumes each = volumes / 31 + volumes * each

-- how many of them there are at most: of 65536 what is left by the counts of these, two superblocks, the counts of the data, the root of the devices and 512 that are free
abbrev pub room_for_volumes : ℕ → ℕ
room_for_volumes data_blocks = 65536 - 128 - 2 - 2 * count_blocks data_blocks - 513

-- the blocks behind the fixed part
abbrev pub behind_fixed : ℕ → ℕ → ℕ
behind_fixed volumes each = max 1024 (for_volumes volumes each + 513)

-- The blocks that are allowed are those from one to another, each twice the one before it.
pub record AreBlocks (w : Wanted) (low high : ℕ) : Type 0 where
  pub first : IsAllowed w low
  pub last : IsAllowed w high
  pub least : (n : ℕ) → IsAllowed w n → low ≤ n
  pub most : (n : ℕ) → IsAllowed w n → n ≤ high
  pub next : (n : ℕ) → IsAllowed w n → (n ≡ high → ⊥) → IsAllowed w (n * 2)

-- So many metadata blocks have so many behind the fixed part.
abbrev pub DoesMetadata : ℕ → ℕ → ℕ → Type 0
DoesMetadata data_blocks behind n = 2 + 2 * (count_blocks n + count_blocks data_blocks) + behind ≤ n
