-- Internal: how often calls of a `MemDisk` had each sector in their range.
use Rattle.std.specs.Prelude.{◌≡◌, ◌⊎◌, ℕ, ◌+◌, ◌-◌, ◌^◌, ◌<◌, ◌≤◌, List, length, min, slice_index_or}

-- the number of calls that had this sector
abbrev pub tally_at : List ℕ → ℕ → ℕ
tally_at counts sector = slice_index_or counts sector 0

-- One call more had each of n sectors from `at` on, and none had another; a number stays at its greatest value.
pub record Counted (at n : ℕ) (old new : List ℕ) : Type 0 where
  pub long : length new ≡ length old
  pub had : (sector : ℕ) → at ≤ sector → sector < at + n → tally_at new sector ≡ min (tally_at old sector + 1) (2 ^ 64 - 1)
  pub others : (sector : ℕ) → (sector < at) ⊎ (at + n ≤ sector) → tally_at new sector ≡ tally_at old sector
