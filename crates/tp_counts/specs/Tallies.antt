-- Internal: what is kept beside the counts, so that a pool need not count them.
use Rattle.std.specs.Prelude.{◌≡◌, ℕ, ◌+◌, ◌/◌, ◌<◌, ◌≤◌, ◌==◌, ◌&&◌, Bool, List, length, slice_index, count_by}
use Rattle.std.specs.List.{range_with_len}
use Rattle.tp_counts.specs.Counts.{IsUnmarked, free_in, is_free, used_in}

pub record AreTallied (n : ℕ) (now kept : List ℕ) (used free no_free_below no_lost_below : ℕ) : Type 0 where
  pub few : n ≤ 1048576
  pub now_long : length now ≡ n
  pub kept_long : length kept ≡ n
  pub used_is : used ≡ used_in n now
  pub free_is : free ≡ free_in n now kept
  -- the blocks below are used, now or in the last commit
  pub no_free : (b : ℕ) → b < no_free_below → 0 < slice_index now b + slice_index kept b
  -- the blocks below that were used in the last commit are used now
  pub no_lost : (b : ℕ) → b < no_lost_below → 0 < slice_index kept b → 0 < slice_index now b

-- a free block of this run of 1024 blocks
abbrev pub is_free_in : ℕ → List ℕ → List ℕ → ℕ → Bool
is_free_in run now kept b = b / 1024 == run && is_free now kept b

-- for each run, how many of the first n blocks are free in it
pub record AreRuns (n : ℕ) (now kept runs : List ℕ) : Type 0 where
  pub long : length runs ≡ 1024
  pub each : (run : ℕ) → run < 1024 → slice_index runs run ≡ count_by (is_free_in run now kept) (range_with_len 0 n)

-- in a run that is not touched each block has the same count in both lists
pub record AreTouched (now kept : List ℕ) (marks : List Bool) : Type 0 where
  pub long : length marks ≡ 1024
  pub same : (b : ℕ) → IsUnmarked marks (b / 1024) → slice_index now b ≡ slice_index kept b

pub record AreKept (n : ℕ) (now kept : List ℕ) (used free no_free_below no_lost_below : ℕ) (free_by_run : List ℕ) (marks : List Bool) : Type 0 where
  pub tallies : AreTallied n now kept used free no_free_below no_lost_below
  pub runs : AreRuns n now kept free_by_run
  pub touched : AreTouched now kept marks
