-- Internal: what stays below a rank while blocks are opened and closed.
use Rattle.std.specs.Prelude.{◌≡◌, ℕ, ◌<◌, List}
use Rattle.tp_refs.specs.Store.{Store, count_of, node_at}
use Rattle.tp_refs.specs.Balance.{occurrences}

-- The nodes of lower rank that were live and not among the open blocks are as they were, still live, and not among
-- those that are open later.
pub record LowerLast (rank : ℕ) (opens later : List ℕ) (s t : Store) : Type 0 where
  pub nodes : (b : ℕ) → 0 < count_of s b → occurrences b opens ≡ 0 → (node_at s b).rank < rank → node_at t b ≡ node_at s b
  pub live : (b : ℕ) → 0 < count_of s b → occurrences b opens ≡ 0 → (node_at s b).rank < rank → 0 < count_of t b
  pub closed : (b : ℕ) → 0 < count_of s b → occurrences b opens ≡ 0 → (node_at s b).rank < rank → occurrences b later ≡ 0
