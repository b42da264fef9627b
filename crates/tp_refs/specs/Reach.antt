-- Internal: what can be reached from the blocks that are held, and what a stop keeps.
use Rattle.std.specs.Prelude.{◌≡◌, ℕ, ◌+◌, ◌<◌, List, [], length, Bool, ◌↔◌, IsTrue, if◌then◌else◌}
use Rattle.tp_refs.specs.Store.{Store, count_of, kept_of, node_at, children}
use Rattle.tp_refs.specs.Balance.{occurrences, sum_below, Balanced, Frame}

-- the blocks on paths of references from those held
pub data Reached (s : Store) (held : List ℕ) : ℕ → Type 0 where
  root : (b : ℕ) → 0 < occurrences b held → Reached s held b
  below : (b c : ℕ) → Reached s held b → 0 < occurrences c (children (node_at s b)) → Reached s held c

-- no node has a greater rank
abbrev pub HasTop : Store → ℕ → Type 0
HasTop s top = (b : ℕ) → (node_at s b).rank < top

-- A block is live exactly where it can be reached.
abbrev pub LiveIsReached : Type 0
LiveIsReached = (s : Store) (held : List ℕ) (top : ℕ) → Balanced s [] held → HasTop s top → (b : ℕ) → (0 < count_of s b) ↔ (Reached s held b)

-- Each count is the number of the references to the block in nodes that can be reached, and of those held.
abbrev pub CountsAreTrue : Type 0
CountsAreTrue =
    (s : Store) (held : List ℕ) (top : ℕ) → Balanced s [] held → HasTop s top
    → (reached : ℕ → Bool) → ((b : ℕ) → IsTrue (reached b) ↔ (Reached s held b))
    → (b : ℕ) → count_of s b ≡ occurrences b held + sum_below (λ c. if reached c then occurrences b (children (node_at s c)) else 0) (length s.counts)

-- the counts of the last commit are kept, and so are the nodes that it names
pub record Keeps (commit s : Store) : Type 0 where
  pub counts : s.kept ≡ commit.counts
  pub nodes : (b : ℕ) → 0 < kept_of s b → node_at s b ≡ node_at commit b

-- What stands under the roots of the last commit stands there in any image whose blocks are as they are now where
-- the last commit names them, whatever the other blocks hold.
abbrev pub StopKeeps : Type 0
StopKeeps =
    (commit s image : Store) (roots : List ℕ) → Balanced commit [] roots → Keeps commit s
    → ((b : ℕ) → 0 < kept_of s b → node_at image b ≡ node_at s b)
    → Frame commit image roots
