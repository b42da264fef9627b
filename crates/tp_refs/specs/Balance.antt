-- Trusted reading: when the counts are those of the references (own, in the manner of the kernel's space maps).
use Rattle.std.specs.Prelude.{◌≡◌, ℕ, zero, suc, ◌+◌, ◌<◌, ◌≤◌, ◌==◌, ◌^◌, List, [], ◌∷◌, length, if◌then◌else◌}
use Rattle.tp_refs.specs.Store.{Store, count_of, kept_of, node_at, children, MayName}

-- 1 where the blocks are the same, else 0
unfoldable pub one_if_same : ℕ → ℕ → ℕ
one_if_same x b = if x == b then 1 else 0

-- how often a block stands in a list
abbrev pub occurrences : ℕ → List ℕ → ℕ
occurrences b [] = 0
occurrences b (x ∷ xs) = one_if_same x b + occurrences b xs

-- f 0 + .. + f (n - 1)
unfoldable pub sum_below : (ℕ → ℕ) → ℕ → ℕ
sum_below f zero = 0
sum_below f (suc n) = f n + sum_below f n

-- x where the count is not 0 and the block is not open, else 0
abbrev pub counted : ℕ → ℕ → ℕ → ℕ
counted zero o x = 0
counted (suc n) zero x = x
counted (suc n) (suc o) x = 0

-- how often the node in c names b, where c is live and not open
abbrev pub names_from : Store → List ℕ → ℕ → ℕ → ℕ
names_from s opens b c = counted (count_of s c) (occurrences c opens) (occurrences b (children (node_at s c)))

-- how often the live nodes that are not open name b
unfoldable pub times_named : Store → List ℕ → ℕ → ℕ
times_named s opens b = sum_below (names_from s opens b) (length s.counts)

-- Each count is that of the references: those of the nodes in live blocks, one for each open block, and those held from
-- outside. A block is live where its count is not 0. It is open while an operation is about to write it: its
-- node's references do not count.
pub record Balanced (s : Store) (opens held : List ℕ) : Type 0 where
  pub sized : length s.nodes ≤ length s.counts
  pub sized_kept : length s.kept ≡ length s.counts
  pub few : length s.counts ≤ 2 ^ 21
  pub small : (b : ℕ) → length (node_at s b).entries ≤ 252
  pub true : (b : ℕ) → count_of s b ≡ occurrences b opens + occurrences b held + times_named s opens b
  pub private : (b : ℕ) → 0 < occurrences b opens → count_of s b ≡ 1
  pub unkept : (b : ℕ) → 0 < occurrences b opens → kept_of s b ≡ 0
  pub ranks : (b c : ℕ) → 0 < count_of s b → occurrences b opens ≡ 0 → 0 < occurrences c (children (node_at s b)) → MayName (node_at s b).rank (node_at s c).rank

-- so few references are held, and so few blocks open, that n more fit into every count
abbrev pub HasRoomFor : ℕ → List ℕ → List ℕ → Type 0
HasRoomFor n opens held = length opens + length held + n ≤ 2 ^ 24

-- the nodes in b and down to k ranks below it are as they were
abbrev pub SameBelow : ℕ → Store → Store → ℕ → Type 0
SameBelow zero s t b = node_at t b ≡ node_at s b
SameBelow (suc k) s t b = (node_at t b ≡ node_at s b) × ((c : ℕ) → 0 < occurrences c (children (node_at s b)) → SameBelow k s t c)

-- what stands under each held block is as it was
abbrev pub Frame : Store → Store → List ℕ → Type 0
Frame s t held = (r k : ℕ) → 0 < occurrences r held → SameBelow k s t r

-- The nodes of lower rank that are live and not open are as they were, and still live.
pub record LowerStay (rank : ℕ) (opens : List ℕ) (s t : Store) : Type 0 where
  pub nodes : (b : ℕ) → 0 < count_of s b → occurrences b opens ≡ 0 → (node_at s b).rank < rank → node_at t b ≡ node_at s b
  pub live : (b : ℕ) → 0 < count_of s b → occurrences b opens ≡ 0 → (node_at s b).rank < rank → 0 < count_of t b

-- no node that the last commit names was written, and no block was added or removed
pub record KeptUnwritten (s t : Store) : Type 0 where
  pub sized : length t.nodes ≡ length s.nodes
  pub kept : t.kept ≡ s.kept
  pub nodes : (b : ℕ) → 0 < kept_of s b → node_at t b ≡ node_at s b

-- no node was written
pub record SameNodes (s t : Store) : Type 0 where
  pub nodes : t.nodes ≡ s.nodes
  pub kept : t.kept ≡ s.kept
