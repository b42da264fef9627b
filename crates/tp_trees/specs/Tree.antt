-- Trusted reading: a tree in the store, and its content.
use Rattle.std.specs.Prelude.{◌≡◌, ℕ, zero, suc, ◌+◌, ◌-◌, ◌<◌, ◌≤◌, List, [], ◌∷◌, ◌++◌, length, nat_lt, slice_index_or, Bool, ◌==◌, ◌||◌, if◌then◌else◌}
use Rattle.tp_layout.specs.Entries.{Ascend, first_key, rank_of}
use Rattle.tp_layout.specs.declared.entry.Entry.{Entry}
use Rattle.tp_refs.specs.Store.{Store, count_of, node_at}

-- the most entries of a node of this rank: the leaves of the device tree have longer ones
abbrev pub most_of : ℕ → ℕ
most_of rank = if rank == 5 then 126 else 252

-- the least entries of a node of this rank that is no root
abbrev pub least_of : ℕ → ℕ
least_of rank = if rank == 5 then 63 else 126

-- The intervals from each key to the next cover `low` to `high`, and P holds of each with its value.
abbrev pub Parted : (ℕ → ℕ → ℕ → Type 0) → ℕ → ℕ → List Entry → Type 0
Parted P low high [] = low ≡ high
Parted P low high (e ∷ es) = (e.key ≡ low) × (low < first_key es high) × P low (first_key es high) e.value × Parted P (first_key es high) high es

-- the lists of the values, one after another
abbrev pub joined : (ℕ → List Entry) → List Entry → List Entry
joined f [] = []
joined f (e ∷ es) = f e.value ++ joined f es

-- The block is the root of a tree of k levels above the leaves, whose keys are from `low` up to, not including, `high`.
-- A leaf's rank is `base`. Each node but the root has its least number of entries.
abbrev pub IsTree : ℕ → ℕ → Store → ℕ → ℕ → ℕ → Type 0
IsTree base zero s low high b = ((node_at s b).rank ≡ base) × Ascend low high (node_at s b).entries
IsTree base (suc k) s low high b =
    ((node_at s b).rank ≡ base + suc k)
    × Parted (λ from to c. IsTree base k s from to c × (least_of (base + k) ≤ length (node_at s c).entries)) low high (node_at s b).entries

-- the entries of the leaves of a tree of k levels above them, in order
abbrev pub pairs : ℕ → Store → ℕ → List Entry
pairs zero s b = (node_at s b).entries
pairs (suc k) s b = joined (pairs k s) (node_at s b).entries

-- A whole tree: its keys are below `high`, and a root that is no leaf has two entries at least.
pub record IsWhole (base k : ℕ) (s : Store) (high b : ℕ) : Type 0 where
  pub tree : IsTree base k s 0 high b
  pub branches : 0 < k → 2 ≤ length (node_at s b).entries

abbrev pub blank : Entry
blank = record { key = 0; value = 0; mapped = 0; size = 0 }

-- where a key leads to: the value of the last entry with a key up to it
abbrev pub led_to : ℕ → List Entry → ℕ
led_to key es = (slice_index_or es (rank_of key es - 1) blank).value

-- whether a block on the path of the key has a count of 2 or more, from this block to the value in the leaf
abbrev pub is_shared_path : ℕ → Store → ℕ → ℕ → Bool
is_shared_path zero s key b = nat_lt 1 (count_of s b) || nat_lt 1 (count_of s (led_to key (node_at s b).entries))
is_shared_path (suc k) s key b = nat_lt 1 (count_of s b) || is_shared_path k s key (led_to key (node_at s b).entries)
