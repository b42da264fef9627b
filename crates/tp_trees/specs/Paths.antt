-- Internal: the entries of a tree by paths from its root (own).
use Rattle.std.specs.Prelude.{◌≡◌, ℕ, zero, suc, ◌<◌, ◌≤◌, ◌⊎◌, ◌↔◌, List, [], ◌∷◌, Some}
use Rattle.tp_layout.specs.declared.entry.Entry.{Entry}
use Rattle.tp_layout.specs.Entries.{first_key, found}
use Rattle.tp_refs.specs.Store.{Store, node_at}
use Rattle.tp_trees.specs.Tree.{IsTree, pairs}

-- some entry of the list is this one, and has the key
abbrev pub HasEntry : ℕ → Entry → List Entry → Type 0
HasEntry q v [] = ⊥
HasEntry q v (e ∷ es) = ((e.key ≡ q) × (e ≡ v)) ⊎ HasEntry q v es

-- R holds of the child of some entry whose interval holds the key, and of the interval's end
abbrev pub Through : (ℕ → ℕ → Type 0) → ℕ → ℕ → List Entry → Type 0
Through R q high [] = ⊥
Through R q high (e ∷ es) = ((e.key ≤ q) × (q < first_key es high) × R (first_key es high) e.value) ⊎ Through R q high es

-- some path whose intervals all hold the key ends in this entry of a leaf, which has the key
abbrev pub IsLedTo : ℕ → Store → ℕ → Entry → ℕ → ℕ → Type 0
IsLedTo zero s q v high b = HasEntry q v (node_at s b).entries
IsLedTo (suc k) s q v high b = Through (IsLedTo k s q v) q high (node_at s b).entries

-- A tree has an entry at a key exactly where a path leads to it.
abbrev pub EntriesByPaths : Type 0
EntriesByPaths =
    (base k : ℕ) (s : Store) (low high b q : ℕ) (v : Entry) → IsTree base k s low high b → low ≤ q → q < high
    → (found q (pairs k s b) ≡ Some v) ↔ (IsLedTo k s q v high b)
