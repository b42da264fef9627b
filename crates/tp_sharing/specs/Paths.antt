-- Internal: sharing by paths whose intervals all hold the key (own).
use Rattle.std.specs.Prelude.{◌≡◌, ℕ, zero, suc, ◌-◌, ◌<◌, ◌≤◌, ◌^◌, ◌⊎◌, ◌↔◌, List, [], ◌++◌, length, slice_index}
use Rattle.tp_layout.specs.declared.entry.Entry.{Entry}
use Rattle.tp_refs.specs.Store.{Store, count_of, node_at}
use Rattle.tp_refs.specs.Balance.{Balanced}
use Rattle.tp_trees.specs.Paths.{IsLedTo, Through}
use Rattle.tp_trees.specs.Tree.{IsTree}
use Rattle.tp_sharing.specs.Forest.{Forests, SharedSlot, down}

-- the block x is b, or some path from b whose intervals all hold the key goes through it
abbrev pub OnPath : ℕ → Store → ℕ → ℕ → ℕ → ℕ → Type 0
OnPath zero s key x high b = b ≡ x
OnPath (suc k) s key x high b = (b ≡ x) ⊎ Through (OnPath k s key x) key high (node_at s b).entries

-- The path is that of the steps down.
abbrev pub PathsAreDown : Type 0
PathsAreDown =
    (base k : ℕ) (s : Store) (low high b key x : ℕ) → IsTree base k s low high b → low ≤ key → key < high
    → (OnPath k s key x high b) ↔ ((n : ℕ) × (n ≤ k) × (down s key b n ≡ x))

-- A path leads from a root to the entry of a volume, and one from the volume's root to a slot's entry. Then some block on either, or
-- the data block, has a count of 2 or more exactly where another slot has the data block, below this root or another one.
abbrev pub SharedByPaths : Type 0
SharedByPaths =
    (s : Store) (roots fixed : List ℕ) (top : ℕ) → Balanced s [] (roots ++ fixed) → Forests s roots fixed top → (i root : ℕ) → i < length roots → slice_index roots i ≡ root
    → (device block : ℕ) (volume slot : Entry) → device < 2 ^ 24 → block < top
    → IsLedTo ((node_at s root).rank - 5) s device volume (2 ^ 24) root → IsLedTo ((node_at s volume.value).rank - 1) s block slot top volume.value
    → ((x : ℕ) × (OnPath ((node_at s root).rank - 5) s device x (2 ^ 24) root ⊎ OnPath ((node_at s volume.value).rank - 1) s block x top volume.value ⊎ (slot.value ≡ x)) × (2 ≤ count_of s x))
    ↔ (SharedSlot s roots i device block slot.value)
