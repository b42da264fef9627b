-- Trusted reading: the trees of the volumes below the device tree, and which virtual blocks share a data block (own, in the manner of the kernel's
-- thin-provisioning.rst: "internal snapshots").
use Rattle.std.specs.Prelude.{◌≡◌, ℕ, zero, suc, ◌-◌, ◌<◌, ◌≤◌, ◌^◌, ◌↔◌, ◌||◌, List, [], ◌++◌, length, slice_index, Option, Some, IsTrue}
use Rattle.std.specs.Option.{option_map}
use Rattle.tp_layout.specs.declared.entry.Entry.{Entry}
use Rattle.tp_layout.specs.Entries.{found}
pub use Rattle.tp_layout.specs.Super.{held_refs}
use Rattle.tp_refs.specs.Store.{Store, count_of, node_at}
use Rattle.tp_refs.specs.Balance.{Balanced, occurrences}
use Rattle.tp_trees.specs.Tree.{IsWhole, is_shared_path, led_to, pairs}

-- the entries of the tree below a block, whose leaves have this rank
abbrev pub content : ℕ → Store → ℕ → List Entry
content base s b = pairs ((node_at s b).rank - base) s b

-- the value of the first entry that has the key
abbrev pub value_at : ℕ → List Entry → Option ℕ
value_at key es = option_map (λ e. e.value) (found key es)

-- An entry of the device tree names the root of a volume's tree, whose virtual blocks are below `top`. The values there are
-- data blocks. The entry tells how many there are.
pub record IsVolume (s : Store) (top : ℕ) (e : Entry) : Type 0 where
  pub tree : IsWhole 1 ((node_at s e.value).rank - 1) s top e.value
  pub data_blocks : (block : ℕ) (x : Entry) → found block (content 1 s e.value) ≡ Some x → length s.nodes ≤ x.value
  pub mapped : e.mapped ≡ length (content 1 s e.value)

-- The root is that of the device tree, whose ids have 24 bits, and each of its entries is a volume. Fixed blocks hold no nodes.
pub record Forest (s : Store) (root : ℕ) (fixed : List ℕ) (top : ℕ) : Type 0 where
  pub devices : IsWhole 5 ((node_at s root).rank - 5) s (2 ^ 24) root
  pub volumes : (device : ℕ) (e : Entry) → found device (content 5 s root) ≡ Some e → IsVolume s top e
  pub once : (b : ℕ) → occurrences b fixed ≤ 1
  pub bare : (b : ℕ) → 0 < occurrences b fixed → (node_at s b).rank ≡ 0
  pub inside : (b : ℕ) → 0 < occurrences b fixed → b < length s.nodes

-- the trees give a virtual block of a device this data block
abbrev pub Slot : Store → ℕ → ℕ → ℕ → ℕ → Type 0
Slot s root device block p = (volume : ℕ) × (value_at device (content 5 s root) ≡ Some volume) × (value_at block (content 1 s volume) ≡ Some p)

-- ---- several roots: that of the device tree, and that of a held copy of it

-- Below each of these roots stands a forest. Their trees may share nodes.
abbrev pub Forests : Store → List ℕ → List ℕ → ℕ → Type 0
Forests s roots fixed top = (root : ℕ) → 0 < occurrences root roots → Forest s root fixed top

-- below the root of a held copy, where there is one, stands a forest
abbrev pub HeldForest : Store → ℕ → List ℕ → ℕ → Type 0
HeldForest s zero fixed top = Unit {0}
HeldForest s (suc n) fixed top = Forest s (suc n) fixed top

-- another slot has the data block, below the root at this place of the list or another one
abbrev pub SharedSlot : Store → List ℕ → ℕ → ℕ → ℕ → ℕ → Type 0
SharedSlot s roots i device block p = (j other at : ℕ) × (j < length roots) × Slot s (slice_index roots j) other at p × (((j ≡ i) × (other ≡ device) × (at ≡ block)) → ⊥)

-- A look-up's test of the path from a root down to a data block, through a volume's root, is true exactly where another slot has the data block.
abbrev pub SharedExactly : Type 0
SharedExactly =
    (s : Store) (roots fixed : List ℕ) (top : ℕ) → Balanced s [] (roots ++ fixed) → Forests s roots fixed top → (i : ℕ) → i < length roots
    → (device block : ℕ) (volume slot : Entry) → found device (content 5 s (slice_index roots i)) ≡ Some volume → found block (content 1 s volume.value) ≡ Some slot
    → (IsTrue (is_shared_path ((node_at s (slice_index roots i)).rank - 5) s device (slice_index roots i) || is_shared_path ((node_at s volume.value).rank - 1) s block volume.value))
    ↔ (SharedSlot s roots i device block slot.value)

-- ---- the blocks on a path

-- the block n steps below b on the path of a key
abbrev pub down : Store → ℕ → ℕ → ℕ → ℕ
down s key b zero = b
down s key b (suc n) = led_to key (node_at s (down s key b n)).entries

-- some block on the path of a key, from b down to the value in the leaf, has a count of 2 or more
abbrev pub SharedWithin : ℕ → Store → ℕ → ℕ → Type 0
SharedWithin k s key b = (n : ℕ) × (n ≤ suc k) × (2 ≤ count_of s (down s key b n))

-- The test is true exactly where some block on the path has a count of 2 or more.
abbrev pub TestIsWithin : Type 0
TestIsWithin = (k : ℕ) (s : Store) (key b : ℕ) → (IsTrue (is_shared_path k s key b)) ↔ (SharedWithin k s key b)
