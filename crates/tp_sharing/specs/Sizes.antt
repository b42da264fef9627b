-- Trusted reading: how many metadata blocks the trees use (own).
use Rattle.std.specs.Prelude.{◌≡◌, ℕ, ◌+◌, ◌-◌, ◌/◌, ◌^◌, ◌<◌, ◌≤◌, nat_lt, List, [], ◌∷◌, ◌++◌, length, map, Some, sum_by}
use Rattle.std.specs.List.{AllByRecursion, count_by, range_with_len}
use Rattle.tp_layout.specs.declared.entry.Entry.{Entry}
use Rattle.tp_layout.specs.Entries.{found}
use Rattle.tp_refs.specs.Store.{Store, count_of, node_at, values}
use Rattle.tp_refs.specs.Balance.{Balanced, SameBelow, occurrences}
use Rattle.tp_trees.specs.Sizes.{nodes_of}
use Rattle.tp_sharing.specs.Forest.{Forest, IsVolume, content}
use Rattle.tp_sharing.specs.Volumes.{DeviceSlots, Volumes, volumes_below}

-- how many virtual blocks of each device have a data block
abbrev pub mapped_counts : Volumes → List ℕ
mapped_counts volumes = map (λ (d : DeviceSlots). length d.slots) volumes

-- how many of m metadata blocks have a count over 0
abbrev pub metadata_in_use : ℕ → Store → ℕ
metadata_in_use m s = count_by (λ b. nat_lt 0 (count_of s b)) (range_with_len 0 m)

-- Beside the fixed blocks the device tree and the volumes' trees have a node for every 31 devices, one for every 63 slots of each
-- volume, and the roots, at most.
abbrev pub NodesAreFew : Type 0
NodesAreFew =
    (m : ℕ) (s : Store) (root : ℕ) (fixed : List ℕ) (top : ℕ) → Balanced s [] (root ∷ fixed) → Forest s root fixed top → top ≤ 2 ^ 24 → length s.nodes ≡ m
    → metadata_in_use m s ≤ length fixed + 1 + length (volumes_below m s root) / 31 + sum_by (λ n. 1 + n / 63) (mapped_counts (volumes_below m s root))

-- how many nodes the device tree has
abbrev pub device_nodes : Store → ℕ → ℕ
device_nodes s root = length (nodes_of ((node_at s root).rank - 5) s root)

-- What stands under a block of a low rank was live, and stays.
pub record TreeStays (s t : Store) (r : ℕ) : Type 0 where
  pub live : 0 < count_of s r
  pub low : (node_at s r).rank < 5
  pub same : (k : ℕ) → SameBelow k s t r

-- Where each volume's tree is one that was there, no more nodes come into use than the device tree has more. Volumes that it does
-- not name may be held beside it.
abbrev pub UseByDevices : Type 0
UseByDevices =
    (m : ℕ) (s t : Store) (held later : List ℕ) (root next : ℕ) (fixed : List ℕ) (top : ℕ) (more : List Entry)
    → Balanced s [] held → ((b : ℕ) → 0 < occurrences b (root ∷ fixed) → 0 < occurrences b held) → Forest s root fixed top → length s.nodes ≡ m
    → Balanced t [] later → ((b : ℕ) → 0 < occurrences b later → 0 < occurrences b (values more ++ (next ∷ fixed))) → Forest t next fixed top → length t.nodes ≡ m
    → AllByRecursion (IsVolume t top) more → AllByRecursion (λ (e : Entry). TreeStays s t e.value) more
    → ((device : ℕ) (e : Entry) → found device (content 5 t next) ≡ Some e → TreeStays s t e.value)
    → metadata_in_use m t + device_nodes s root ≤ metadata_in_use m s + device_nodes t next
