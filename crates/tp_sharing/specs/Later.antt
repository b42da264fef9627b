-- Internal: what stays of the volumes while the trees are changed (own).
use Rattle.std.specs.Prelude.{◌≡◌, ℕ, ◌+◌, ◌-◌, ◌<◌, ◌≤◌, ◌^◌, ◌⊎◌, List, [], ◌∷◌, ◌++◌, length, Option, None, Some}
use Rattle.tp_layout.specs.declared.entry.Entry.{Entry}
use Rattle.tp_layout.specs.Entries.{found, with_entry, without_key}
use Rattle.tp_refs.specs.Store.{Store, count_of, node_at}
use Rattle.tp_refs.specs.Balance.{Balanced, Frame, LowerStay, SameBelow, occurrences}
use Rattle.tp_trees.specs.Tree.{IsTree, IsWhole, pairs}
use Rattle.tp_sharing.specs.Forest.{Forest, Forests, HeldForest, IsVolume, content, held_refs}
use Rattle.tp_sharing.specs.Volumes.{BlockSlot, DeviceSlots, Volumes, changed_at, copies_below, device_from, resized, slot_from, volumes_below, with_device, with_slot, without_device, without_slot}

-- The entry tells of a volume that was there, under some id, and whose nodes are as they were.
pub record VolumeStays (s t : Store) (root : ℕ) (e : Entry) : Type 0 where
  pub device : ℕ
  pub old : Entry
  pub was : found device (content 5 s root) ≡ Some old
  pub value : e.value ≡ old.value
  pub mapped : e.mapped ≡ old.mapped
  pub same : (k : ℕ) → SameBelow k s t old.value

-- A tree whose nodes stay keeps its content.
abbrev pub ContentStays : Type 0
ContentStays =
    (base : ℕ) (s t : Store) (high r : ℕ) → IsWhole base ((node_at s r).rank - base) s high r → ((k : ℕ) → SameBelow k s t r)
    → IsWhole base ((node_at t r).rank - base) t high r × (content base t r ≡ content base s r)

-- A volume's root is live, not open, and of a lower rank than the device tree's nodes.
abbrev pub VolumesAreLive : Type 0
VolumesAreLive =
    (s : Store) (opens held : List ℕ) (root : ℕ) (fixed : List ℕ) (top : ℕ) → Balanced s opens held → 0 < occurrences root held → Forest s root fixed top
    → (device : ℕ) (e : Entry) → found device (content 5 s root) ≡ Some e
    → (0 < count_of s e.value) × (occurrences e.value opens ≡ 0) × ((node_at s e.value).rank < 5)

-- What stands under a live block of a low rank stays where no live node of a low rank was written.
abbrev pub LowBlocksStay : Type 0
LowBlocksStay =
    (rank : ℕ) (s t : Store) (opens held : List ℕ) → Balanced s opens held → LowerStay rank opens s t
    → (b : ℕ) → 0 < count_of s b → occurrences b opens ≡ 0 → (node_at s b).rank < rank → (k : ℕ) → SameBelow k s t b

-- A volume whose nodes stay is one, and keeps its content.
abbrev pub VolumeKept : Type 0
VolumeKept =
    (s t : Store) (top : ℕ) (old e : Entry) → IsVolume s top old → length t.nodes ≡ length s.nodes → e.value ≡ old.value → e.mapped ≡ old.mapped
    → ((k : ℕ) → SameBelow k s t old.value) → IsVolume t top e × (content 1 t e.value ≡ content 1 s old.value)

-- Where no live node below the device tree's ranks was written, each volume stays, and so does its content.
abbrev pub VolumesStay : Type 0
VolumesStay =
    (s t : Store) (opens held : List ℕ) (root : ℕ) (fixed : List ℕ) (top : ℕ) → Balanced s opens held → 0 < occurrences root held
    → Forest s root fixed top → LowerStay 5 opens s t
    → (device : ℕ) (e : Entry) → found device (content 5 s root) ≡ Some e → VolumeStays s t root e × (content 1 t e.value ≡ content 1 s e.value)

-- The forest stands after a change where the device tree is whole, and each of its entries tells of a volume that stays, or of a
-- new one. Nothing is asked of counts.
abbrev pub ForestAfter : Type 0
ForestAfter =
    (s t : Store) (root next : ℕ) (fixed : List ℕ) (top : ℕ) → Forest s root fixed top → length t.nodes ≡ length s.nodes → Frame s t fixed
    → IsWhole 5 ((node_at t next).rank - 5) t (2 ^ 24) next
    → ((device : ℕ) (e : Entry) → found device (content 5 t next) ≡ Some e → VolumeStays s t root e ⊎ IsVolume t top e)
    → Forest t next fixed top

-- the forest and what it stands for are as they were
pub record SameForest (s t : Store) (root : ℕ) (fixed : List ℕ) (top : ℕ) : Type 0 where
  pub forest : Forest t root fixed top
  pub devices : content 5 t root ≡ content 5 s root
  pub volumes : (device : ℕ) (e : Entry) → found device (content 5 s root) ≡ Some e → content 1 t e.value ≡ content 1 s e.value
  pub lists : (m : ℕ) → volumes_below m t root ≡ volumes_below m s root

-- Where what stands under the root and the fixed blocks is as it was, so are the forest and its lists.
abbrev pub ForestStays : Type 0
ForestStays =
    (s t : Store) (root : ℕ) (fixed : List ℕ) (top : ℕ) → Forest s root fixed top → length t.nodes ≡ length s.nodes → Frame s t (root ∷ fixed)
    → SameForest s t root fixed top

-- ---- a held copy

-- The forests of both roots are those of each.
abbrev pub ForestsOfBoth : Type 0
ForestsOfBoth = (s : Store) (root held : ℕ) (fixed : List ℕ) (top : ℕ) → Forest s root fixed top → HeldForest s held fixed top → Forests s (root ∷ held_refs held) fixed top

-- Where what stands under the held root and the fixed blocks is as it was, so are the held copy and its lists, whatever became of the other trees.
abbrev pub HeldStays : Type 0
HeldStays =
    (s t : Store) (held : ℕ) (fixed : List ℕ) (top : ℕ) → HeldForest s held fixed top → length t.nodes ≡ length s.nodes → Frame s t (held_refs held ++ fixed)
    → HeldForest t held fixed top × ((m : ℕ) → copies_below m t held ≡ copies_below m s held)

-- A change of the volumes of now leaves the copies behind them.
pub record CopiesStay : Type 0 where
  pub with_one : (x : DeviceSlots) (now : Volumes) (m : ℕ) (s : Store) (held : ℕ) → x.id < 2 ^ 24 → with_device x (now ++ copies_below m s held) ≡ with_device x now ++ copies_below m s held
  pub without_one : (id : ℕ) (now : Volumes) (m : ℕ) (s : Store) (held : ℕ) → id < 2 ^ 24 → without_device id (now ++ copies_below m s held) ≡ without_device id now ++ copies_below m s held
  pub changed : (id : ℕ) (f : List BlockSlot → List BlockSlot) (now : Volumes) (m : ℕ) (s : Store) (held : ℕ) → id < 2 ^ 24
      → changed_at id f (now ++ copies_below m s held) ≡ changed_at id f now ++ copies_below m s held
  pub grown : (id size : ℕ) (now : Volumes) (m : ℕ) (s : Store) (held : ℕ) → id < 2 ^ 24 → resized id size (now ++ copies_below m s held) ≡ resized id size now ++ copies_below m s held

-- ---- changes of the device tree

-- What an operation on the device tree leaves: a whole tree, and unwritten nodes below its ranks and under fixed blocks.
pub record DevicesChanged (s t : Store) (root next : ℕ) (fixed opens held : List ℕ) (k : ℕ) : Type 0 where
  pub balance : Balanced s opens held
  pub held_root : 0 < occurrences root held
  pub sized : length t.nodes ≡ length s.nodes
  pub frame : Frame s t fixed
  pub stay : LowerStay 5 opens s t
  pub whole : IsWhole 5 k t (2 ^ 24) next

-- An entry was put there that names a volume, to whose root a reference was held: the forest stands again, and the lists have
-- the device.
abbrev pub DevicePut : Type 0
DevicePut =
    (s t : Store) (root next : ℕ) (fixed opens held : List ℕ) (k top : ℕ) → Forest s root fixed top → DevicesChanged s t root next fixed opens held k
    → (x : Entry) → pairs k t next ≡ with_entry x (content 5 s root) → IsVolume s top x → 0 < occurrences x.value held → (node_at s x.value).rank < 5
    → Forest t next fixed top × ((m : ℕ) → volumes_below m t next ≡ with_device (device_from m s x) (volumes_below m s root))

-- An entry was taken out of it.
abbrev pub DeviceTaken : Type 0
DeviceTaken =
    (s t : Store) (root next : ℕ) (fixed opens held : List ℕ) (k top : ℕ) → Forest s root fixed top → DevicesChanged s t root next fixed opens held k
    → (id : ℕ) → pairs k t next ≡ without_key id (content 5 s root)
    → Forest t next fixed top × ((m : ℕ) → volumes_below m t next ≡ without_device id (volumes_below m s root))

-- A device with the slots of another volume's tree: where that is the device's own with one entry more or less, one slot of
-- the device was changed.
pub record SlotsOfDevice : Type 0 where
  pub with_one : (m : ℕ) (s : Store) (root : ℕ) (fixed : List ℕ) (top : ℕ) → Forest s root fixed top
      → (old new x : Entry) → found new.key (content 5 s root) ≡ Some old → new.size ≡ old.size → content 1 s new.value ≡ with_entry x (content 1 s old.value)
      → with_device (device_from m s new) (volumes_below m s root) ≡ with_slot new.key (slot_from m x) (volumes_below m s root)
  pub without_one : (m : ℕ) (s : Store) (root : ℕ) (fixed : List ℕ) (top : ℕ) → Forest s root fixed top
      → (old new : Entry) (block : ℕ) → found new.key (content 5 s root) ≡ Some old → new.size ≡ old.size → content 1 s new.value ≡ without_key block (content 1 s old.value)
      → with_device (device_from m s new) (volumes_below m s root) ≡ without_slot new.key block (volumes_below m s root)

-- ---- new volumes

-- the content of a tree is that by its height
abbrev pub ContentIsPairs : Type 0
ContentIsPairs = (base k : ℕ) (s : Store) (low high b : ℕ) → IsTree base k s low high b → content base s b ≡ pairs k s b

-- A tree without entries is a volume.
abbrev pub NewVolume : Type 0
NewVolume = (t : Store) (top : ℕ) (e : Entry) → IsWhole 1 0 t top e.value → pairs 0 t e.value ≡ [] → e.mapped ≡ 0 → IsVolume t top e

-- how many entries there are with this one, by what was found at its key
abbrev pub mapped_after : Option Entry → ℕ → ℕ
mapped_after None n = n + 1
mapped_after (Some was) n = n

-- So is the tree of a volume with one entry more, or another one at its key, whose value is a data block.
abbrev pub VolumeWithEntry : Type 0
VolumeWithEntry =
    (s t : Store) (top k : ℕ) (old new x : Entry) → IsVolume s top old → length t.nodes ≡ length s.nodes
    → IsWhole 1 k t top new.value → pairs k t new.value ≡ with_entry x (content 1 s old.value) → length s.nodes ≤ x.value
    → new.mapped ≡ mapped_after (found x.key (content 1 s old.value)) old.mapped → IsVolume t top new

-- So is it without an entry.
abbrev pub VolumeWithoutEntry : Type 0
VolumeWithoutEntry =
    (s t : Store) (top k : ℕ) (old new was : Entry) (block : ℕ) → IsVolume s top old → length t.nodes ≡ length s.nodes
    → IsWhole 1 k t top new.value → found block (content 1 s old.value) ≡ Some was → pairs k t new.value ≡ without_key block (content 1 s old.value)
    → new.mapped + 1 ≡ old.mapped → IsVolume t top new

-- A device tree without entries, beside fixed blocks that hold no nodes.
abbrev pub EmptyForest : Type 0
EmptyForest =
    (s : Store) (root : ℕ) (fixed : List ℕ) (top : ℕ) → IsWhole 5 0 s (2 ^ 24) root → pairs 0 s root ≡ []
    → ((b : ℕ) → occurrences b fixed ≤ 1) → ((b : ℕ) → 0 < occurrences b fixed → (node_at s b).rank ≡ 0) → ((b : ℕ) → 0 < occurrences b fixed → b < length s.nodes)
    → Forest s root fixed top × ((m : ℕ) → volumes_below m s root ≡ [])
