-- Trusted reading: what the trees stand for as lists, for the layers above: the devices, their virtual blocks, and the data blocks of these (own).
use Rattle.std.specs.Prelude.{◌≡◌, ℕ, zero, suc, ◌+◌, ◌-◌, ◌<◌, ◌≤◌, ◌==◌, ◌||◌, ◌^◌, nat_lt, if◌then◌else◌, List, [], ◌∷◌, ◌++◌, length, map, Option, None, Some, ◌↔◌, ⊤, IsTrue}
use Rattle.std.specs.Option.{option_map}
use Rattle.std.specs.List.{count_by, range_with_len}
use Rattle.tp_model.specs.Geometry.{Geometry}
use Rattle.tp_model.specs.Told.{IsToldSize, told_blocks}
use Rattle.tp_model.specs.Pool.{different, is_now}
pub use Rattle.tp_model.specs.Pool.{copy_id}
pub use Rattle.tp_model.specs.Slots.{BlockSlot}
use Rattle.tp_layout.specs.declared.entry.Entry.{Entry}
use Rattle.tp_layout.specs.Entries.{found}
use Rattle.tp_refs.specs.Store.{Store, count_of, node_at}
use Rattle.tp_refs.specs.Balance.{Balanced}
use Rattle.tp_trees.specs.Tree.{is_shared_path}
use Rattle.tp_sharing.specs.Forest.{Forest, Forests, Slot, content, held_refs}

-- a device, the size that its record tells, and its slots in the order of their virtual blocks
pub record DeviceSlots : Type 0 where
  pub id : ℕ
  pub size : ℕ
  pub slots : List BlockSlot

-- the devices in the order of their ids
abbrev pub Volumes : Type 0
Volumes = List DeviceSlots

-- ---- what stands there

-- the slots of a device
abbrev pub device_of : ℕ → Volumes → Option (List BlockSlot)
device_of id [] = None
device_of id (d ∷ ds) = if d.id == id then Some d.slots else device_of id ds

-- the size that is told of a device
abbrev pub size_of : ℕ → Volumes → Option ℕ
size_of id [] = None
size_of id (d ∷ ds) = if d.id == id then Some d.size else size_of id ds

-- the data block of a virtual block
abbrev pub place_in : ℕ → List BlockSlot → Option ℕ
place_in block [] = None
place_in block (x ∷ xs) = if x.block == block then Some x.place else place_in block xs

abbrev pub place_or_none : ℕ → Option (List BlockSlot) → Option ℕ
place_or_none block None = None
place_or_none block (Some xs) = place_in block xs

-- the data block of a virtual block of a device
abbrev pub slot_of : ℕ → ℕ → Volumes → Option ℕ
slot_of id block volumes = place_or_none block (device_of id volumes)

-- how many devices there are; a held copy of one is none
abbrev pub devices_in : Volumes → ℕ
devices_in volumes = count_by (λ d. is_now d.id) volumes

-- how many virtual blocks of a device have a data block
abbrev pub mapped_of : ℕ → Volumes → Option ℕ
mapped_of id volumes = option_map length (device_of id volumes)

-- the data blocks of all slots, in their order
abbrev pub places : Volumes → List ℕ
places [] = []
places (d ∷ ds) = map (λ x. x.place) d.slots ++ places ds

-- how many data blocks the slots have
abbrev pub used : Volumes → ℕ
used volumes = different (places volumes)

-- no slot has the data block
abbrev pub Unused : ℕ → Volumes → Type 0
Unused place volumes = (id block : ℕ) → slot_of id block volumes ≡ Some place → ⊥

-- another slot has the data block
abbrev pub OtherSlot : ℕ → ℕ → ℕ → Volumes → Type 0
OtherSlot id block place volumes = (other at : ℕ) × (slot_of other at volumes ≡ Some place) × (((other ≡ id) × (at ≡ block)) → ⊥)

-- the virtual blocks ascend strictly from `low` on
abbrev pub SlotsAscend : ℕ → List BlockSlot → Type 0
SlotsAscend low [] = ⊤
SlotsAscend low (x ∷ xs) = (low ≤ x.block) × SlotsAscend (suc x.block) xs

-- the ids ascend strictly from `low` on, and so do the virtual blocks of each device
abbrev pub DevicesAscend : ℕ → Volumes → Type 0
DevicesAscend low [] = ⊤
DevicesAscend low (d ∷ ds) = (low ≤ d.id) × SlotsAscend 0 d.slots × DevicesAscend (suc d.id) ds

-- ---- changes

-- the devices with this one, in the place of the one that had its id
abbrev pub with_device : DeviceSlots → Volumes → Volumes
with_device x [] = x ∷ []
with_device x (d ∷ ds) = if nat_lt x.id d.id then x ∷ (d ∷ ds) else if d.id == x.id then x ∷ ds else d ∷ with_device x ds

abbrev pub without_device : ℕ → Volumes → Volumes
without_device id [] = []
without_device id (d ∷ ds) = if d.id == id then ds else d ∷ without_device id ds

-- the slots with this one, in the place of the one of its virtual block
abbrev pub with_place : BlockSlot → List BlockSlot → List BlockSlot
with_place x [] = x ∷ []
with_place x (y ∷ ys) = if nat_lt x.block y.block then x ∷ (y ∷ ys) else if y.block == x.block then x ∷ ys else y ∷ with_place x ys

abbrev pub without_place : ℕ → List BlockSlot → List BlockSlot
without_place block [] = []
without_place block (y ∷ ys) = if y.block == block then ys else y ∷ without_place block ys

-- the devices where the slots of this one are those of a function; without it, as they are
abbrev pub changed_at : ℕ → (List BlockSlot → List BlockSlot) → Volumes → Volumes
changed_at id f [] = []
changed_at id f (d ∷ ds) = if d.id == id then record { id = d.id; size = d.size; slots = f d.slots } ∷ ds else d ∷ changed_at id f ds

abbrev pub with_slot : ℕ → BlockSlot → Volumes → Volumes
with_slot id x volumes = changed_at id (with_place x) volumes

abbrev pub without_slot : ℕ → ℕ → Volumes → Volumes
without_slot id block volumes = changed_at id (without_place block) volumes

-- the devices where this one tells another size
abbrev pub resized : ℕ → ℕ → Volumes → Volumes
resized id size [] = []
resized id size (d ∷ ds) = if d.id == id then record { id = d.id; size = size; slots = d.slots } ∷ ds else d ∷ resized id size ds

-- Each device tells a size that it may have, and its virtual blocks are below it.
pub record AreSized (g : Geometry) (volumes : Volumes) : Type 0 where
  pub told : (id size : ℕ) → size_of id volumes ≡ Some size → IsToldSize g size
  pub inside : (id size block place : ℕ) → size_of id volumes ≡ Some size → slot_of id block volumes ≡ Some place → block < told_blocks g size

-- ---- from the trees

-- the slot of an entry of a volume's tree, among m metadata blocks
abbrev pub slot_from : ℕ → Entry → BlockSlot
slot_from m x = record { block = x.key; place = x.value - m }

-- the device of an entry of the device tree
abbrev pub device_from : ℕ → Store → Entry → DeviceSlots
device_from m s e = record { id = e.key; size = e.size; slots = map (slot_from m) (content 1 s e.value) }

-- what the trees below this root stand for
abbrev pub volumes_below : ℕ → Store → ℕ → Volumes
volumes_below m s root = map (device_from m s) (content 5 s root)

-- In a list of volumes those of a held copy stand behind all others, each under the id of a copy, which no device has.
abbrev pub as_copy : DeviceSlots → DeviceSlots
as_copy d = record d { id = copy_id d.id }

-- the copies of the volumes below the root of a held copy, if there is one
abbrev pub copies_below : ℕ → Store → ℕ → Volumes
copies_below m s zero = []
copies_below m s (suc n) = map as_copy (volumes_below m s (suc n))

-- what the trees below both roots stand for
abbrev pub volumes_of : ℕ → Store → ℕ → ℕ → Volumes
volumes_of m s root held = volumes_below m s root ++ copies_below m s held

-- how many data blocks have a count over 0
abbrev pub data_in_use : ℕ → Store → ℕ
data_in_use m s = count_by (λ place. nat_lt 0 (count_of s (m + place))) (range_with_len 0 (length s.counts - m))

-- The slots of the trees are those of the lists.
abbrev pub SlotsAreListed : Type 0
SlotsAreListed =
    (m : ℕ) (s : Store) (root : ℕ) (fixed : List ℕ) (top : ℕ) → Forest s root fixed top → length s.nodes ≡ m
    → (device block place : ℕ) → (Slot s root device block (m + place)) ↔ (slot_of device block (volumes_below m s root) ≡ Some place)

-- What look-ups in the trees find stands in the lists.
pub record LookupsAreListed : Type 0 where
  pub devices : (m : ℕ) (s : Store) (root device : ℕ) → device_of device (volumes_below m s root) ≡ option_map (λ e. (device_from m s e).slots) (found device (content 5 s root))
  pub sizes : (m : ℕ) (s : Store) (root device : ℕ) → size_of device (volumes_below m s root) ≡ option_map (λ e. e.size) (found device (content 5 s root))
  pub slots : (m : ℕ) (s : Store) (root device block : ℕ) (volume : Entry) → found device (content 5 s root) ≡ Some volume
      → slot_of device block (volumes_below m s root) ≡ option_map (λ x. x.value - m) (found block (content 1 s volume.value))

-- Of both roots, a device finds its own volume and its size, and the copy of a device those below the held root.
pub record CopiesAreListed : Type 0 where
  pub now : (m : ℕ) (s : Store) (root held device : ℕ) → device < 2 ^ 24 → device_of device (volumes_of m s root held) ≡ device_of device (volumes_below m s root)
  pub copy : (m : ℕ) (s : Store) (root n : ℕ) (fixed : List ℕ) (top device : ℕ) → Forest s root fixed top → device_of (copy_id device) (volumes_of m s root (suc n)) ≡ device_of device (volumes_below m s (suc n))
  pub none : (m : ℕ) (s : Store) (root : ℕ) (fixed : List ℕ) (top device : ℕ) → Forest s root fixed top → device_of (copy_id device) (volumes_of m s root 0) ≡ None
  pub now_size : (m : ℕ) (s : Store) (root held device : ℕ) → device < 2 ^ 24 → size_of device (volumes_of m s root held) ≡ size_of device (volumes_below m s root)
  pub copy_size : (m : ℕ) (s : Store) (root n : ℕ) (fixed : List ℕ) (top device : ℕ) → Forest s root fixed top → size_of (copy_id device) (volumes_of m s root (suc n)) ≡ size_of device (volumes_below m s (suc n))
  pub none_size : (m : ℕ) (s : Store) (root : ℕ) (fixed : List ℕ) (top device : ℕ) → Forest s root fixed top → size_of (copy_id device) (volumes_of m s root 0) ≡ None

-- Ids have 24 bits, and one more for a copy, virtual blocks are below `top`, and data blocks are of the store, among m metadata blocks.
abbrev pub SlotsAreWithin : Type 0
SlotsAreWithin =
    (m : ℕ) (s : Store) (root held : ℕ) (fixed : List ℕ) (top : ℕ) → Balanced s [] (root ∷ (held_refs held ++ fixed)) → Forests s (root ∷ held_refs held) fixed top → length s.nodes ≡ m
    → (device block place : ℕ) → slot_of device block (volumes_of m s root held) ≡ Some place
    → (device < 2 ^ 25) × (block < top) × (m + place < length s.counts)

-- The lists are in order.
abbrev pub ListsAscend : Type 0
ListsAscend = (m : ℕ) (s : Store) (root held : ℕ) (fixed : List ℕ) (top : ℕ) → Forests s (root ∷ held_refs held) fixed top → DevicesAscend 0 (volumes_of m s root held)

-- The data blocks in use are the different ones of the slots.
abbrev pub UsedIsDifferent : Type 0
UsedIsDifferent =
    (m : ℕ) (s : Store) (root held : ℕ) (fixed : List ℕ) (top : ℕ) → Balanced s [] (root ∷ (held_refs held ++ fixed)) → Forests s (root ∷ held_refs held) fixed top → length s.nodes ≡ m
    → data_in_use m s ≡ used (volumes_of m s root held)

-- A data block's count is 0 exactly where no slot has it.
abbrev pub FreeIsUnused : Type 0
FreeIsUnused =
    (m : ℕ) (s : Store) (root held : ℕ) (fixed : List ℕ) (top : ℕ) → Balanced s [] (root ∷ (held_refs held ++ fixed)) → Forests s (root ∷ held_refs held) fixed top → length s.nodes ≡ m
    → (place : ℕ) → (count_of s (m + place) ≡ 0) ↔ (Unused place (volumes_of m s root held))

-- What a device's entry tells of mapped blocks is the number of its slots.
abbrev pub MappedIsTold : Type 0
MappedIsTold =
    (m : ℕ) (s : Store) (root : ℕ) (fixed : List ℕ) (top : ℕ) → Forest s root fixed top
    → (device : ℕ) → option_map (λ (e : Entry). e.mapped) (found device (content 5 s root)) ≡ mapped_of device (volumes_below m s root)

-- A look-up's test of the path from the root through a volume's root is true exactly where another slot of the lists, held or not, has the data block.
abbrev pub SharedIsOther : Type 0
SharedIsOther =
    (m : ℕ) (s : Store) (root held : ℕ) (fixed : List ℕ) (top : ℕ) → Balanced s [] (root ∷ (held_refs held ++ fixed)) → Forests s (root ∷ held_refs held) fixed top → length s.nodes ≡ m
    → (device block : ℕ) (volume slot : Entry) → found device (content 5 s root) ≡ Some volume → found block (content 1 s volume.value) ≡ Some slot
    → (IsTrue (is_shared_path ((node_at s root).rank - 5) s device root || is_shared_path ((node_at s volume.value).rank - 1) s block volume.value))
    ↔ (OtherSlot device block (slot.value - m) (volumes_of m s root held))
