-- Internal: what changes of the trees do to the lists (own).
use Rattle.std.specs.Prelude.{◌≡◌, ◌≢◌, ℕ, List, None, Some, is_some}
use Rattle.tp_layout.specs.declared.entry.Entry.{Entry}
use Rattle.tp_layout.specs.Entries.{found, with_entry, without_key}
use Rattle.tp_refs.specs.Store.{Store}
use Rattle.tp_sharing.specs.Forest.{Forest, content}
use Rattle.tp_sharing.specs.Volumes.{BlockSlot, DeviceSlots, DevicesAscend, Volumes, changed_at, device_from, device_of, size_of, slot_from, slot_of, volumes_below, with_device, with_slot, without_device, without_slot}

-- ---- look-ups after a change of the lists

-- A device put in or taken out is so at its id, and each other one is as it was.
pub record DeviceChanges : Type 0 where
  pub with_same : (x : DeviceSlots) (ds : Volumes) → device_of x.id (with_device x ds) ≡ Some x.slots
  pub with_other : (x : DeviceSlots) (id : ℕ) (ds : Volumes) → id ≢ x.id → device_of id (with_device x ds) ≡ device_of id ds
  pub without_same : (low id : ℕ) (ds : Volumes) → DevicesAscend low ds → device_of id (without_device id ds) ≡ None
  pub without_other : (id other : ℕ) (ds : Volumes) → other ≢ id → device_of other (without_device id ds) ≡ device_of other ds

-- So is a slot of a device.
pub record SlotChanges : Type 0 where
  pub with_same : (id : ℕ) (x : BlockSlot) (xs : List BlockSlot) (ds : Volumes) → device_of id ds ≡ Some xs → slot_of id x.block (with_slot id x ds) ≡ Some x.place
  pub with_other : (id : ℕ) (x : BlockSlot) (other at : ℕ) (ds : Volumes) → (((other ≡ id) × (at ≡ x.block)) → ⊥) → slot_of other at (with_slot id x ds) ≡ slot_of other at ds
  pub without_same : (low id block : ℕ) (ds : Volumes) → DevicesAscend low ds → slot_of id block (without_slot id block ds) ≡ None
  pub without_other : (id block other at : ℕ) (ds : Volumes) → (((other ≡ id) × (at ≡ block)) → ⊥) → slot_of other at (without_slot id block ds) ≡ slot_of other at ds

-- What is told of sizes stays but where a device is put in, taken out or resized.
pub record SizeChanges : Type 0 where
  pub with_same : (x : DeviceSlots) (ds : Volumes) → size_of x.id (with_device x ds) ≡ Some x.size
  pub with_other : (x : DeviceSlots) (id : ℕ) (ds : Volumes) → id ≢ x.id → size_of id (with_device x ds) ≡ size_of id ds
  pub without_same : (low id : ℕ) (ds : Volumes) → DevicesAscend low ds → size_of id (without_device id ds) ≡ None
  pub without_other : (id other : ℕ) (ds : Volumes) → other ≢ id → size_of other (without_device id ds) ≡ size_of other ds
  pub slots : (id other : ℕ) (f : List BlockSlot → List BlockSlot) (ds : Volumes) → size_of other (changed_at id f ds) ≡ size_of other ds
  -- there is a size where there is a device
  pub told : (id : ℕ) (ds : Volumes) → is_some (size_of id ds) ≡ is_some (device_of id ds)

-- ---- the lists of changed trees

-- the volumes of the other devices have the content that they had
abbrev pub OthersStay : Store → Store → ℕ → ℕ → Type 0
OthersStay s t root id = (device : ℕ) (e : Entry) → found device (content 5 s root) ≡ Some e → device ≢ id → content 1 t e.value ≡ content 1 s e.value

-- An entry was put into the device tree.
abbrev pub VolumesWithDevice : Type 0
VolumesWithDevice =
    (m : ℕ) (s t : Store) (root next : ℕ) (fixed : List ℕ) (top : ℕ) → Forest s root fixed top
    → (x : Entry) → content 5 t next ≡ with_entry x (content 5 s root) → OthersStay s t root x.key
    → volumes_below m t next ≡ with_device (device_from m t x) (volumes_below m s root)

-- An entry was taken out of the device tree.
abbrev pub VolumesWithoutDevice : Type 0
VolumesWithoutDevice =
    (m : ℕ) (s t : Store) (root next : ℕ) (fixed : List ℕ) (top : ℕ) → Forest s root fixed top
    → (id : ℕ) → content 5 t next ≡ without_key id (content 5 s root) → OthersStay s t root id
    → volumes_below m t next ≡ without_device id (volumes_below m s root)

-- An entry was put into a volume's tree, and the device's entry names the root of that.
abbrev pub VolumesWithSlot : Type 0
VolumesWithSlot =
    (m : ℕ) (s t : Store) (root next : ℕ) (fixed : List ℕ) (top : ℕ) → Forest s root fixed top
    → (old new x : Entry) → found new.key (content 5 s root) ≡ Some old → new.size ≡ old.size → content 5 t next ≡ with_entry new (content 5 s root)
    → content 1 t new.value ≡ with_entry x (content 1 s old.value) → OthersStay s t root new.key
    → volumes_below m t next ≡ with_slot new.key (slot_from m x) (volumes_below m s root)

-- An entry was taken out of a volume's tree.
abbrev pub VolumesWithoutSlot : Type 0
VolumesWithoutSlot =
    (m : ℕ) (s t : Store) (root next : ℕ) (fixed : List ℕ) (top : ℕ) → Forest s root fixed top
    → (old new : Entry) (block : ℕ) → found new.key (content 5 s root) ≡ Some old → new.size ≡ old.size → content 5 t next ≡ with_entry new (content 5 s root)
    → content 1 t new.value ≡ without_key block (content 1 s old.value) → OthersStay s t root new.key
    → volumes_below m t next ≡ without_slot new.key block (volumes_below m s root)
