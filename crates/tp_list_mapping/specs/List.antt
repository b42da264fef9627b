-- Internal: a list of devices as volumes (own).
use Rattle.std.specs.Prelude.{◌≡◌, length, None, ℕ, zero, suc, ◌+◌, ◌≤◌, Bool, false, ◌||◌, List, [], ◌∷◌, map, nat_lt, set, slice_index_or, vec_capacity, if◌then◌else◌}
use Rattle.std.specs.List.{All}
use Rattle.tp_sharing.specs.Volumes.{BlockSlot, DeviceSlots, Volumes, place_in}
use Rattle.tp_mapping.specs.Slots.{is_used}
use Rattle.tp_list_mapping.specs.declared.device.Device.{Device}

-- what a device of the list stands for
abbrev pub volume : Device → DeviceSlots
volume d = record { id = d.id; size = d.size; slots = d.slots.items }

abbrev pub volumes : List Device → Volumes
volumes ds = map volume ds

-- how many devices stand before the first one with this id or a greater one
abbrev pub device_rank : ℕ → Volumes → ℕ
device_rank id [] = 0
device_rank id (d ∷ ds) = if nat_lt d.id id then suc (device_rank id ds) else 0

-- whether a slot has the data block, or it is marked
abbrev pub is_taken : Volumes → List Bool → ℕ → Bool
is_taken ds marks place = slice_index_or marks place false || is_used place ds

-- how many of n data blocks are not taken
abbrev pub free_below : ℕ → Volumes → List Bool → ℕ
free_below zero ds marks = 0
free_below (suc n) ds marks = free_below n ds marks + (if is_taken ds marks n then 0 else 1)

-- this device stands at a place
abbrev pub IsAt : ℕ → List Device → Device → Type 0
IsAt at ds d = d ≡ slice_index_or ds at d

-- One device has the changed slots, with room for as many as before, and all else is as it was.
pub record HasChanged (f : List BlockSlot → List BlockSlot) (at : ℕ) (old new : List Device) : Type 0 where
  pub was : Device
  pub device : Device
  pub there : IsAt at old was
  pub changed : new ≡ set old at device
  pub id : device.id ≡ was.id
  pub size : device.size ≡ was.size
  pub slots : device.slots.items ≡ f was.slots.items
  pub room : vec_capacity was.slots ≤ vec_capacity device.slots

-- the device at a place has no room for one more slot
pub record IsFullAt (at : ℕ) (ds : List Device) : Type 0 where
  pub was : Device
  pub there : IsAt at ds was
  pub full : vec_capacity was.slots ≤ length was.slots.items

-- the device at a place has no slot of this virtual block
pub record LacksAt (at block : ℕ) (ds : List Device) : Type 0 where
  pub was : Device
  pub there : IsAt at ds was
  pub absent : place_in block was.slots.items ≡ None

-- each device has room for n slots
abbrev pub IsRoomy : ℕ → List Device → Type 0
IsRoomy n ds = All (λ d. n ≤ vec_capacity d.slots) ds

-- there are as many devices, each with as much room
pub record IsAsRoomy (old new : List Device) : Type 0 where
  pub sized : length new ≡ length old
  pub room : (n : ℕ) → IsRoomy n old → IsRoomy n new
