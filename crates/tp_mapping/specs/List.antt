-- Trusted reading: whether another slot of volumes has a data block, and how many data blocks slots have (own).
use Rattle.std.specs.Prelude.{ℕ, zero, suc, ◌+◌, Bool, false, ◌==◌, ◌||◌, [], ◌∷◌, if◌then◌else◌}
use Rattle.tp_sharing.specs.Volumes.{DeviceSlots, Volumes}
use Rattle.tp_mapping.specs.Slots.{has_other, has_place}
pub use Rattle.tp_mapping.specs.Slots.{is_used}

-- whether a slot of the device but that of this virtual block has it
abbrev pub has_another : ℕ → ℕ → ℕ → DeviceSlots → Bool
has_another id block place d = if d.id == id then has_other block place d.slots else has_place place d.slots

-- whether another slot than this one has it
abbrev pub is_used_elsewhere : ℕ → ℕ → ℕ → Volumes → Bool
is_used_elsewhere id block place [] = false
is_used_elsewhere id block place (d ∷ ds) = has_another id block place d || is_used_elsewhere id block place ds

-- how many of n data blocks slots have
abbrev pub used_below : ℕ → Volumes → ℕ
used_below zero ds = 0
used_below (suc n) ds = used_below n ds + (if is_used n ds then 1 else 0)
