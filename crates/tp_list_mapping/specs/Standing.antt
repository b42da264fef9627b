-- Internal: when a list stands for volumes (own).
use Rattle.std.specs.Prelude.{◌≡◌, ℕ, ◌+◌, ◌*◌, ◌<◌, ◌≤◌, ◌↔◌, ◌^◌, ⊤, List, [], ◌∷◌, Some, false, length, nat_lt, replicate, slice_index_or, vec_capacity, if◌then◌else◌}
use Rattle.tp_model.specs.Geometry.{Geometry}
use Rattle.tp_model.specs.Told.{told_blocks}
use Rattle.tp_sharing.specs.Volumes.{Unused, Volumes, size_of}
use Rattle.tp_mapping.specs.Mapping.{AreWithin}
use Rattle.tp_list_mapping.specs.List.{IsRoomy, volumes}
use Rattle.tp_list_mapping.specs.declared.list.ListMapping.{ListMapping}

-- A list names no metadata block.
abbrev pub counts_of : Geometry → List ℕ
counts_of g = replicate g.metadata_blocks 0

-- what n spare devices are as free metadata blocks
abbrev pub room_of : ℕ → ℕ
room_of n = if nat_lt 65536 n then 524304 else 8 * n + 16

-- no volume has more blocks
abbrev pub IsBounded : Geometry → ℕ → Volumes → Type 0
IsBounded g most volumes = (id size : ℕ) → size_of id volumes ≡ Some size → told_blocks g size ≤ most

-- none of these is a copy
abbrev pub AreLow : Volumes → Type 0
AreLow [] = ⊤
AreLow (d ∷ ds) = (d.id < 2 ^ 24) × AreLow ds

-- The list stands for these volumes, none of which is a copy, and has room for each change.
pub record StandsFor (m : ListMapping) (now kept : Volumes) : Type 0 where
  pub listed : now ≡ volumes m.devices.items
  pub low : AreLow now
  pub within : AreWithin m.geometry (counts_of m.geometry) now kept
  pub least : m.geometry.virtual_blocks ≤ m.most_blocks
  pub most : m.most_blocks ≤ 2 ^ 24
  pub bounded : IsBounded m.geometry m.most_blocks now
  pub roomy : IsRoomy (m.most_blocks + 1) m.devices.items
  pub spare_roomy : IsRoomy (m.most_blocks + 1) m.spare.items
  pub fits : length m.devices.items + length m.spare.items ≤ vec_capacity m.devices
  pub spare_fits : length m.devices.items + length m.spare.items ≤ vec_capacity m.spare
  pub sized : length m.kept.items ≡ m.geometry.data_blocks
  pub marked : (place : ℕ) → place < m.geometry.data_blocks → (slice_index_or m.kept.items place false ≡ false) ↔ Unused place kept
