-- Internal: the next device in the order of the ids (own).
use Rattle.std.specs.Prelude.{◌≡◌, ℕ, ◌<◌, ◌≤◌, ◌^◌, IsSome, [], ◌∷◌, Option, None, Some, nat_le, if◌then◌else◌}
use Rattle.tp_sharing.specs.Volumes.{Volumes, device_of}

-- The least id of a device that is this one or more; none where there is no such device. No device has an id from 2 ^ 24 on: those are of copies.
abbrev pub IsNext : ℕ → Volumes → Option ℕ → Type 0
IsNext from volumes None = (id : ℕ) → from ≤ id → id < 2 ^ 24 → device_of id volumes ≡ None
IsNext from volumes (Some id) = (from ≤ id) × IsSome (device_of id volumes) × ((other : ℕ) → from ≤ other → IsSome (device_of other volumes) → id ≤ other)

-- the first id of a list that is this one or more
abbrev pub first_device : ℕ → Volumes → Option ℕ
first_device from [] = None
first_device from (d ∷ ds) = if nat_le from d.id then Some d.id else first_device from ds
