-- Internal: the slots of a run of virtual blocks (own).
use Rattle.std.specs.Prelude.{ℕ, zero, suc, ◌+◌, List}
use Rattle.tp_sharing.specs.Volumes.{BlockSlot, Volumes, without_place, without_slot}

-- the slots without those of n virtual blocks from this one on
abbrev pub without_places : ℕ → ℕ → List BlockSlot → List BlockSlot
without_places first zero xs = xs
without_places first (suc n) xs = without_place (first + n) (without_places first n xs)

-- the devices, of which this one has no slots of n virtual blocks from this one on
abbrev pub without_run : ℕ → ℕ → ℕ → Volumes → Volumes
without_run id first zero volumes = volumes
without_run id first (suc n) volumes = without_slot id (first + n) (without_run id first n volumes)
