-- Trusted reading: the most metadata blocks that volumes with so many mapped blocks may use (own).
use Rattle.std.specs.Prelude.{ℕ, ◌+◌, ◌/◌, ◌≤◌, List, length, map, sum_by}
use Rattle.std.specs.FinMap.{entries, len}
use Rattle.tp_model.specs.Geometry.{Geometry, fixed_part}
use Rattle.tp_model.specs.Pool.{PlainPool, Volume}

-- mapped: for each volume, how many of its blocks are mapped
abbrev pub metadata_bound : Geometry → List ℕ → ℕ
metadata_bound g mapped = fixed_part g + 1 + length mapped / 31 + sum_by (λ m. 1 + m / 63) mapped

-- for each volume of a pool, how many of its blocks are mapped
abbrev pub mapped_in : PlainPool → List ℕ
mapped_in p = map (λ (e : ℕ × Volume). len e.1.slots) (entries p.volumes)

-- the pool uses no more metadata blocks than its volumes may
abbrev pub IsBounded : PlainPool → Type 0
IsBounded p = p.meta_used ≤ metadata_bound p.geometry (mapped_in p)
