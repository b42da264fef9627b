-- Trusted reading: the size of a volume, by what its record tells of it (own).
use Rattle.std.specs.Prelude.{◌≡◌, ◌⊎◌, ℕ, ◌*◌, ◌<◌, ◌≤◌, ◌==◌, ◌^◌, if◌then◌else◌}
use Rattle.tp_model.specs.Geometry.{Geometry}

-- The blocks and sectors of a volume by the size that is told of it: 0 stands for the pool's own.
abbrev pub told_blocks : Geometry → ℕ → ℕ
told_blocks g size = if size == 0 then g.virtual_blocks else size

abbrev pub told_sectors : Geometry → ℕ → ℕ
told_sectors g size = told_blocks g size * g.block_sectors

-- the most blocks that may be told: virtual blocks have 24 bits
abbrev pub most_told : ℕ
most_told = 2 ^ 24

-- a size that may be told: none, or more blocks than the pool's own size has
abbrev pub IsToldSize : Geometry → ℕ → Type 0
IsToldSize g size = (size ≡ 0) ⊎ ((g.virtual_blocks < size) × (size ≤ most_told))
