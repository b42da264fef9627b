-- Internal: where a slot stands in a row (own).
use Rattle.std.specs.Prelude.{ℕ, suc, List, [], ◌∷◌, nat_lt, if◌then◌else◌}
use Rattle.tp_sharing.specs.Volumes.{BlockSlot}

-- how many slots stand before the first one with this virtual block or a greater one
abbrev pub rank_in : ℕ → List BlockSlot → ℕ
rank_in block [] = 0
rank_in block (x ∷ xs) = if nat_lt x.block block then suc (rank_in block xs) else 0
