-- Internal: what a user of a walk looks at.
use Rattle.std.specs.Prelude.{ℕ, ◌==◌, Bool, false, List, [], ◌∷◌}
use Rattle.tp_model.specs.Slots.{BlockSlot}

-- the first slot is that of this block
abbrev pub begins_at : ℕ → List BlockSlot → Bool
begins_at block [] = false
begins_at block (x ∷ xs) = x.block == block
