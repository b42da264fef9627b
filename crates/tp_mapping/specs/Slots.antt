-- Trusted reading: slots in a row, by place (own).
use Rattle.std.specs.Prelude.{ℕ, Bool, false, not, ◌==◌, ◌&&◌, ◌||◌, List, Option, None, Some, [], ◌∷◌}
use Rattle.tp_sharing.specs.Volumes.{BlockSlot, Volumes}

-- whether a slot has this data block
abbrev pub has_place : ℕ → List BlockSlot → Bool
has_place place [] = false
has_place place (x ∷ xs) = (x.place == place) || has_place place xs

-- whether a slot of a device has it
abbrev pub is_used : ℕ → Volumes → Bool
is_used place [] = false
is_used place (d ∷ ds) = has_place place d.slots || is_used place ds

-- whether a slot of another virtual block has it
abbrev pub has_other : ℕ → ℕ → List BlockSlot → Bool
has_other block place [] = false
has_other block place (x ∷ xs) = ((x.place == place) && not (x.block == block)) || has_other block place xs

-- the virtual block of the last slot
abbrev pub last_block : List BlockSlot → Option ℕ
last_block [] = None
last_block (x ∷ []) = Some x.block
last_block (x ∷ y ∷ ys) = last_block (y ∷ ys)
