-- The virtual block of the last slot of a row.
use Rattle.std.proofs.Common.{◌≡◌, ℕ, zero, suc, ◌+◌, List, [], ◌∷◌, length, get_or, refl, arith, Some}
use Rattle.tp_sharing.specs.Volumes.{BlockSlot}
use Rattle.tp_mapping.specs.Slots.{last_block}

pub last_at : (d : BlockSlot) (xs : List BlockSlot) (i : ℕ) → i + 1 ≡ length xs → last_block xs ≡ Some (get_or xs i d).block
last_at d [] i h = absurd (omega (arith, h))
last_at d (x ∷ []) zero h = refl
last_at d (x ∷ []) (suc i) h = absurd (omega (arith, h))
last_at d (x ∷ y ∷ ys) zero h = absurd (omega (arith, h))
last_at d (x ∷ y ∷ ys) (suc i) h = last_at d (y ∷ ys) i (omega (arith, h))
