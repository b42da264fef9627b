-- Trusted reading: the slots of a volume as a walk lists them (own).
use Rattle.std.specs.Prelude.{ℕ, List, map}

-- a virtual block, and the number of its data block
pub record BlockSlot : Type 0 where
  pub block : ℕ
  pub place : ℕ

-- slots as the plain pool has them: each a virtual block, and the label of its data block, which is its number
abbrev pub listed : List BlockSlot → List (ℕ × ℕ)
listed slots = map (λ (x : BlockSlot). (x.block, x.place)) slots
