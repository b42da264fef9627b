-- Internal: blocks that are held as they were read (own).
use Rattle.std.specs.Prelude.{◌≡◌, ◌≢◌, ◌⊎◌, ℕ, List, Option, Some, nat_eq}
use Rattle.std.specs.Map.{lookup}

abbrev pub Blocks : Type 0
Blocks = List (ℕ × List ℕ)

abbrev pub held_at : ℕ → Blocks → Option (List ℕ)
held_at block es = lookup (nat_eq block) es

-- what the one holds, the other holds
abbrev pub IsPart : Blocks → Blocks → Type 0
IsPart new old = (block : ℕ) (bytes : List ℕ) → held_at block new ≡ Some bytes → held_at block old ≡ Some bytes

-- what the one holds, the other holds, or it is these bytes of that block
abbrev pub IsPartWith : ℕ → List ℕ → Blocks → Blocks → Type 0
IsPartWith one its new old = (block : ℕ) (bytes : List ℕ) → held_at block new ≡ Some bytes → ((block ≡ one) × (bytes ≡ its)) ⊎ ((block ≢ one) × (held_at block old ≡ Some bytes))
