-- Internal: the slots of the program as those of a pool.
use Rattle.std.specs.Prelude.{ℕ, List, map, Bool, false, not, ◌||◌, ◌&&◌, ◌==◌, Option}
use Rattle.std.specs.Option.{option_map_or}
use Rattle.std.specs.List.{list_all}
use Rattle.tp_plain.specs.declared.slots.Slot.{Slot}

abbrev pub triples : List Slot → List (ℕ × ℕ × ℕ)
triples slots = map (λ s. (s.volume, s.block, s.label)) slots

-- no other slot of these has the label
abbrev pub is_alone : List Slot → ℕ → ℕ → Option ℕ → Bool
is_alone slots id block label = option_map_or (λ l. list_all (λ s. not (s.label == l) || (s.volume == id && s.block == block)) slots) label false
