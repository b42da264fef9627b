-- Whether a slot of the program is exclusive in the pool that has these slots.
use Rattle.std.proofs.Common.{◌≡◌, ℕ, List, Option, Some, None, refl, sym, ap, ◌∙◌, false, not, ◌||◌, ◌&&◌, ◌==◌}
use Rattle.std.specs.Option.{option_map_or}
use Rattle.std.specs.List.{list_all}
use Rattle.std.proofs.lemmas.List.Folds.{list_all-map}
use Rattle.tp_model.specs.Pool.{PlainPool, all_slots, slot_at, is_exclusive}
use Rattle.tp_plain.specs.declared.slots.Slot.{Slot}
use Rattle.tp_plain.specs.Slots.{triples, is_alone}

is_alone-triples : (slots : List Slot) (id block : ℕ) (label : Option ℕ)
    → is_alone slots id block label ≡ option_map_or (λ l. list_all (λ (s : ℕ × ℕ × ℕ). not (s.2 == l) || (s.0 == id && s.1 == block)) (triples slots)) label false
is_alone-triples slots id block None = refl
is_alone-triples slots id block (Some l) = sym (list_all-map (λ (s : ℕ × ℕ × ℕ). not (s.2 == l) || (s.0 == id && s.1 == block)) (λ (s : Slot). (s.volume, s.block, s.label)) slots)

pub is_alone-exclusive : (p : PlainPool) (slots : List Slot) (id block : ℕ) (label : Option ℕ) → all_slots p ≡ triples slots → slot_at p id block ≡ label → is_alone slots id block label ≡ is_exclusive p id block
is_alone-exclusive p slots id block label all at =
    is_alone-triples slots id block label
    ∙ ap (λ (ts : List (ℕ × ℕ × ℕ)). option_map_or (λ l. list_all (λ (s : ℕ × ℕ × ℕ). not (s.2 == l) || (s.0 == id && s.1 == block)) ts) label false) (sym all)
    ∙ ap (λ (o : Option ℕ). option_map_or (λ l. list_all (λ (s : ℕ × ℕ × ℕ). not (s.2 == l) || (s.0 == id && s.1 == block)) (all_slots p)) o false) (sym at)
