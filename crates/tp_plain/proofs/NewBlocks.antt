-- The blocks that a request of the program gives a new data block are those of the call that it is.
use Rattle.std.proofs.Common.{add-zero, ◌+◌, ◌≡◌, ℕ, ◌*◌, ◌/◌, ◌<◌, Bool, true, false, cond, not, ◌&&◌, List, length, Option, None, refl, sym, ap, subst, ◌∙◌, is_some}
use Rattle.std.specs.Prelude.{slice_index_or, if◌then◌else◌}
use Rattle.std.specs.List.{count_by, range_with_len}
use Rattle.std.proofs.lemmas.Nat.{div-mul-add}
use Rattle.tp_model.specs.Pool.{PlainPool, all_slots, slot_at, volume_sectors, is_exclusive}
use Rattle.tp_model.specs.Calls.{Call, SlotEffect, Keeps, Owns, Loses, is_owning, effect_at, need, touches, covers}
use Rattle.tp_model.specs.Calls as calls
use Rattle.tp_model.proofs.Counting.{count_agree, count_more}
use Rattle.tp_plain.specs.declared.room.Change.{Change}
use Rattle.tp_plain.specs.declared.room.Change.TheVariants.{Write, Trim, WriteZeroes}
use Rattle.tp_plain.specs.declared.slots.Slot.{Slot}
use Rattle.tp_plain.specs.Room.{IsCall, takes_slot}
use Rattle.tp_plain.specs.Slots.{triples, is_alone}
use Rattle.tp_plain.proofs.Sharing.{is_alone-exclusive}

-- one block more, which passes or does not
pub one_block_more : (test : ℕ → Bool) (i count new : ℕ) (passes : Bool) → count ≡ count_by test (range_with_len 0 i) → passes ≡ test i → new ≡ count + cond passes 1 0 → new ≡ count_by test (range_with_len 0 (i + 1))
one_block_more test i count new passes so_far is e = e ∙ (λ t. so_far t + cond (is t) 1 0) ∙ sym (count_more test i)

owning_if : (b : Bool) → b ≡ is_owning (if b then Owns else Keeps)
owning_if true = refl
owning_if false = refl

zeroes_with_hole : (touched mapped covered : Bool) → (touched && (mapped && not covered)) ≡ is_owning (if covered then Loses else (if touched && mapped then Owns else Keeps))
zeroes_with_hole true true true = refl
zeroes_with_hole true true false = refl
zeroes_with_hole true false true = refl
zeroes_with_hole true false false = refl
zeroes_with_hole false mapped true = refl
zeroes_with_hole false mapped false = refl

-- the same test, with the hole's flag computed
takes_slot-owning : (p : PlainPool) (id : ℕ) (change : Change) (call : Call) (b : ℕ) → IsCall id change call → takes_slot change p.geometry.block_sectors b (is_some (slot_at p id b)) ≡ is_owning (effect_at p call id b)
takes_slot-owning p id (Write sector count) call b h =
    subst (λ (c : Call). touches p.geometry sector count b ≡ is_owning (effect_at p c id b)) (sym h.3)
    (subst (λ (n : ℕ). touches p.geometry sector n b ≡ is_owning (effect_at p (calls.Write id sector h.0 h.1) id b)) h.2 (owning_if (touches p.geometry sector (length h.0) b)))
takes_slot-owning p id (Trim sector count) call b h =
    subst (λ (c : Call). false ≡ is_owning (effect_at p c id b)) (sym h.1) (trimmed (covers p.geometry sector count b))
  where
    trimmed : (t : Bool) → false ≡ is_owning (if t then Loses else Keeps)
    trimmed true = refl
    trimmed false = refl
takes_slot-owning p id (WriteZeroes sector count true) call b h =
    subst (λ (c : Call). (touches p.geometry sector count b && true) ≡ is_owning (effect_at p c id b)) (sym h.1) (plain (touches p.geometry sector count b))
  where
    plain : (t : Bool) → (t && true) ≡ is_owning (if t then Owns else Keeps)
    plain true = refl
    plain false = refl
takes_slot-owning p id (WriteZeroes sector count false) call b h =
    subst (λ (c : Call). (touches p.geometry sector count b && (is_some (slot_at p id b) && not (covers p.geometry sector count b))) ≡ is_owning (effect_at p c id b)) (sym h.1)
    (zeroes_with_hole (touches p.geometry sector count b) (is_some (slot_at p id b)) (covers p.geometry sector count b))

module _ (p : PlainPool) (id : ℕ) (change : Change) (call : Call) (slots : List Slot) (labels : List (Option ℕ)) (is : IsCall id change call) (all : all_slots p ≡ triples slots)
    (at : (b : ℕ) → b < length labels → slot_at p id b ≡ slice_index_or labels b None) where
  same_test : (b : ℕ) → b < length labels
      → (takes_slot change p.geometry.block_sectors b (is_some (slice_index_or labels b None)) && not (is_alone slots id b (slice_index_or labels b None)))
      ≡ (is_owning (effect_at p call id b) && not (is_exclusive p id b))
  same_test b lt =
      (λ i. takes_slot change p.geometry.block_sectors b (is_some (sym (at b lt) i)) && not (is_alone-exclusive p slots id b (slice_index_or labels b None) all (at b lt) i))
      ∙ ap (λ t. t && not (is_exclusive p id b)) (takes_slot-owning p id change call b is)

  same_count : 0 < p.geometry.block_sectors → length (volume_sectors p id) ≡ length labels * p.geometry.block_sectors
      → count_by (λ b. takes_slot change p.geometry.block_sectors b (is_some (slice_index_or labels b None)) && not (is_alone slots id b (slice_index_or labels b None))) (range_with_len 0 (length labels))
      ≡ need p call id
  same_count some size =
      let blocks : length labels ≡ length (volume_sectors p id) / p.geometry.block_sectors = sym (ap (λ n. n / p.geometry.block_sectors) (size ∙ sym (add-zero _)) ∙ div-mul-add (length labels) p.geometry.block_sectors 0 some) in
      count_agree _ _ (length labels) same_test ∙ ap (λ n. count_by (λ b. is_owning (effect_at p call id b) && not (is_exclusive p id b)) (range_with_len 0 n)) blocks

  -- what the program counts, in blocks of n sectors
  pub count-need : (n : ℕ) → p.geometry.block_sectors ≡ n → 0 < n → length (volume_sectors p id) ≡ length labels * n
      → count_by (λ b. takes_slot change n b (is_some (slice_index_or labels b None)) && not (is_alone slots id b (slice_index_or labels b None))) (range_with_len 0 (length labels)) ≡ need p call id
  count-need n e some size =
      let P : ℕ → Type 0 = λ m. count_by (λ b. takes_slot change m b (is_some (slice_index_or labels b None)) && not (is_alone slots id b (slice_index_or labels b None))) (range_with_len 0 (length labels)) ≡ need p call id in
      subst P e (same_count (subst (λ (m : ℕ). 0 < m) (sym e) some) (subst (λ (m : ℕ). length (volume_sectors p id) ≡ length labels * m) (sym e) size))
