-- How many data blocks are free.
use Rattle.std.proofs.Common.{◌≡◌, ℕ, zero, suc, ◌+◌, ◌<◌, ◌||◌, cond, not, Bool, true, false, List, refl, sym, ap, ◌∙◌, arith}
use Rattle.std.specs.Prelude.{slice_index_or}
use Rattle.std.specs.List.{count_by, range_with_len}
use Rattle.std.proofs.lemmas.Bool.{false≢true}
use Rattle.tp_model.proofs.Counting.{count_more, counts_agree}
use Rattle.tp_sharing.specs.Volumes.{Volumes}
use Rattle.tp_mapping.specs.Mapping.{free_places}
use Rattle.tp_mapping.specs.Slots.{is_used}
use Rattle.tp_list_mapping.specs.List.{free_below, is_taken, volumes}
use Rattle.tp_list_mapping.specs.Standing.{StandsFor}
use Rattle.tp_list_mapping.specs.declared.list.ListMapping.{ListMapping}
use Rattle.tp_mapping.proofs.Uses.{slot_from_used, used_from_slot}

one_if_free : (b : Bool) → ◌≡◌ {A = ℕ} (cond b 0 1) (cond (not b) 1 0)
one_if_free true = refl
one_if_free false = refl

below_counts : (n : ℕ) (ds : Volumes) (marks : List Bool) → free_below n ds marks ≡ count_by (λ p. not (is_taken ds marks p)) (range_with_len 0 n)
below_counts zero ds marks = refl
below_counts (suc n) ds marks =
    let k : n + 1 ≡ suc n = omega arith in
    let f : ℕ → Bool = λ p. not (is_taken ds marks p) in
    ap (λ c. c + cond (is_taken ds marks n) 0 1) (below_counts n ds marks)
    ∙ (ap (λ c. count_by f (range_with_len 0 n) + c) (one_if_free (is_taken ds marks n)) ∙ (sym (count_more f n) ∙ ap (λ j. count_by f (range_with_len 0 j)) k))

turned : (a b c : Bool) → a ≡ b → not (a || c) ≡ not (c || b)
turned true true true e = refl
turned true true false e = refl
turned false false true e = refl
turned false false false e = refl
turned true false c e = absurd (false≢true (sym e))
turned false true c e = absurd (false≢true e)

same_bools : (a b : Bool) → (a ≡ false → b ≡ false) → (b ≡ false → a ≡ false) → a ≡ b
same_bools true true f g = refl
same_bools false false f g = refl
same_bools true false f g = sym (absurd (false≢true (sym (g refl))))
same_bools false true f g = absurd (false≢true (sym (f refl)))

not_used : (b : Bool) → (b ≡ true → ⊥) → b ≡ false
not_used true h = absurd (h refl)
not_used false h = refl

-- a data block is marked where a slot had it at the last commit
marks_are : (m : ListMapping) (now kept : Volumes) → StandsFor m now kept → (p : ℕ) → p < m.geometry.data_blocks → slice_index_or m.kept.items p false ≡ is_used p kept
marks_are m now kept s p l =
    same_bools (slice_index_or m.kept.items p false) (is_used p kept)
    (λ e. not_used (is_used p kept) (λ u. let r = slot_from_used p kept s.within.volumes_kept.ascend u in (s.marked p l).0 e r.0 r.1 r.2))
    (λ e. (s.marked p l).1 (λ id block h. false≢true (sym e ∙ used_from_slot id block p kept h)))

pub below_is_free : (m : ListMapping) (now kept : Volumes) → StandsFor m now kept
    → free_below m.geometry.data_blocks (volumes m.devices.items) m.kept.items ≡ free_places m.geometry now kept
below_is_free m now kept s =
    below_counts m.geometry.data_blocks (volumes m.devices.items) m.kept.items
    ∙ counts_agree (λ p. not (is_taken (volumes m.devices.items) m.kept.items p)) (λ p. not (is_used p now || is_used p kept)) m.geometry.data_blocks
    (λ p l. turned (slice_index_or m.kept.items p false) (is_used p kept) (is_used p (volumes m.devices.items)) (marks_are m now kept s p l)
    ∙ ap (λ (ds : Volumes). not (is_used p ds || is_used p kept)) (sym s.listed))
