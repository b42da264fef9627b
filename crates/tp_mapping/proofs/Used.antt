-- How many data blocks the slots have.
use Rattle.std.proofs.Common.{◌≡◌, ℕ, zero, suc, ◌+◌, ◌<◌, ◌==◌, ◌||◌, ◌&&◌, cond, Bool, true, List, [], ◌∷◌, map, refl, sym, ap, ◌∙◌, arith}
use Rattle.std.specs.Prelude.{nat_lt}
use Rattle.std.specs.List.{count_by, list_all, list_any, range_with_len}
use Rattle.std.proofs.lemmas.Bool.{eq-eqb, lt-ltb, or_left, or_right}
use Rattle.std.proofs.lemmas.List.Folds.{list_any-append}
use Rattle.tp_model.proofs.Counting.{count_more, counts_agree, different_counts}
use Rattle.tp_sharing.specs.Volumes.{BlockSlot, Volumes, places, used}
use Rattle.tp_mapping.specs.Mapping.{IsWithin}
use Rattle.tp_model.specs.Geometry.{Geometry}
use Rattle.tp_mapping.specs.Slots.{has_place}
use Rattle.tp_mapping.specs.List.{is_used, used_below}
use Rattle.tp_mapping.proofs.Uses.{slot_from_used}

abbrev has : ℕ → List ℕ → Bool
has p xs = list_any (λ y. y == p) xs

places_have : (p : ℕ) (xs : List BlockSlot) → has_place p xs ≡ has p (map (λ x. x.place) xs)
places_have p [] = refl
places_have p (x ∷ xs) = ap (λ b. (x.place == p) || b) (places_have p xs)

used_has : (p : ℕ) (ds : Volumes) → is_used p ds ≡ has p (places ds)
used_has p [] = refl
used_has p (d ∷ ds) =
    ap (λ b. b || is_used p ds) (places_have p d.slots)
    ∙ (ap (λ b. has p (map (λ x. x.place) d.slots) || b) (used_has p ds) ∙ sym (list_any-append (λ y. y == p) (map (λ x. x.place) d.slots) (places ds)))

pub below_counts : (n : ℕ) (ds : Volumes) → used_below n ds ≡ count_by (λ p. is_used p ds) (range_with_len 0 n)
below_counts zero ds = refl
below_counts (suc n) ds =
    let k : n + 1 ≡ suc n = omega arith in
    ap (λ c. c + cond (is_used n ds) 1 0) (below_counts n ds) ∙ (sym (count_more (λ p. is_used p ds) n) ∙ ap (λ j. count_by (λ p. is_used p ds) (range_with_len 0 j)) k)

all_below : (n : ℕ) (xs : List ℕ) → ((p : ℕ) → has p xs ≡ true → p < n) → list_all (λ x. nat_lt x n) xs ≡ true
all_below n [] h = refl
all_below n (x ∷ xs) h =
    let first : nat_lt x n ≡ true = lt-ltb x n (h x (or_left (x == x) (has x xs) (eq-eqb x x refl))) in
    let rest : list_all (λ x. nat_lt x n) xs ≡ true = all_below n xs (λ p k. h p (or_right (x == p) (has p xs) k)) in
    ap (λ b. b && list_all (λ x. nat_lt x n) xs) first ∙ rest

pub below_is_used : (g : Geometry) (ds : Volumes) → IsWithin g ds → used_below g.data_blocks ds ≡ used ds
below_is_used g ds w =
    below_counts g.data_blocks ds
    ∙ (counts_agree (λ p. is_used p ds) (λ p. has p (places ds)) g.data_blocks (λ p l. used_has p ds)
    ∙ sym (different_counts (places ds) g.data_blocks
    (all_below g.data_blocks (places ds) (λ p h. let r = slot_from_used p ds w.ascend (used_has p ds ∙ h) in (w.slots r.0 r.1 p r.2).1))))
