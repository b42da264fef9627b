-- Slots put in and taken out by place.
use Rattle.std.proofs.Common.{◌≡◌, ◌≢◌, ℕ, zero, suc, ◌<◌, ◌≤◌, List, [], ◌∷◌, length, get_or, set, refl, sym, ap, subst, ◌∙◌, arith, inl, inr}
use Rattle.std.specs.List.{insert, remove}
use Rattle.std.proofs.lemmas.Bool.{cases_lt}
use Rattle.std.proofs.lemmas.Bool.Decides.{nat_tests}
use Rattle.tp_sharing.specs.Volumes.{BlockSlot, with_place, without_place}
use Rattle.tp_sharing.proofs.Changes.{with_place_first, with_place_here, with_place_later, without_place_here, without_place_later}
use Rattle.tp_list_mapping.specs.Slots.{rank_in}

rank_yes : (block : ℕ) (x : BlockSlot) (xs : List BlockSlot) → x.block < block → rank_in block (x ∷ xs) ≡ suc (rank_in block xs)
rank_yes block x xs h = grind (arith, nat_tests)

rank_no : (block : ℕ) (x : BlockSlot) (xs : List BlockSlot) → block ≤ x.block → rank_in block (x ∷ xs) ≡ 0
rank_no block x xs h = grind (arith, nat_tests)

-- the slot of its virtual block is another one
pub set_there : (x d : BlockSlot) (xs : List BlockSlot) (i : ℕ) → i ≡ rank_in x.block xs → i < length xs → (get_or xs i d).block ≡ x.block → set xs i x ≡ with_place x xs
set_there x d [] i e h p = absurd (omega (arith, h))
set_there x d (y ∷ ys) zero e h p = sym (with_place_here x y ys p)
set_there x d (y ∷ ys) (suc i) e h p =
    elim (cases_lt y.block x.block) [
      | inl l ↦ ap (λ zs. y ∷ zs) (set_there x d ys i (omega (arith, e, rank_yes x.block y ys l)) (omega (arith, h)) p) ∙ sym (with_place_later x y ys l)
      | inr g ↦ absurd (omega (arith, e, rank_no x.block y ys (omega (arith, g))))
    ]

-- there is one more slot
pub put_there : (x : BlockSlot) (xs : List BlockSlot) (i : ℕ) → i ≡ rank_in x.block xs → (i < length xs → (d : BlockSlot) → (get_or xs i d).block ≢ x.block) → insert xs i x ≡ with_place x xs
put_there x [] zero e p = refl
put_there x [] (suc i) e p = absurd (omega (arith, e))
put_there x (y ∷ ys) zero e p =
    elim (cases_lt y.block x.block) [
      | inl l ↦ absurd (omega (arith, e, rank_yes x.block y ys l))
      | inr g ↦ sym (with_place_first x y ys (omega (arith, g, p (omega arith) y)))
    ]
put_there x (y ∷ ys) (suc i) e p =
    elim (cases_lt y.block x.block) [
      | inl l ↦ ap (λ zs. y ∷ zs) (put_there x ys i (omega (arith, e, rank_yes x.block y ys l)) (λ h d. p (omega (arith, h)) d)) ∙ sym (with_place_later x y ys l)
      | inr g ↦ absurd (omega (arith, e, rank_no x.block y ys (omega (arith, g))))
    ]

-- the slot at a place is the first of its virtual block
pub take_there : (block : ℕ) (d : BlockSlot) (xs : List BlockSlot) (i : ℕ) → i < length xs → (get_or xs i d).block ≡ block → ((j : ℕ) → j < i → (get_or xs j d).block ≢ block) → remove xs i ≡ without_place block xs
take_there block d [] i h p n = absurd (omega (arith, h))
take_there block d (y ∷ ys) zero h p n = sym (without_place_here block y ys p)
take_there block d (y ∷ ys) (suc i) h p n =
    ap (λ zs. y ∷ zs) (take_there block d ys i (omega (arith, h)) p (λ j l. n (suc j) (omega (arith, l))))
    ∙ sym (without_place_later block y ys (n 0 (omega arith)))

-- the same, by what calls say of the row
pub set_found : (x d : BlockSlot) (xs ys zs : List BlockSlot) (a b i : ℕ) → ys ≡ xs → zs ≡ xs → a ≡ x.block → b ≡ x.block → i ≡ rank_in a ys → i < length zs → (get_or zs i d).block ≡ b → set xs i x ≡ with_place x xs
set_found x d xs ys zs a b i s t p q e h f =
    set_there x d xs i (e ∙ (λ k. rank_in (p k) (s k))) (subst (λ l. i < length l) t h) (ap (λ l. (get_or l i d).block) (sym t) ∙ (f ∙ q))

pub put_missing : (x : BlockSlot) (xs ys zs : List BlockSlot) (a b i : ℕ) → ys ≡ xs → zs ≡ xs → a ≡ x.block → b ≡ x.block → i ≡ rank_in a ys → (i < length zs → (d : BlockSlot) → (get_or zs i d).block ≢ b)
    → insert xs i x ≡ with_place x xs
put_missing x xs ys zs a b i s t p q e n =
    put_there x xs i (e ∙ (λ k. rank_in (p k) (s k))) (λ h d f. n (subst (λ l. i < length l) (sym t) h) d (ap (λ l. (get_or l i d).block) t ∙ (f ∙ sym q)))
