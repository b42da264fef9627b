-- Slots that are added one after another, as many as there is room for.
use Rattle.std.proofs.Common.{◌≡◌, ℕ, zero, suc, ◌+◌, ◌<◌, ◌≤◌, List, [], ◌∷◌, ◌++◌, length, get_or, take, refl, sym, ap, ◌∙◌, arith, inl, inr}
use Rattle.std.proofs.lemmas.Bool.{cases_lt}
use Rattle.tp_sharing.specs.Volumes.{BlockSlot}
use Rattle.tp_mapping.specs.Mapping.{from_block}
use Rattle.tp_mapping.proofs.Filling.{nothing_added, one_added, from_yes, from_no}

from_append : (q : ℕ) (xs ys : List BlockSlot) → from_block q (xs ++ ys) ≡ from_block q xs ++ from_block q ys
from_append q [] ys = refl
from_append q (x ∷ xs) ys =
    elim (cases_lt x.block q) [
      | inl l ↦ from_no q x (xs ++ ys) l ∙ (from_append q xs ys ∙ ap (λ l. l ++ from_block q ys) (sym (from_no q x xs l)))
      | inr g ↦ from_yes q x (xs ++ ys) g ∙ (ap (λ l. x ∷ l) (from_append q xs ys) ∙ ap (λ l. l ++ from_block q ys) (sym (from_yes q x xs g)))
    ]

take_next : (d : BlockSlot) (xs : List BlockSlot) (i : ℕ) → i < length xs → take (suc i) xs ≡ take i xs ++ get_or xs i d ∷ []
take_next d [] i h = absurd (omega (arith, h))
take_next d (x ∷ xs) zero h = refl
take_next d (x ∷ xs) (suc i) h = ap (λ l. x ∷ l) (take_next d xs i (omega (arith, h)))

pub next_one : (q i : ℕ) (xs : List BlockSlot) (x : BlockSlot) → i < length xs → x ≡ get_or xs i x → from_block q (take (i + 1) xs) ≡ from_block q (take i xs) ++ from_block q (x ∷ [])
next_one q i xs x w at =
    let k : i + 1 ≡ suc i = omega arith in
    ap (λ n. from_block q (take n xs)) k ∙ (ap (from_block q) (take_next x xs i w) ∙ (from_append q (take i xs) (get_or xs i x ∷ []) ∙ ap (λ y. from_block q (take i xs) ++ from_block q (y ∷ [])) (sym at)))

pub skipped : (n q : ℕ) (old : List BlockSlot) (x : BlockSlot) → length old ≤ n → x.block < q → old ≡ take n (old ++ from_block q (x ∷ []))
skipped n q old x h l = nothing_added n old h ∙ ap (λ l. take n (old ++ l)) (sym (from_no q x [] l))

pub pushed : (n q : ℕ) (old new : List BlockSlot) (x : BlockSlot) → length old < n → q ≤ x.block → new ≡ old ++ (x ∷ []) → new ≡ take n (old ++ from_block q (x ∷ []))
pushed n q old new x h g p = p ∙ (one_added n old x h ∙ ap (λ l. take n (old ++ l)) (sym (from_yes q x [] g)))
