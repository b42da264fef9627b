-- Slots that are added one after another, as many as there is room for.
use Rattle.std.proofs.Common.{◌≡◌, ℕ, zero, suc, ◌+◌, ◌<◌, ◌≤◌, List, [], ◌∷◌, ◌++◌, length, take, refl, sym, ap, ◌∙◌, arith, append_assoc}
use Rattle.std.proofs.lemmas.Bool.Decides.{nat_tests}
use Rattle.std.proofs.lemmas.Grind.{common_steps}
use Rattle.std.proofs.lemmas.List.{append-nil, take-append-le, take_all}
use Rattle.tp_sharing.specs.Volumes.{BlockSlot}
use Rattle.tp_mapping.specs.Mapping.{IsLonger, from_block}

pub longer_refl : (xs : List BlockSlot) → IsLonger xs xs
longer_refl xs = ([], sym (append-nil xs))

pub longer_trans : (xs ys zs : List BlockSlot) → IsLonger xs ys → IsLonger ys zs → IsLonger xs zs
longer_trans xs ys zs p q = (p.0 ++ q.0, q.1 ∙ (ap (λ l. l ++ q.0) p.1 ∙ append_assoc xs p.0 q.0))

take_on : {A : Type 0} (n : ℕ) (xs ys : List A) → take n (take n xs ++ ys) ≡ take n (xs ++ ys)
take_on zero xs ys = refl
take_on (suc n) [] ys = refl
take_on (suc n) (x ∷ xs) ys = ap (λ l. x ∷ l) (take_on n xs ys)

pub nothing_added : (n : ℕ) (xs : List BlockSlot) → length xs ≤ n → xs ≡ take n (xs ++ [])
nothing_added n xs h = sym (take_all n xs h) ∙ ap (take n) (sym (append-nil xs))

pub one_added : (n : ℕ) (xs : List BlockSlot) (x : BlockSlot) → length xs < n → xs ++ (x ∷ []) ≡ take n (xs ++ (x ∷ []))
one_added n xs x h = sym (take_all n (xs ++ (x ∷ [])) (grind (arith, common_steps)))

pub no_room : (n : ℕ) (xs ys : List BlockSlot) → length xs ≡ n → xs ≡ take n (xs ++ ys)
no_room n xs ys h = sym (take-append-le n xs ys (omega (arith, h)) ∙ take_all n xs (omega (arith, h)))

pub added_on : (n : ℕ) (xs ys old mid new : List BlockSlot) → mid ≡ take n (old ++ xs) → new ≡ take n (mid ++ ys) → new ≡ take n (old ++ (xs ++ ys))
added_on n xs ys old mid new p q = q ∙ (ap (λ l. take n (l ++ ys)) p ∙ (take_on n (old ++ xs) ys ∙ ap (take n) (append_assoc old xs ys)))

pub from_yes : (q : ℕ) (x : BlockSlot) (xs : List BlockSlot) → q ≤ x.block → from_block q (x ∷ xs) ≡ x ∷ from_block q xs
from_yes q x xs h = grind (arith, nat_tests)

pub from_no : (q : ℕ) (x : BlockSlot) (xs : List BlockSlot) → x.block < q → from_block q (x ∷ xs) ≡ from_block q xs
from_no q x xs h = grind (arith, nat_tests)
