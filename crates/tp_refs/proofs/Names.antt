-- The blocks that a node names, by place.
use Rattle.std.proofs.Common.{◌≡◌, ℕ, zero, suc, ◌+◌, ◌<◌, ◌≤◌, List, [], ◌∷◌, length, get_or, take, drop, refl, ap, arith}
use Rattle.tp_layout.specs.declared.entry.Entry.{Entry}
use Rattle.tp_refs.specs.Store.{values, named_by}
use Rattle.tp_refs.specs.Balance.{one_if_same, occurrences}
use Rattle.tp_refs.proofs.Steps.{one_same}

abbrev pub no_entry : Entry
no_entry = record { key = 0; value = 0; mapped = 0; size = 0 }

pub length-values : (es : List Entry) → length (values es) ≡ length es
length-values [] = refl
length-values (e ∷ es) = ap suc (length-values es)

pub get-values : (es : List Entry) (i : ℕ) → get_or (values es) i 0 ≡ (get_or es i no_entry).value
get-values [] i = refl
get-values (e ∷ es) zero = refl
get-values (e ∷ es) (suc i) = get-values es i

pub length-named_by : (rank : ℕ) (es : List Entry) → length (named_by rank es) ≤ length es
length-named_by zero es = omega arith
length-named_by (suc rank) es = omega (arith, length-values es)

pub get-named_by : (rank : ℕ) (es : List Entry) (i : ℕ) → i < length (named_by rank es) → get_or (named_by rank es) i 0 ≡ (get_or es i no_entry).value
get-named_by zero es i h = absurd (omega arith)
get-named_by (suc rank) es i h = get-values es i

-- an element stands in its list
pub occurrences_here : (xs : List ℕ) (i : ℕ) → i < length xs → 0 < occurrences (get_or xs i 0) xs
occurrences_here [] i h = absurd (omega arith)
occurrences_here (x ∷ xs) zero h = omega (arith, one_same x x refl)
occurrences_here (x ∷ xs) (suc i) h = omega (arith, occurrences_here xs i (omega arith))

-- one more of the front
pub occurrences_front : (b : ℕ) (xs : List ℕ) (i : ℕ) → i < length xs → occurrences b (take (suc i) xs) ≡ one_if_same (get_or xs i 0) b + occurrences b (take i xs)
occurrences_front b [] i h = absurd (omega arith)
occurrences_front b (x ∷ xs) zero h = refl
occurrences_front b (x ∷ xs) (suc i) h = omega (arith, occurrences_front b xs i (omega arith))

-- a front that is the whole
pub take_whole : {A : Type 0} (n : ℕ) (xs : List A) → length xs ≤ n → take n xs ≡ xs
take_whole zero [] h = refl
take_whole (suc n) [] h = refl
take_whole zero (x ∷ xs) h = absurd (omega arith)
take_whole (suc n) (x ∷ xs) h = ap (λ ys. x ∷ ys) (take_whole n xs (omega arith))

-- what is left of a list at its end
pub drop_whole : {A : Type 0} (n : ℕ) (xs : List A) → length xs ≤ n → drop n xs ≡ []
drop_whole zero [] h = refl
drop_whole (suc n) [] h = refl
drop_whole zero (x ∷ xs) h = absurd (omega arith)
drop_whole (suc n) (x ∷ xs) h = drop_whole n xs (omega arith)
