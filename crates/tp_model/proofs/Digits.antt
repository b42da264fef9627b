-- Texts of decimal digits, and the numbers that they write.
use Rattle.std.proofs.Common.{◌≡◌, ℕ, zero, suc, ◌+◌, ◌*◌, ◌-◌, ◌^◌, ◌<◌, ◌≤◌, true, false, List, [], ◌∷◌, ◌++◌, length, get_or, refl, arith, rules}
use Rattle.std.specs.Char.{is_ascii_digit}
use Rattle.std.specs.Str.{all_ascii_digits}
use Rattle.std.proofs.lemmas.Bool.{and_from, and_left, and_parts, and_right}
use Rattle.std.proofs.lemmas.Str.Parse.{IsNumeralModel, numerals_by_fold, digits_value_short}
use Rattle.tp_model.specs.Digits.{number_after}

pub digits_are : IsNumeralModel (λ ds. all_ascii_digits ds ≡ true) (number_after 0)
digits_are = numerals_by_fold _ (search rules) number_after (search rules)

pub number_after-more : (n : ℕ) (ds : List ℕ) (c : ℕ) → number_after n (ds ++ c ∷ []) ≡ 10 * number_after n ds + (c - 48)
number_after-more n [] c = refl
number_after-more n (d ∷ ds) c = number_after-more (10 * n + (d - 48)) ds c

pub digits-more : (ds : List ℕ) (c : ℕ) → all_ascii_digits ds ≡ true → is_ascii_digit c ≡ true → all_ascii_digits (ds ++ c ∷ []) ≡ true
digits-more [] c h e = and_from _ _ e refl
digits-more (d ∷ ds) c h e = and_from _ _ (and_parts _ _ h).0 (digits-more ds c (and_parts _ _ h).1 e)

-- each of the digits is one
pub digit_at : (ds : List ℕ) (i : ℕ) → all_ascii_digits ds ≡ true → i < length ds → is_ascii_digit (get_or ds i 0) ≡ true
digit_at [] i h lt = absurd (omega arith)
digit_at (d ∷ ds) zero h lt = (and_parts _ _ h).0
digit_at (d ∷ ds) (suc i) h lt = digit_at ds i (and_parts _ _ h).1 (omega arith)

-- a text with another byte is none of digits
pub not_digits : (ds : List ℕ) (i : ℕ) → i < length ds → is_ascii_digit (get_or ds i 0) ≡ false → all_ascii_digits ds ≡ false
not_digits [] i lt e = absurd (omega arith)
not_digits (d ∷ ds) zero lt e = and_left _ _ e
not_digits (d ∷ ds) (suc i) lt e = and_right _ _ (not_digits ds i (omega arith) e)

pub number_small : (ds : List ℕ) (k : ℕ) → all_ascii_digits ds ≡ true → length ds ≤ k → number_after 0 ds < 10 ^ k
number_small ds k h le = digits_value_short digits_are ds k h le

-- further digits make no number smaller
pub number_grows : (n : ℕ) (ds : List ℕ) → n ≤ number_after n ds
number_grows n [] = omega arith
number_grows n (d ∷ ds) = let rest = number_grows (10 * n + (d - 48)) ds in omega arith

pub number_after-append : (n : ℕ) (ds es : List ℕ) → number_after n (ds ++ es) ≡ number_after (number_after n ds) es
number_after-append n [] es = refl
number_after-append n (d ∷ ds) es = number_after-append (10 * n + (d - 48)) ds es
