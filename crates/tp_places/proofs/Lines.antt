-- Lines and fields are cut one at a time, and what is no text is no number.
use Rattle.std.proofs.Common.{◌≡◌, ◌+◌, ◌<◌, ◌≤◌, ◌⊎◌, ℕ, zero, suc, Bool, true, false, cond, ltb, eqb, List, [], ◌∷◌, Option, Some, None, length, take, drop, MatchOption, sym, subst, inl, inr, arith, IsUtf8, IsAscii, slice_index, lt-ltb, le-ltb, eqb-true}
use Rattle.std.proofs.lemmas.Bool.{cases_lt, cases_Bool}
use Rattle.std.proofs.lemmas.List.Splits.{slice_split_first, slice_split_none}
use Rattle.std.proofs.lemmas.List.Sums.{fails_before_first}
use Rattle.std.proofs.lemmas.Str.{IsUtf8-from_ascii}
use Rattle.std.proofs.lemmas.Str.Parse.{digit_from_value}
use Rattle.std.specs.List.{position_or_len, slice_split}
use Rattle.std.specs.Str.Parse.{AllDigits, IsNumeral, without_leading_plus}
use Rattle.tp_places.specs.Groups.{IsGroupNumber}

-- the parts of a list by the first element that passes, or by none
pub parts_at : (p : ℕ → Bool) (xs : List ℕ) (r : Option ℕ) → r ≡ cond (ltb (position_or_len p xs) (length xs)) (Some (position_or_len p xs)) None
    → MatchOption r (slice_split p xs ≡ xs ∷ []) (λ at. slice_split p xs ≡ take at xs ∷ slice_split p (drop (at + 1) xs))
parts_at p xs r e = subst (λ (o : Option ℕ). MatchOption o (slice_split p xs ≡ xs ∷ []) (λ at. slice_split p xs ≡ take at xs ∷ slice_split p (drop (at + 1) xs))) (sym e) (by_length (cases_lt (position_or_len p xs) (length xs)))
  where
    Parts : Bool → Type 0
    Parts b = MatchOption (cond b (Some (position_or_len p xs)) None) (slice_split p xs ≡ xs ∷ []) (λ at. slice_split p xs ≡ take at xs ∷ slice_split p (drop (at + 1) xs))

    by_length : (position_or_len p xs < length xs) ⊎ (length xs ≤ position_or_len p xs) → Parts (ltb (position_or_len p xs) (length xs))
    by_length (inl low) = subst Parts (sym (lt-ltb _ _ low)) (slice_split_first p xs 0 low)
    by_length (inr high) = subst Parts (sym (le-ltb _ _ high)) (slice_split_none p xs (λ k d below. fails_before_first p xs k d (omega (arith, below, high))))

-- digits are text
digits_low : (cs : List ℕ) → AllDigits 10 cs → (i : ℕ) → slice_index cs i < 128
digits_low [] all i = omega arith
digits_low (c ∷ cs) all zero = let range = digit_from_value c all.0 in omega (arith, range.1)
digits_low (c ∷ cs) all (suc i) = digits_low cs all.1 i

numeral_low : (bs : List ℕ) → IsNumeral 10 (without_leading_plus bs) → IsAscii bs
numeral_low [] is = absurd (omega (arith, is.0))
numeral_low (c ∷ cs) is = by_plus (cases_Bool (eqb c 43))
  where
    with_plus : c ≡ 43 → IsNumeral 10 cs → (i : ℕ) → slice_index (c ∷ cs) i < 128
    with_plus e is zero = omega (arith, e)
    with_plus e is (suc i) = digits_low cs is.1 i

    by_plus : (eqb c 43 ≡ true) ⊎ (eqb c 43 ≡ false) → (i : ℕ) → slice_index (c ∷ cs) i < 128
    by_plus (inl plus) = with_plus (eqb-true c 43 plus) (subst (λ (b : Bool). IsNumeral 10 (drop (cond b 1 0) (c ∷ cs))) plus is)
    by_plus (inr none) = digits_low (c ∷ cs) (subst (λ (b : Bool). IsNumeral 10 (drop (cond b 1 0) (c ∷ cs))) none is).1

-- what is no text is no number
pub no_text : (bs : List ℕ) → (IsUtf8 bs → ⊥) → (n : ℕ) → IsGroupNumber bs n → ⊥
no_text bs bad n is = bad (IsUtf8-from_ascii bs (numeral_low bs is.0))
