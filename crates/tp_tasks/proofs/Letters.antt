-- A size ends with the letter that its last byte is.
use Rattle.std.proofs.Common.{◌≡◌, ◌∙◌, ◌+◌, ◌-◌, ◌<◌, ◌≤◌, ◌⊎◌, ℕ, Bool, None, false, [], ◌∷◌, ◌++◌, length, take, sym, ap, arith, inl, inr}
use Rattle.std.proofs.lemmas.Bool.{cases_lt, ne_eqb}
use Rattle.std.proofs.lemmas.List.{take_more}
use Rattle.std.proofs.Math.Seq.{take-length}
use Rattle.std.proofs.lemmas.Str.Pattern.{strip_suffix_char}
use Rattle.std.specs.Prelude.{◌==◌, ◌||◌, ◌^◌, if◌then◌else◌}
use Rattle.std.specs.Str.Pattern.{FindsCharSuffix}
use Rattle.clap.specs.Words.{Text}
use Rattle.tp_tasks.specs.CommandLine.{digits_of, last_byte, unit_of}

apart : (letter k : ℕ) → 128 ≤ letter → k < 128 → letter ≡ k → ⊥
apart letter k high low e = absurd (omega (arith, high, low, e))

-- by what the ten tests of a letter tell
abbrev unit_at : Bool → Bool → Bool → Bool → Bool → Bool → Bool → Bool → Bool → Bool → ℕ
unit_at a b c d e f g h k l = if a || b then 2 ^ 10 else if c || d then 2 ^ 20 else if e || f then 2 ^ 30 else if g || h then 2 ^ 40 else if k || l then 2 ^ 50 else 1

all_fail : (a b c d e f g h k l : Bool) → a ≡ false → b ≡ false → c ≡ false → d ≡ false → e ≡ false → f ≡ false → g ≡ false → h ≡ false → k ≡ false → l ≡ false
    → unit_at a b c d e f g h k l ≡ 1
all_fail a b c d e f g h k l a' b' c' d' e' f' g' h' k' l' = λ i. unit_at (a' i) (b' i) (c' i) (d' i) (e' i) (f' i) (g' i) (h' i) (k' i) (l' i)

-- no byte of a longer character is such a letter
pub high_unit : (letter : ℕ) → 128 ≤ letter → unit_of letter ≡ 1
high_unit letter high = all_fail (letter == 75) (letter == 107) (letter == 77) (letter == 109) (letter == 71) (letter == 103) (letter == 84) (letter == 116) (letter == 80) (letter == 112)
    (fails 75 (omega arith)) (fails 107 (omega arith)) (fails 77 (omega arith)) (fails 109 (omega arith)) (fails 71 (omega arith)) (fails 103 (omega arith)) (fails 84 (omega arith)) (fails 116 (omega arith)) (fails 80 (omega arith)) (fails 112 (omega arith))
  where
    fails : (k : ℕ) → k < 128 → (letter == k) ≡ false
    fails k low = ne_eqb letter k (apart letter k high low)

-- a text that has a last byte is all before it, and that byte
pub ends_with_last : (text : Text) → 0 < length text → text ≡ take (length text - 1) text ++ (last_byte text ∷ [])
ends_with_last text some =
    let whole : length text - 1 + 1 ≡ length text = omega (arith, some) in
    sym (take-length text) ∙ (ap (λ (n : ℕ). take n text) (sym whole) ∙ take_more text (length text - 1) 0 (omega (arith, some)))

-- where that byte cannot be stripped as a character, it is no such letter
pub no_letter : (text : Text) (letter : ℕ) → letter ≡ last_byte text → FindsCharSuffix letter text None → unit_of letter ≡ 1
no_letter [] letter is none = ap unit_of is
no_letter (byte ∷ rest) letter is none = by_height (cases_lt letter 128)
  where
    by_height : (letter < 128) ⊎ (128 ≤ letter) → unit_of letter ≡ 1
    by_height (inl low) =
        let text : Text = byte ∷ rest in
        absurd (strip_suffix_char letter (byte ∷ rest) None none low (take (length text - 1) text)
        (ends_with_last (byte ∷ rest) (omega arith) ∙ ap (λ (b : ℕ). take (length text - 1) text ++ (b ∷ [])) (sym is)))
    by_height (inr high) = high_unit letter high

-- and the text is all digits
pub all_digits : (text : Text) (letter : ℕ) → letter ≡ last_byte text → FindsCharSuffix letter text None → text ≡ digits_of text
all_digits text letter is none =
    let unit : unit_of (last_byte text) ≡ 1 = ap unit_of (sym is) ∙ no_letter text letter is none in
    ap (λ (u : ℕ). if u == 1 then text else take (length text - 1) text) (sym unit)
