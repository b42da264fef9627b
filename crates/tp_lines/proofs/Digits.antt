-- Hexadecimal digits, and the bytes that they write.
use Rattle.std.proofs.Common.{◌≡◌, ℕ, zero, suc, ◌+◌, ◌*◌, ◌<◌, Bool, true, false, List, [], ◌∷◌, ◌++◌, length, take, drop, get_or, set, sym, ap, ◌∙◌, arith, append_assoc}
use Rattle.std.specs.Prelude.{◌&&◌}
use Rattle.std.proofs.lemmas.Bool.{and_parts}
use Rattle.std.proofs.lemmas.List.{drop_more, take_more_set}
use Rattle.tp_lines.specs.Lines.{are_hex_digits, bytes_of, hex_value, is_hex_digit}

-- a digit more
pub digits_more : (digits : List ℕ) (i : ℕ) → i < length digits → is_hex_digit (get_or digits i 0) ≡ true → are_hex_digits (drop i digits) ≡ are_hex_digits (drop (i + 1) digits)
digits_more digits i lt here = ap are_hex_digits (drop_more digits i 0 lt) ∙ ap (λ (b : Bool). b && are_hex_digits (drop (i + 1) digits)) here

pub digits_less : (digits : List ℕ) (i : ℕ) → i < length digits → is_hex_digit (get_or digits i 0) ≡ false → are_hex_digits (drop i digits) ≡ false
digits_less digits i lt no_digit = ap are_hex_digits (drop_more digits i 0 lt) ∙ ap (λ (b : Bool). b && are_hex_digits (drop (i + 1) digits)) no_digit

-- each of the digits is one
pub hex_at : (digits : List ℕ) (i : ℕ) → are_hex_digits digits ≡ true → i < length digits → is_hex_digit (get_or digits i 0) ≡ true
hex_at [] i h lt = absurd (omega arith)
hex_at (d ∷ ds) zero h lt = (and_parts _ _ h).0
hex_at (d ∷ ds) (suc i) h lt = hex_at ds i (and_parts _ _ h).1 (omega arith)

-- two digits more are a byte more
pub bytes_more : (digits : List ℕ) (i : ℕ) → 2 * i + 1 < length digits
    → bytes_of (drop (2 * i) digits) ≡ (16 * hex_value (get_or digits (2 * i) 0) + hex_value (get_or digits (2 * i + 1) 0)) ∷ bytes_of (drop (2 * (i + 1)) digits)
bytes_more digits i lt =
    let one : drop (2 * i) digits ≡ get_or digits (2 * i) 0 ∷ drop (2 * i + 1) digits = drop_more digits (2 * i) 0 (omega arith) in
    let two : drop (2 * i + 1) digits ≡ get_or digits (2 * i + 1) 0 ∷ drop (2 * i + 1 + 1) digits = drop_more digits (2 * i + 1) 0 lt in
    let place : 2 * i + 1 + 1 ≡ 2 * (i + 1) = omega arith in
    ap bytes_of (one ∙ ap (λ (l : List ℕ). get_or digits (2 * i) 0 ∷ l) (two ∙ ap (λ (k : ℕ). get_or digits (2 * i + 1) 0 ∷ drop k digits) place))

-- a byte more was put
pub put_byte : (out digits all : List ℕ) (i v : ℕ) → i < length out → 2 * i + 1 < length digits → v ≡ 16 * hex_value (get_or digits (2 * i) 0) + hex_value (get_or digits (2 * i + 1) 0)
    → take i out ++ bytes_of (drop (2 * i) digits) ≡ all → take (i + 1) (set out i v) ++ bytes_of (drop (2 * (i + 1)) digits) ≡ all
put_byte out digits all i v room lt is before =
    let rest : List ℕ = bytes_of (drop (2 * (i + 1)) digits) in
    ap (λ (l : List ℕ). l ++ rest) (take_more_set out i v room) ∙ (append_assoc (take i out) (v ∷ []) rest
    ∙ (ap (λ (n : ℕ). take i out ++ (n ∷ rest)) is ∙ (ap (λ (l : List ℕ). take i out ++ l) (sym (bytes_more digits i lt)) ∙ before)))
