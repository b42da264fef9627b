-- Numbers in text: what makes one, and that each number has one text.
use Rattle.std.proofs.Common.{◌≡◌, ℕ, ◌+◌, ◌*◌, ◌-◌, ◌^◌, ◌<◌, ◌≤◌, Bool, true, false, List, [], ◌∷◌, length, take, drop, get_or, refl, sym, ap, ◌∙◌, arith, inl, inr}
use Rattle.std.specs.Prelude.{not, ◌==◌, if◌then◌else◌, Result, Ok, Err, IsOk, IfOk, IfErr, ◌↔◌}
use Rattle.std.specs.Fmt.{decimal}
use Rattle.std.specs.Str.{all_ascii_digits}
use Rattle.std.proofs.lemmas.Bool.{cases_lt, and_parts, and_from, ne_eqb, eq-eqb, lt-ltb, le-ltb, leb-true}
use Rattle.std.proofs.lemmas.List.{take-append-drop, take_more}
use Rattle.std.proofs.lemmas.Fmt.{decimal_nonempty, decimal_digit, first_decimal, digits_decimal, digits_value-decimal, decimal-digits_value}
use Rattle.tp_model.specs.declared.refusal.Refusal.{Refusal}
use Rattle.tp_model.specs.declared.refusal.Refusal.TheVariants.{BadSyntax, BadDeviceId}
use Rattle.tp_model.specs.Digits.{number_after}
use Rattle.tp_model.proofs.Digits.{digits_are, digit_at, number_grows, number_after-append, number_after-more}
use Rattle.tp_msg.specs.Messages.{begins_as_number, is_number, number, device_id, transaction_id}

begins_from : (w : List ℕ) → 0 < length w → (1 < length w → get_or w 0 0 ≡ 48 → ⊥) → begins_as_number w ≡ true
begins_from [] some other = absurd (omega arith)
begins_from (c ∷ []) some other = refl
begins_from (c ∷ d ∷ ds) some other = ap not (ne_eqb c 48 (other (omega arith)))

pub begins_some : (w : List ℕ) → begins_as_number w ≡ true → 0 < length w
begins_some [] h = absurd cc
begins_some (c ∷ cs) h = omega arith

begins_first : (w : List ℕ) → begins_as_number w ≡ true → get_or w 0 0 ≡ 48 → length w ≡ 1
begins_first [] h e = absurd cc
begins_first (c ∷ []) h e = refl
begins_first (c ∷ d ∷ ds) h e = let z : not (c == 48) ≡ false = ap not (eq-eqb c 48 e) in absurd cc

pub number_digits : (w : List ℕ) → is_number w ≡ true → all_ascii_digits w ≡ true
number_digits w h = (and_parts (begins_as_number w) (all_ascii_digits w) h).1

pub number_some : (w : List ℕ) → is_number w ≡ true → 0 < length w
number_some w h = begins_some w (and_parts (begins_as_number w) (all_ascii_digits w) h).0

-- a number below 2^64 is spelled by its text
pub decimal-number : (w : List ℕ) → is_number w ≡ true → number w < 2 ^ 64 → decimal (number w) ≡ w
decimal-number w h lt = decimal-digits_value digits_are w (number_digits w h) (number_some w h) (begins_first w (and_parts (begins_as_number w) (all_ascii_digits w) h).0) lt

pub decimal_digits : (n : ℕ) → n < 2 ^ 64 → all_ascii_digits (decimal n) ≡ true
decimal_digits n lt = digits_decimal digits_are n lt

no_zero_first : (n : ℕ) → n < 2 ^ 64 → 1 < length (decimal n) → get_or (decimal n) 0 0 ≡ 48 → ⊥
no_zero_first n lt long e =
    elim (cases_lt 0 n) [
      | inl pos ↦ let f = first_decimal n pos lt in absurd (omega arith)
      | inr le ↦
          let z : n ≡ 0 = omega arith in
          let l = ap length (ap decimal z ∙ decimal_digit 0 (omega arith)) in
          absurd (omega arith)
    ]

pub decimal_is_number : (n : ℕ) → n < 2 ^ 64 → is_number (decimal n) ≡ true
decimal_is_number n lt =
    let begins : begins_as_number (decimal n) ≡ true = begins_from (decimal n) (decimal_nonempty n lt) (no_zero_first n lt) in
    and_from _ _ begins (decimal_digits n lt)

pub number-decimal : (n : ℕ) → n < 2 ^ 64 → number (decimal n) ≡ n
number-decimal n lt = digits_value-decimal digits_are n lt

-- ---- reading it

pub digit_least : (ds : List ℕ) (i : ℕ) → all_ascii_digits ds ≡ true → i < length ds → 48 ≤ get_or ds i 0
digit_least ds i h lt = leb-true 48 (get_or ds i 0) (and_parts _ _ (digit_at ds i h lt)).0

pub number_more : (ds : List ℕ) (i : ℕ) → i < length ds → number_after 0 (take (i + 1) ds) ≡ 10 * number_after 0 (take i ds) + (get_or ds i 0 - 48)
number_more ds i lt = ap (number_after 0) (take_more ds i 0 lt) ∙ number_after-more 0 (take i ds) (get_or ds i 0)

-- a beginning that writes too much
pub begun_large : (ds : List ℕ) (i : ℕ) → 2 ^ 64 ≤ number_after 0 (take i ds) → 2 ^ 64 ≤ number_after 0 ds
begun_large ds i large =
    let whole : number_after 0 ds ≡ number_after (number_after 0 (take i ds)) (drop i ds) =
    ap (number_after 0) (sym (take-append-drop i ds)) ∙ number_after-append 0 (take i ds) (drop i ds) in
    let grows = number_grows (number_after 0 (take i ds)) (drop i ds) in
    omega arith

pub large_id : (w : List ℕ) → 2 ^ 64 ≤ number w → Err BadDeviceId ≡ device_id w
large_id w le = sym (ap (λ (b : Bool). if b then Ok (number w) else Err BadDeviceId) (le-ltb (number w) 16777216 (omega arith)))

pub checked_id : (w : List ℕ) (n : ℕ) (r : Result ℕ Refusal) → n ≡ number w → IfOk r (λ id. id ≡ n) → (IsOk r ↔ (n < 16777216)) → IfErr r (λ e. e ≡ BadDeviceId) → r ≡ device_id w
checked_id w n (Ok id) is ok limits refused =
    let lt : n < 16777216 = limits.0 refl in
    ap Ok (ok ∙ is) ∙ sym (ap (λ (b : Bool). if b then Ok (number w) else Err BadDeviceId) (lt-ltb (number w) 16777216 (omega arith)))
checked_id w n (Err e) is ok limits refused =
    elim (cases_lt n 16777216) [
      | inl lt ↦ let no = limits.1 lt in absurd cc
      | inr le ↦ ap Err refused ∙ sym (ap (λ (b : Bool). if b then Ok (number w) else Err BadDeviceId) (le-ltb (number w) 16777216 (omega arith)))
    ]

pub large_transaction_id : (w : List ℕ) → 2 ^ 64 ≤ number w → Err BadSyntax ≡ transaction_id w
large_transaction_id w le = sym (ap (λ (b : Bool). if b then Ok (number w) else Err BadSyntax) (le-ltb (number w) (2 ^ 64) le))

pub small_transaction_id : (w : List ℕ) (n : ℕ) → n ≡ number w → n < 2 ^ 64 → Ok n ≡ transaction_id w
small_transaction_id w n is lt = ap Ok is ∙ sym (ap (λ (b : Bool). if b then Ok (number w) else Err BadSyntax) (lt-ltb (number w) (2 ^ 64) (omega arith)))
