-- A size is one number of bytes alone: what its text reads as, over a power of ten.
use Rattle.std.proofs.Common.{zero, suc, ◌≡◌, ◌≢◌, ◌∙◌, ◌+◌, ◌*◌, ◌/◌, ◌%◌, ◌-◌, ◌^◌, ◌<◌, ◌≤◌, ℕ, Bool, Option, Some, None, true, false, ◌++◌, length, take, drop, sym, subst, ap, arith, inl, inr, refl}
use Rattle.std.specs.Prelude.{MatchOption, ◌==◌, codes}
use Rattle.std.specs.List.{after_first, before_first}
use Rattle.std.proofs.Math.Nat.{div-mul-le_self, mod-eq-sub-div-mul, mul-div_cancel, mul-mod_left}
use Rattle.std.proofs.lemmas.List.{take-append-drop}
use Rattle.std.proofs.lemmas.Slice.Eq.{bytes_eq-Decides}
use Rattle.std.specs.Str.Pattern.{FindsTextSuffix}
use Rattle.clap.specs.Words.{Text}
use Rattle.tp_tasks.specs.CommandLine.{AreParts, HasPoint, IsDecimal, IsNumber, IsSize, digits_of, is_binary, last_byte, unit_of, without_binary}

-- what is no multiple of the power is no number of units
pub not_whole : (n power total : ℕ) → n * power ≡ total → total % power ≢ 0 → ⊥
not_whole n power total is not = not (ap (λ (t : ℕ). t % power) (sym is) ∙ mul-mod_left n power)

pub quotient : (n power total : ℕ) → 0 < power → n * power ≡ total → n ≡ total / power
quotient n power total some is = sym (mul-div_cancel n {n = power} some) ∙ ap (λ (t : ℕ). t / power) is

rest_of : (n x r : ℕ) → r ≡ n - x → x ≤ n → r ≡ 0 → x ≡ n
rest_of n x r is le none = omega arith

pub whole_units : (power total : ℕ) → total % power ≡ 0 → total / power * power ≡ total
whole_units power total none = rest_of total (total / power * power) (total % power) (mod-eq-sub-div-mul total power) (div-mul-le_self total power) none

-- a text does not end so
pub not_binary : (text : Text) → FindsTextSuffix (codes "iB") text None → is_binary text ≡ false
not_binary text none = by_test (is_binary text) refl
  where
    by_test : (b : Bool) → is_binary text ≡ b → is_binary text ≡ false
    by_test false e = e
    by_test true e =
        let same : drop (length text - 2) text ≡ codes "iB" = (bytes_eq-Decides (drop (length text - 2) text) (codes "iB")).0 e in
        absurd (none (take (length text - 2) text) (sym (take-append-drop (length text - 2) text) ∙ ap (λ (t : Text). take (length text - 2) text ++ t) same))

same_number : (text : Text) (n m : ℕ) → IsNumber text n → IsNumber text m → n ≡ m
same_number text n m a b = a.1 ∙ sym b.1

same_parts : (whole fraction : Text) (count power other more : ℕ) → AreParts whole fraction count power → AreParts whole fraction other more → (count ≡ other) × (power ≡ more)
same_parts whole fraction count power other more (x, low, pow, n, part, wn, fp, is, lt) (x', low', pow', n', part', wn', fp', is', lt') =
    let e : n ≡ n' = same_number whole n n' wn wn' in
    let f : part ≡ part' = same_number fraction part part' fp fp' in
    let p : power ≡ more = pow ∙ sym pow' in
    (is ∙ ((λ i. e i * p i + f i) ∙ sym is'), p)

pub same_decimal : (text : Text) (count power other more : ℕ) → IsDecimal text count power → IsDecimal text other more → (count ≡ other) × (power ≡ more)
same_decimal text count power other more (inl a) (inl b) = (same_number text count other a.1 b.1, a.2 ∙ sym b.2)
same_decimal text count power other more (inl a) (inr b) = absurd (a.0 b.0)
same_decimal text count power other more (inr a) (inl b) = absurd (b.0 a.0)
same_decimal text count power other more (inr a) (inr b) = same_parts (before_first (λ b. b == 46) text) (after_first (λ b. b == 46) text) count power other more a.1 b.1

some_tens : (k : ℕ) → 0 < 10 ^ k
some_tens zero = omega arith
some_tens (suc k) = let low = some_tens k in omega (arith, low)

pub some_power : (text : Text) (count power : ℕ) → IsDecimal text count power → 0 < power
some_power text count power (inl a) = omega (arith, a.2)
some_power text count power (inr (point, (x, low, pow, n, part, wn, fp, is, lt))) = subst (λ (p : ℕ). 0 < p) (sym pow) (some_tens (length (after_first (λ b. b == 46) text)))

-- what is in front of the point and behind it
pub parted : (text whole fraction : Text) (r : Option (ℕ × ℕ)) → HasPoint text → whole ≡ before_first (λ b. b == 46) text → fraction ≡ after_first (λ b. b == 46) text
    → MatchOption r ((count power : ℕ) → AreParts whole fraction count power → ⊥) (λ d. AreParts whole fraction d.0 d.1)
    → MatchOption r ((count power : ℕ) → IsDecimal text count power → ⊥) (λ d. IsDecimal text d.0 d.1)
parted text whole fraction None point w f none = λ count power d. no_parts count power d
  where
    no_parts : (count power : ℕ) → IsDecimal text count power → ⊥
    no_parts count power (inl a) = a.0 point
    no_parts count power (inr b) =
        none count power
        (subst (λ (x : Text). AreParts x fraction count power) (sym w) (subst (λ (y : Text). AreParts (before_first (λ b. b == 46) text) y count power) (sym f) b.1))
parted text whole fraction (Some d) point w f parts =
    inr (point, subst (λ (x : Text). AreParts x (after_first (λ b. b == 46) text) d.0 d.1) w (subst (λ (y : Text). AreParts whole y d.0 d.1) f parts))

-- the parts of a size, as the code takes them
pub size_among : (text short digits : Text) (letter unit count power : ℕ) (r : Option ℕ) → short ≡ without_binary text → letter ≡ last_byte short → unit ≡ unit_of letter → digits ≡ digits_of short
    → (is_binary text ≡ true → unit ≢ 1) → IsDecimal digits count power
    → MatchOption r ((n : ℕ) → n * power ≡ count * unit → n < 2 ^ 64 → ⊥) (λ n. (n * power ≡ count * unit) × (n < 2 ^ 64))
    → MatchOption r ((n : ℕ) → IsSize text n → ⊥) (λ n. IsSize text n)
size_among text short digits letter unit count power r s l u d binary decimal found = by_case r found
  where
    unit_is : unit ≡ unit_of (last_byte (without_binary text))
    unit_is = u ∙ ap unit_of (l ∙ ap last_byte s)

    decimal_is : IsDecimal (digits_of (without_binary text)) count power
    decimal_is = subst (λ (t : Text). IsDecimal t count power) (d ∙ ap digits_of s) decimal

    by_case : (o : Option ℕ) → MatchOption o ((n : ℕ) → n * power ≡ count * unit → n < 2 ^ 64 → ⊥) (λ n. (n * power ≡ count * unit) × (n < 2 ^ 64))
        → MatchOption o ((n : ℕ) → IsSize text n → ⊥) (λ n. IsSize text n)
    by_case None none = λ n size.
        let same = same_decimal (digits_of (without_binary text)) count power size.0 size.1 decimal_is size.3 in
        none n ((λ i. n * same.1 i) ∙ (size.4 ∙ (λ i. sym same.0 i * sym unit_is i))) size.5
    by_case (Some n) is =
        (count, power, (λ b e. binary b (unit_is ∙ e)), decimal_is, is.0 ∙ ap (λ (m : ℕ). count * m) unit_is, is.1)

-- a text whose digits are no number is no size
pub no_decimal : (text short digits : Text) → short ≡ without_binary text → digits ≡ digits_of short → ((count power : ℕ) → IsDecimal digits count power → ⊥) → (n : ℕ) → IsSize text n → ⊥
no_decimal text short digits s d not n (count, power, real, number, is, low) =
    not count power (subst (λ (t : Text). IsDecimal t count power) (sym (d ∙ ap digits_of s)) number)
