-- Internal: which number a group has, by the text of `/etc/group` as group(5) describes it (own).
use Rattle.std.specs.Prelude.{◌≡◌, ◌⊎◌, ◌<◌, ◌==◌, ℕ, List, [], ◌∷◌, Option, None, Some, ⊤}
use Rattle.std.specs.List.{slice_split}
use Rattle.std.specs.Str.Parse.{IsNumeral, digits_value, without_leading_plus}

-- the lines of a text, which a byte 10 parts, and the fields of a line, which a byte 58 parts
abbrev pub lines_of : List ℕ → List (List ℕ)
lines_of text = slice_split (λ b. b == 10) text

abbrev pub fields_of : List ℕ → List (List ℕ)
fields_of line = slice_split (λ b. b == 58) line

-- the bytes are the decimal number n of a group; 2^32 - 1 is that of none
abbrev pub IsGroupNumber : List ℕ → ℕ → Type 0
IsGroupNumber bytes n =
    let digits = without_leading_plus bytes in
    IsNumeral 10 digits × (n ≡ digits_value 10 digits) × (n < 4294967295)

-- a line of these fields gives the group the number n: its name, a password, and n
abbrev pub Gives : List ℕ → List (List ℕ) → ℕ → Type 0
Gives group [] n = ⊥
Gives group (name ∷ []) n = ⊥
Gives group (name ∷ password ∷ []) n = ⊥
Gives group (name ∷ password ∷ number ∷ members) n = (name ≡ group) × IsGroupNumber number n

-- the number of the group is that of the first line that gives it one
abbrev pub IsGroupOf : List ℕ → List (List ℕ) → Option ℕ → Type 0
IsGroupOf group [] None = ⊤
IsGroupOf group [] (Some n) = ⊥
IsGroupOf group (line ∷ lines) result =
    (((n : ℕ) → Gives group (fields_of line) n → ⊥) × IsGroupOf group lines result)
    ⊎ ((n : ℕ) × Gives group (fields_of line) n × (result ≡ Some n))
