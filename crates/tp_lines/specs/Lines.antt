-- Trusted reading: the lines of a script (own).
use Rattle.std.specs.Prelude.{◌≡◌, ℕ, ◌+◌, ◌*◌, ◌-◌, ◌%◌, ◌<◌, ◌≤◌, Bool, true, ◌&&◌, ◌||◌, if◌then◌else◌, List, [], ◌∷◌, ◌++◌, length, nat_le, nat_lt, codes}
use Rattle.std.specs.Fmt.{decimal}
use Rattle.tp_lines.specs.declared.line.ScriptLine.{ScriptLine}
use Rattle.tp_lines.specs.declared.line.ScriptLine.TheVariants.{Nothing, Open, Bytes, Hangup, Message, Status, Thin}

-- 0 to 9, a to f
abbrev pub is_hex_digit : ℕ → Bool
is_hex_digit c = (nat_le 48 c && nat_le c 57) || (nat_le 97 c && nat_le c 102)

abbrev pub are_hex_digits : List ℕ → Bool
are_hex_digits [] = true
are_hex_digits (c ∷ cs) = is_hex_digit c && are_hex_digits cs

-- the bytes of a piece in hexadecimal digits: 1 to 8192 of them
pub record IsHex (digits : List ℕ) : Type 0 where
  pub all : are_hex_digits digits ≡ true
  pub pairs : length digits % 2 ≡ 0
  pub some : 2 ≤ length digits
  pub few : length digits ≤ 16384

-- Sessions are numbered from 0 to 63.
abbrev pub IsLine : ScriptLine → Type 0
IsLine Nothing = Unit {0}
IsLine (Open n) = n < 64
IsLine (Bytes n digits) = (n < 64) × IsHex digits.now
IsLine (Hangup n) = n < 64
IsLine (Message text) = Unit {0}
IsLine Status = Unit {0}
IsLine (Thin id) = id < 16777216

-- how each is written
abbrev pub spelling : ScriptLine → List ℕ
spelling Nothing = []
spelling (Open n) = codes "open " ++ decimal n
spelling (Bytes n digits) = codes "bytes " ++ (decimal n ++ (codes " " ++ digits.now))
spelling (Hangup n) = codes "hangup " ++ decimal n
spelling (Message text) = codes "message " ++ text.now
spelling Status = codes "status"
spelling (Thin id) = codes "thin " ++ decimal id

abbrev pub IsNoLine : List ℕ → Type 0
IsNoLine text = (l : ScriptLine) → IsLine l → text ≡ spelling l → ⊥

-- ---- pieces

abbrev pub hex_value : ℕ → ℕ
hex_value c = if nat_lt c 97 then c - 48 else c - 87

-- the bytes that pairs of digits write
abbrev pub bytes_of : List ℕ → List ℕ
bytes_of [] = []
bytes_of (c ∷ []) = []
bytes_of (c ∷ d ∷ digits) = (16 * hex_value c + hex_value d) ∷ bytes_of digits

abbrev pub hex_digit : ℕ → ℕ
hex_digit n = if nat_lt n 10 then n + 48 else n + 87
