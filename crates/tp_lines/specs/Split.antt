-- Internal: a text as its first word and what stands behind it.
use Rattle.std.specs.Prelude.{◌≡◌, ℕ, List, ◌∷◌, ◌++◌, codes}
use Rattle.std.specs.Fmt.{decimal}
use Rattle.tp_msg.specs.Messages.{behind, first_word}
use Rattle.tp_lines.specs.declared.line.ScriptLine.{ScriptLine}
use Rattle.tp_lines.specs.declared.line.ScriptLine.TheVariants.{Nothing, Open, Bytes, Hangup, Message, Status, Thin}
use Rattle.tp_lines.specs.Lines.{IsLine}

abbrev pub HasNoSpace : List ℕ → Type 0
HasNoSpace text = (word rest : List ℕ) → text ≡ word ++ 32 ∷ rest → ⊥

pub record IsCut (text word rest : List ℕ) : Type 0 where
  pub first : word ≡ first_word text
  pub last : rest ≡ behind text
  pub whole : text ≡ word ++ 32 ∷ rest

-- the word and the rest of each line that has a space
abbrev pub IsSplit : List ℕ → List ℕ → ScriptLine → Type 0
IsSplit word rest Nothing = ⊥
IsSplit word rest (Open n) = (word ≡ codes "open") × (rest ≡ decimal n)
IsSplit word rest (Bytes n digits) = (word ≡ codes "bytes") × (rest ≡ decimal n ++ 32 ∷ digits.now)
IsSplit word rest (Hangup n) = (word ≡ codes "hangup") × (rest ≡ decimal n)
IsSplit word rest (Message text) = (word ≡ codes "message") × (rest ≡ text.now)
IsSplit word rest Status = ⊥
IsSplit word rest (Thin id) = (word ≡ codes "thin") × (rest ≡ decimal id)

abbrev pub IsUnsplit : List ℕ → List ℕ → Type 0
IsUnsplit word rest = (l : ScriptLine) → IsLine l → IsSplit word rest l → ⊥
