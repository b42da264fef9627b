-- Trusted reading: answers in text, a line each (own).
use Rattle.std.specs.Prelude.{ℕ, ◌/◌, ◌%◌, List, [], ◌∷◌, ◌++◌, codes}
use Rattle.std.specs.Fmt.{decimal}
use Rattle.tp_model.specs.Refusals.{refusal_number}
use Rattle.tp_hub.specs.Told.{Answer, Says, Closes, Refuses, Accepts, Lines}
use Rattle.tp_hub.specs.declared.answers.Mark.{Mark}
use Rattle.tp_hub.specs.declared.answers.Mark.TheVariants as marks
use Rattle.tp_lines.specs.Lines.{hex_digit}

-- bytes in hexadecimal digits
abbrev pub hexed : List ℕ → List ℕ
hexed [] = []
hexed (byte ∷ bytes) = hex_digit (byte / 16) ∷ hex_digit (byte % 16) ∷ hexed bytes

abbrev pub newline : List ℕ
newline = 10 ∷ []

-- a line of a word, which has its space, and a number
abbrev pub numbered : List ℕ → ℕ → List ℕ
numbered word n = (word ++ decimal n) ++ newline

abbrev pub text_of : Answer → List ℕ
text_of (Says n bytes) = ((codes "sent " ++ decimal n) ++ codes " ") ++ (hexed bytes ++ newline)
text_of (Closes n) = numbered (codes "end ") n
text_of (Refuses reason) = numbered (codes "refused ") (refusal_number reason)
text_of Accepts = codes "ok" ++ newline
text_of (Lines bytes) = bytes ++ newline

abbrev pub text_in : List Answer → List ℕ
text_in [] = []
text_in (answer ∷ answers) = text_of answer ++ text_in answers

-- the answer of a mark with its bytes
abbrev pub answer_of : Mark → List ℕ → Answer
answer_of (marks.Sent session len) bytes = Says session bytes
answer_of (marks.End session) bytes = Closes session
answer_of (marks.Refused reason) bytes = Refuses reason
answer_of marks.Done bytes = Accepts
answer_of (marks.Line len) bytes = Lines bytes
