-- Trusted reading: what is asked at a start to delete the clones that a server left (own).
use Rattle.std.specs.Prelude.{◌≡◌, ℕ, zero, suc, ◌+◌, Bool, true, false, List, [], ◌∷◌, ◌++◌, codes, if◌then◌else◌}
use Rattle.std.specs.Fmt.{decimal}
use Rattle.tp_hub.specs.declared.answers.Mark.{Mark}
use Rattle.tp_hub.specs.declared.answers.Mark.TheVariants.{Sent, End, Refused, Done, Line}
use Rattle.tp_hub.specs.Told.{Answer, Accepts, Says, Closes, Refuses, Lines}
use Rattle.tp_hub.specs.Runs.{Orders}
use Rattle.tp_hub.specs.Desks.{Exchange}

-- the message that deletes a volume
abbrev pub delete_line : ℕ → List ℕ
delete_line id = codes "delete " ++ decimal id

-- so many ids from this one on are asked to be deleted, one after another, each once
abbrev pub AreDeletes : ℕ → ℕ → List Exchange → Type 0
AreDeletes id zero [] = Unit {0}
AreDeletes id zero (x ∷ xs) = ⊥
AreDeletes id (suc n) [] = ⊥
AreDeletes id (suc n) (x ∷ xs) = (x.took ≡ Orders (delete_line id) ∷ []) × AreDeletes (id + 1) n xs

-- a message was answered that it is done
abbrev pub is_accepted : List Answer → Bool
is_accepted [] = false
is_accepted (Accepts ∷ answers) = true
is_accepted (Says session bytes ∷ answers) = is_accepted answers
is_accepted (Closes session ∷ answers) = is_accepted answers
is_accepted (Refuses reason ∷ answers) = is_accepted answers
is_accepted (Lines bytes ∷ answers) = is_accepted answers

-- the same of a mark
abbrev pub is_done : Mark → Bool
is_done (Sent session len) = false
is_done (End session) = false
is_done (Refused reason) = false
is_done Done = true
is_done (Line len) = false

abbrev pub count_of : List Answer → ℕ
count_of answers = if is_accepted answers then 1 else 0

-- how many were
abbrev pub accepted_in : List Exchange → ℕ
accepted_in [] = 0
accepted_in (x ∷ xs) = count_of x.answers + accepted_in xs
