-- Trusted reading: answers as a list, from marks and the bytes that stand end to end (own).
use Rattle.std.specs.Prelude.{◌≡◌, ℕ, zero, suc, ◌+◌, ◌≤◌, Bool, true, false, List, [], ◌∷◌, ◌++◌, length, take, drop, ◌<◌, ◌⊎◌}
use Rattle.tp_model.specs.declared.refusal.Refusal.{Refusal}
use Rattle.nbd_session.specs.declared.answer.TheConstants.{MAX_ANSWER}
use Rattle.tp_hub.specs.declared.answers.Mark.{Mark}
use Rattle.tp_hub.specs.declared.answers.Mark.TheVariants.{Sent, End, Refused, Done, Line}

-- one answer of the hub
pub data Answer : Type 0 where
  -- a session is sent these bytes
  Says : (session : ℕ) (bytes : List ℕ) → Answer
  -- a session is over
  Closes : (session : ℕ) → Answer
  -- an event is refused
  Refuses : (reason : Refusal) → Answer
  -- a message is done
  Accepts : Answer
  -- a status line
  Lines : (bytes : List ℕ) → Answer

-- the answers that marks stand for, where the bytes of all of them stand end to end
abbrev pub told : List Mark → List ℕ → List Answer
told [] bytes = []
told (Sent session len ∷ marks) bytes = Says session (take len bytes) ∷ told marks (drop len bytes)
told (End session ∷ marks) bytes = Closes session ∷ told marks bytes
told (Refused reason ∷ marks) bytes = Refuses reason ∷ told marks bytes
told (Done ∷ marks) bytes = Accepts ∷ told marks bytes
told (Line len ∷ marks) bytes = Lines (take len bytes) ∷ told marks (drop len bytes)

-- how many bytes a mark speaks of
abbrev pub len_of : Mark → ℕ
len_of (Sent session len) = len
len_of (End session) = 0
len_of (Refused reason) = 0
len_of Done = 0
len_of (Line len) = len

abbrev pub total : List Mark → ℕ
total [] = 0
total (mark ∷ marks) = len_of mark + total marks

-- the marks of what a step says
abbrev pub sent_mark : ℕ → ℕ → List Mark
sent_mark session zero = []
sent_mark session (suc n) = Sent session (suc n) ∷ []

abbrev pub end_mark : ℕ → Bool → List Mark
end_mark session true = End session ∷ []
end_mark session false = []

-- all bytes that are sent, and those of status lines, end to end
abbrev pub all_sent : List Answer → List ℕ
all_sent [] = []
all_sent (Says session bytes ∷ answers) = bytes ++ all_sent answers
all_sent (Closes session ∷ answers) = all_sent answers
all_sent (Refuses reason ∷ answers) = all_sent answers
all_sent (Accepts ∷ answers) = all_sent answers
all_sent (Lines bytes ∷ answers) = bytes ++ all_sent answers

-- what is shown of a buffer of answers: their list, for how many bytes and marks there is room, and the most bytes that it takes
pub record Told : Type 0 where
  pub list : List Answer
  pub room : ℕ
  pub marks : ℕ
  pub most : ℕ

-- one longest answer and an end fit
pub record HasRoom (t : Told) : Type 0 where
  pub bytes : length (all_sent t.list) + MAX_ANSWER ≤ t.room
  pub marks : length t.list + 2 ≤ t.marks

-- one longest answer and an end do not fit
abbrev pub IsFull : Told → Type 0
IsFull t = (t.room < length (all_sent t.list) + MAX_ANSWER) ⊎ (t.marks < length t.list + 2)

-- no room for bytes was given up, and as many are taken at most
pub record KeepsRoom (old new : Told) : Type 0 where
  pub room : old.room ≤ new.room
  pub most : new.most ≡ old.most

-- these answers were added, and no room was given up
pub record Grows (old new : Told) (answers : List Answer) : Type 0 where
  pub list : new.list ≡ old.list ++ answers
  pub room : KeepsRoom old new
  pub marks : old.marks ≤ new.marks

-- nothing but the room changed, which did not shrink
pub record IsWider (before after : Told) : Type 0 where
  pub list : after.list ≡ before.list
  pub room : KeepsRoom before after
  pub marks : before.marks ≤ after.marks
