-- Trusted reading: what a command prints of one call of a pool (own).
use Rattle.std.specs.Prelude.{◌≡◌, ◌⊎◌, List, [], ◌∷◌, ◌++◌, ℕ, Option, None, Some, Result, Err, MatchResult, codes}
use Rattle.tp_model.specs.declared.refusal.Refusal.{Refusal}
use Rattle.tp_model.specs.Calls.{Answer, Call, Done, Line, Refused, Status, ThinStatus}
use Rattle.tp_model.specs.Clauses.{Meets, View}
use Rattle.tp_msg.specs.Messages.{reading}
use Rattle.tp_msg.specs.Asked.{call_of}
use Rattle.tp_hub.specs.Streams.{StreamCall}
pub use Rattle.tp_reports.specs.Printing.{Prints}

abbrev pub newline : List ℕ
newline = 10 ∷ []

-- the text of an accepted call
abbrev pub IsTextOf : Answer → List ℕ → Type 0
IsTextOf (Line line) text = text ≡ line
IsTextOf Done text = text ≡ codes "ok"
IsTextOf answer text = ⊥

module _ {D : Type 0} (view : View D) where
  -- One call of the pool: where it is accepted, its text is printed on a line; where it is refused, that is the refusal, and nothing is printed.
  abbrev pub PrintsCall : D → D → Call → List StreamCall → List StreamCall → Result (Unit {0}) Refusal → Type 0
  PrintsCall old new call calls calls' result =
      ((answer : Answer) × (text : List ℕ) × IsTextOf answer text × Meets view old new call answer × Prints calls calls' (text ++ newline) result)
      ⊎ ((reason : Refusal) × (result ≡ Err reason) × Meets view old new call (Refused reason) × (calls' ≡ calls))

  -- Nothing was done, and nothing is printed.
  abbrev pub DoesNothing : D → D → List StreamCall → List StreamCall → Result (Unit {0}) Refusal → Refusal → Type 0
  DoesNothing old new calls calls' result reason = (result ≡ Err reason) × (new ≡ old) × (calls' ≡ calls)

  -- one message, from a line: it is a call of the pool
  abbrev pub IsLineGiven : D → D → List ℕ → List StreamCall → List StreamCall → Result (Unit {0}) Refusal → Type 0
  IsLineGiven old new line calls calls' result = MatchResult (reading line)
      (λ m. PrintsCall old new (call_of m) calls calls' result)
      (λ reason. DoesNothing old new calls calls' result reason)

-- the call that tells a status: the pool's, or a volume's
abbrev pub status_call : Option ℕ → Call
status_call None = Status
status_call (Some id) = ThinStatus id
