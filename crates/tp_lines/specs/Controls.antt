-- Trusted reading: control lines over a desk and a stream: the events that they are, and what is written (own).
use Rattle.std.specs.Prelude.{◌≡◌, ℕ, ◌<◌, Bool, true, false, not, ◌&&◌, ◌||◌, if◌then◌else◌, List, [], ◌∷◌, ◌++◌, bytes_eq, codes, Result, Ok, Err}
use Rattle.std.specs.Fmt.{decimal}
use Rattle.tp_msg.specs.Messages.{first_word}
use Rattle.tp_hub.specs.Runs.{Incoming, Comes, Brings, Goes, Orders, AsksDeltaOf, AsksFlush, AsksLine, AsksLineOf, AsksMapOf, AsksSizeOf}
use Rattle.tp_hub.specs.Desks.{Exchange}
use Rattle.tp_hub.specs.Streams.{StreamCall}
use Rattle.tp_hub.specs.Carrying.{IsSaid}
use Rattle.tp_lines.specs.declared.control.LinesEnd.{LinesEnd}
use Rattle.tp_lines.specs.declared.control.LinesEnd.TheVariants.{NoMemory, EndOfInput, InputFailed, OutputFailed}
use Rattle.tp_lines.specs.declared.control.Lost.{Lost}
use Rattle.tp_lines.specs.declared.control.Lost.TheVariants.{Input, Output}
use Rattle.tp_lines.specs.declared.pages.PageOf.TheVariants.{Size, Map, Delta}
use Rattle.tp_lines.specs.Pages.{IsNoPage, IsPageLine, page_spelling}
use Rattle.tp_lines.specs.ReadLines.{AreRead, answered}
use Rattle.tp_lines.specs.Texts.{text_in}

-- the first words of control lines
abbrev pub is_control_word : List ℕ → Bool
is_control_word word =
    bytes_eq word (codes "thin") || bytes_eq word (codes "size") || bytes_eq word (codes "map") || bytes_eq word (codes "delta")
    || bytes_eq word (codes "status") || bytes_eq word (codes "clients") || bytes_eq word (codes "health") || bytes_eq word (codes "flush") || bytes_eq word (codes "stop")

-- the lines of these that go on as they are: a desk may obey them
abbrev pub is_command : List ℕ → Bool
is_command text = bytes_eq text (codes "clients") || bytes_eq text (codes "flush") || bytes_eq text (codes "health") || bytes_eq text (codes "stop") || bytes_eq text (codes "stop now")

-- The message to the pool that a line is, if it asks for no status line and no page. With the first word of a control line its arguments are wrong:
-- then it is a message that lacks its argument, so it is refused by BadSyntax.
abbrev pub message_of : List ℕ → List ℕ
message_of text = if is_control_word (first_word text) && not (is_command text) then codes "create_thin" else text

-- the event that a line is, where it asks for no page: a line that asks for no status line is a message to the pool
abbrev pub IsPlain : List ℕ → Incoming → Type 0
IsPlain text (Comes n profile) = ⊥
IsPlain text (Brings n piece) = ⊥
IsPlain text (Goes n) = ⊥
IsPlain text (Orders line) = (line ≡ message_of text) × (text ≡ codes "status" → ⊥) × ((id : ℕ) → id < 16777216 → text ≡ codes "thin " ++ decimal id → ⊥)
IsPlain text AsksLine = text ≡ codes "status"
IsPlain text (AsksLineOf id) = (id < 16777216) × (text ≡ codes "thin " ++ decimal id)
IsPlain text (AsksSizeOf id) = ⊥
IsPlain text (AsksMapOf id first) = ⊥
IsPlain text (AsksDeltaOf old new first) = ⊥
IsPlain text AsksFlush = ⊥

-- the event that a line is: one that asks for no page of a listing either is a message to the pool
abbrev pub IsControl : List ℕ → Incoming → Type 0
IsControl text (Comes n profile) = ⊥
IsControl text (Brings n piece) = ⊥
IsControl text (Goes n) = ⊥
IsControl text (Orders line) = IsPlain text (Orders line) × IsNoPage text
IsControl text AsksLine = IsPlain text AsksLine
IsControl text (AsksLineOf id) = IsPlain text (AsksLineOf id)
IsControl text (AsksSizeOf id) = IsPageLine (Size id) × (text ≡ page_spelling (Size id))
IsControl text (AsksMapOf id first) = IsPageLine (Map id first) × (text ≡ page_spelling (Map id first))
IsControl text (AsksDeltaOf old new first) = IsPageLine (Delta old new first) × (text ≡ page_spelling (Delta old new first))
IsControl text AsksFlush = ⊥

-- what is asked for a line: nothing for an empty one, and its event once for any other
abbrev pub AsksFor : List ℕ → List Exchange → Type 0
AsksFor [] xs = xs ≡ []
AsksFor (byte ∷ bytes) xs = (event : Incoming) × (x : Exchange) × IsControl (byte ∷ bytes) event × (x.took ≡ event ∷ []) × (xs ≡ x ∷ [])

-- It was asked, and what was answered is written and flushed, or that failed.
abbrev pub AnswersLine : List ℕ → List Exchange → List StreamCall → Bool → Type 0
AnswersLine text asks calls all = AsksFor text asks × IsSaid (text_in (answered asks)) calls all

-- the same, as what goes on or ends there
abbrev pub AnswersOrEnds : List ℕ → List Exchange → List StreamCall → Result (Unit {0}) Lost → Type 0
AnswersOrEnds text asks calls (Ok done) = AnswersLine text asks calls true
AnswersOrEnds text asks calls (Err Input) = ⊥
AnswersOrEnds text asks calls (Err Output) = AnswersLine text asks calls false

-- What stands behind the last newline is not asked for.
abbrev pub drops_last : List ℕ → List (List ℕ)
drops_last line = []

-- lines that are read and answered from the first one, with how many of them were
abbrev pub AnswersAll : List Exchange → List StreamCall → Result (Unit {0}) Lost → Type 0
AnswersAll asks calls result = (count : ℕ) × AreRead AnswersOrEnds Input drops_last 0 [] 0 asks calls count result

-- They were; or there was no memory for them, and nothing was done.
abbrev pub AttendsLines : List Exchange → List StreamCall → LinesEnd → Type 0
AttendsLines asks calls NoMemory = (asks ≡ []) × (calls ≡ [])
AttendsLines asks calls EndOfInput = AnswersAll asks calls (Ok tt)
AttendsLines asks calls InputFailed = AnswersAll asks calls (Err Input)
AttendsLines asks calls OutputFailed = AnswersAll asks calls (Err Output)

-- the ending that it is
abbrev pub ended_by : Lost → LinesEnd
ended_by Input = InputFailed
ended_by Output = OutputFailed
