-- Trusted reading: a script over a desk and a stream: its lines, the events that they are, and what is written (own).
use Rattle.std.specs.Prelude.{◌≡◌, ℕ, ◌<◌, ◌⊎◌, Bool, true, false, List, [], ◌∷◌, ◌++◌, length, MatchBool, Result, Ok, Err}
use Rattle.tp_hub.specs.Told.{Answer}
use Rattle.nbd_session.specs.declared.phase.Profile.{Profile}
use Rattle.tp_hub.specs.Runs.{Incoming, Comes, Brings, Goes, Orders, AsksLine, AsksLineOf, taken_of}
use Rattle.tp_hub.specs.Desks.{Exchange, IsBegun, IsCut}
use Rattle.tp_hub.specs.Streams.{StreamCall}
use Rattle.tp_hub.specs.Carrying.{IsSaid}
use Rattle.tp_lines.specs.declared.line.ScriptLine.{ScriptLine}
use Rattle.tp_lines.specs.declared.line.ScriptLine.TheVariants.{Nothing, Open, Bytes, Hangup, Message, Status, Thin}
use Rattle.tp_lines.specs.declared.play.Stopped.{Stopped}
use Rattle.tp_lines.specs.declared.play.Stopped.TheVariants.{BadLine, Memory, Output, Script}
use Rattle.tp_lines.specs.Lines.{IsLine, IsNoLine, bytes_of, spelling}
use Rattle.tp_lines.specs.ReadLines.{AreRead}
use Rattle.tp_lines.specs.Texts.{text_in}

-- ---- what a line leads to: asks, calls that write what they are answered, and whether the script goes on

-- A piece is given, front by front, in order and once; what is answered to each is written and flushed before the next one.
abbrev pub GivesAll : ℕ → List ℕ → List Exchange → List StreamCall → Result (Unit {0}) Stopped → Type 0
GivesAll n piece [] calls result = (piece ≡ []) × (calls ≡ []) × (result ≡ Ok tt)
GivesAll n piece (x ∷ xs) calls result = (front : List ℕ) × (behind : List ℕ) × (first : List StreamCall) × (later : List StreamCall) × (all : Bool)
    × (piece ≡ front ++ behind) × (calls ≡ first ++ later) × (x.took ≡ Brings n front ∷ []) × (0 < length front) × IsSaid (text_in x.answers) first all
    × MatchBool all (GivesAll n behind xs later result) ((xs ≡ []) × (later ≡ []) × (result ≡ Err Output))

-- One event is taken, and what is answered is written and flushed, or that fails. A client that comes may not be taken, for want of memory.
abbrev pub Takes : Incoming → List Exchange → List StreamCall → Result (Unit {0}) Stopped → Type 0
Takes event asks calls (Ok done) = (x : Exchange) × (asks ≡ x ∷ []) × (x.took ≡ event ∷ []) × IsSaid (text_in x.answers) calls true
Takes event asks calls (Err BadLine) = ⊥
Takes event asks calls (Err Memory) = (x : Exchange) × (asks ≡ x ∷ []) × (x.took ≡ []) × (x.answers ≡ []) × (calls ≡ []) × ((n : ℕ) × (profile : Profile) × (event ≡ Comes n profile))
Takes event asks calls (Err Output) = (x : Exchange) × (asks ≡ x ∷ []) × (x.took ≡ event ∷ []) × IsSaid (text_in x.answers) calls false
Takes event asks calls (Err Script) = ⊥

-- profile: what a session is offered that is opened.
abbrev pub Does : Profile → ScriptLine → List Exchange → List StreamCall → Result (Unit {0}) Stopped → Type 0
Does profile Nothing asks calls result = (asks ≡ []) × (calls ≡ []) × (result ≡ Ok tt)
Does profile (Open n) asks calls result = Takes (Comes n profile) asks calls result
Does profile (Bytes n digits) asks calls result = GivesAll n (bytes_of digits.now) asks calls result
Does profile (Hangup n) asks calls result = Takes (Goes n) asks calls result
Does profile (Message text) asks calls result = Takes (Orders text.now) asks calls result
Does profile Status asks calls result = Takes AsksLine asks calls result
Does profile (Thin id) asks calls result = Takes (AsksLineOf id) asks calls result

-- A text that is no line stops the script, and leads to nothing.
abbrev pub PlaysLine : Profile → List ℕ → List Exchange → List StreamCall → Result (Unit {0}) Stopped → Type 0
PlaysLine profile text asks calls result =
    (IsNoLine text × (asks ≡ []) × (calls ≡ []) × (result ≡ Err BadLine)) ⊎ ((l : ScriptLine) × IsLine l × (text ≡ spelling l) × Does profile l asks calls result)

-- The end of the script ends its last line.
abbrev pub ends_last : List ℕ → List (List ℕ)
ends_last line = line ∷ []

-- A script is read and played from its first line; or there was no memory for it, and nothing was done. played: how many of its lines were played whole, at most 2^64 - 1.
abbrev pub PlaysScript : Profile → List Exchange → List StreamCall → ℕ → Result (Unit {0}) Stopped → Type 0
PlaysScript profile asks calls played result = ((result ≡ Err Memory) × (played ≡ 0) × (asks ≡ []) × (calls ≡ [])) ⊎ AreRead (PlaysLine profile) Script ends_last 0 [] 0 asks calls played result

-- ---- one ask

-- an event that is no piece
abbrev pub IsWhole : Incoming → Type 0
IsWhole (Brings session piece) = ⊥
IsWhole event = Unit {0}

-- One event was asked, and what was answered was written and flushed.
pub record Asks {D : Type 0} (Did : D → List Incoming → List Answer → D → Type 0) (event : Incoming) (old new : D) (told told' : List StreamCall) (events bytes : ℕ) (all : Bool) : Type 0 where
  pub answers : List Answer
  pub asked : Did old (taken_of (event ∷ []) events bytes) answers new
  pub cut : IsCut event events bytes
  pub silent : events ≡ 0 → bytes ≡ 0 → answers ≡ []
  pub begun : IsBegun event events bytes
  pub did : List StreamCall
  pub made : told' ≡ told ++ did
  pub says : IsSaid (text_in answers) did all
