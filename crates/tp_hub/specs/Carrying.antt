-- Trusted reading: one client over a desk and a stream, from its coming to its end (own).
use Rattle.std.specs.Prelude.{◌≡◌, ℕ, ◌-◌, ◌^◌, ◌<◌, ◌≤◌, Bool, true, false, ◌||◌, ◌==◌, List, [], ◌∷◌, ◌++◌, length, ◌⊎◌, MatchBool, Option, None, Some}
use Rattle.tp_hub.specs.declared.answers.Mark.{Mark}
use Rattle.tp_hub.specs.declared.answers.Mark.TheVariants.{Sent, End, Refused, Done, Line}
use Rattle.nbd_session.specs.declared.phase.Profile.{Profile}
use Rattle.tp_hub.specs.Told.{Accepts, Answer, Closes, Lines, IsFull, Refuses, Says, Told, all_sent}
use Rattle.tp_hub.specs.Runs.{Brings, Comes, Goes, Incoming, taken_of}
use Rattle.tp_hub.specs.Desks.{Exchange, IsBegun, IsCut}
use Rattle.tp_hub.specs.Streams.{Gave, GaveAgain, GaveEnd, GaveNone, IsSent, StreamCall}
use Rattle.tp_hub.specs.declared.client.Carried.{Carried}
use Rattle.tp_hub.specs.declared.client.Carried.TheVariants.{EndOfInput, InUse, InputFailed, LastLost, NoMemory, OutputFailed, SessionOver}

-- ---- writing answers

-- The bytes of answers are written and flushed; where there are none, nothing is.
abbrev pub IsSaid : List ℕ → List StreamCall → Bool → Type 0
IsSaid [] calls all = (calls ≡ []) × (all ≡ true)
IsSaid (byte ∷ bytes) calls all = IsSent (byte ∷ bytes) calls all

-- this session is over, or its event was refused
abbrev pub closes_in : ℕ → List Answer → Bool
closes_in n [] = false
closes_in n (Says session bytes ∷ answers) = closes_in n answers
closes_in n (Closes session ∷ answers) = (session == n) || closes_in n answers
closes_in n (Refuses reason ∷ answers) = true
closes_in n (Accepts ∷ answers) = closes_in n answers
closes_in n (Lines bytes ∷ answers) = closes_in n answers

-- the same of a mark
abbrev pub is_close : ℕ → Mark → Bool
is_close n (Sent session len) = false
is_close n (End session) = session == n
is_close n (Refused reason) = true
is_close n Done = false
is_close n (Line len) = false

-- One event of a session was asked, where something of it was taken but of a client that comes, and its answers were written: no more bytes of them than their buffer may have (most).
pub record Exchanges {D : Type 0} (Did : D → List Incoming → List Answer → D → Type 0) (most n : ℕ) (event : Incoming) (old new : D) (events bytes : ℕ) (before after : List StreamCall) (over said : Bool) : Type 0 where
  pub answers : List Answer
  pub did : Did old (taken_of (event ∷ []) events bytes) answers new
  pub cut : IsCut event events bytes
  pub silent : events ≡ 0 → bytes ≡ 0 → answers ≡ []
  pub begun : IsBegun event events bytes
  pub few : length (all_sent answers) ≤ most
  pub calls : List StreamCall
  pub calls_are : after ≡ before ++ calls
  pub says : IsSaid (all_sent answers) calls said
  pub over_is : over ≡ closes_in n answers

-- ---- one piece

-- the session is over, and its last answers were written, or were not
abbrev pub over_if : Bool → Carried
over_if true = SessionOver
over_if false = LastLost

-- The asks for a piece: each takes a front of what is left, in order and once, and its answers, which are no more than their buffer may have (most), are written before the next ask.
-- No ask comes after the session's end, or after a failure of the stream. The client goes on (None), or has ended so.
abbrev pub Hands : ℕ → ℕ → List ℕ → List Exchange → List StreamCall → Option Carried → Type 0
Hands most n piece [] calls ending = (piece ≡ []) × (calls ≡ []) × (ending ≡ None)
Hands most n piece (x ∷ xs) calls ending = (front : List ℕ) × (behind : List ℕ) × (first : List StreamCall) × (later : List StreamCall) × (all : Bool)
    × (piece ≡ front ++ behind) × (calls ≡ first ++ later) × IsSaid (all_sent x.answers) first all × (length (all_sent x.answers) ≤ most)
    × (x.took ≡ Brings n front ∷ []) × (0 < length front)
    × MatchBool (closes_in n x.answers) ((xs ≡ []) × (later ≡ []) × (ending ≡ Some (over_if all)))
    (MatchBool all (Hands most n behind xs later ending) ((xs ≡ []) × (later ≡ []) × (ending ≡ Some OutputFailed)))

-- ---- one client

-- one read that gave bytes, the asks for them, and the calls that wrote their answers; or a read that was interrupted
pub record Round : Type 0 where
  pub read : StreamCall
  pub asks : List Exchange
  pub calls : List StreamCall

abbrev pub calls_in : List Round → List StreamCall
calls_in [] = []
calls_in (r ∷ rs) = r.read ∷ (r.calls ++ calls_in rs)

abbrev pub asks_in : List Round → List Exchange
asks_in [] = []
asks_in (r ∷ rs) = r.asks ++ asks_in rs

-- What one read led to.
abbrev pub IsRound : ℕ → ℕ → Round → Option Carried → Type 0
IsRound most n r ending = ((piece : List ℕ) × (r.read ≡ Gave piece) × Hands most n piece r.asks r.calls ending) ⊎ ((r.read ≡ GaveAgain) × (r.asks ≡ []) × (r.calls ≡ []) × (ending ≡ None))

abbrev pub AreRounds : ℕ → ℕ → List Round → Type 0
AreRounds most n [] = Unit {0}
AreRounds most n (r ∷ rs) = IsRound most n r None × AreRounds most n rs

-- these asks and calls are a round
abbrev pub IsLast : ℕ → ℕ → List Exchange → List StreamCall → Option Carried → Type 0
IsLast most n asks calls ending = (r : Round) × IsRound most n r ending × (asks ≡ r.asks) × (calls ≡ r.read ∷ r.calls)

-- the last read gave nothing
abbrev pub IsReadOut : List Exchange → List StreamCall → Carried → Type 0
IsReadOut asks calls EndOfInput = (asks ≡ []) × (calls ≡ GaveEnd ∷ [])
IsReadOut asks calls InputFailed = (asks ≡ []) × (calls ≡ GaveNone ∷ [])
IsReadOut asks calls _ = ⊥

-- Each ending has its cause in what the last read led to, or in that read.
abbrev pub Ends : ℕ → ℕ → List Exchange → List StreamCall → Carried → Type 0
Ends most n asks calls ending = IsLast most n asks calls (Some ending) ⊎ IsReadOut asks calls ending

-- After these rounds it ended: with a last read, or since 2^64 - 1 reads were made. Nothing is read after it.
abbrev pub Stops : ℕ → ℕ → List Round → List Exchange → List StreamCall → Carried → Type 0
Stops most n rounds asks calls ending = Ends most n asks calls ending ⊎ ((ending ≡ InputFailed) × (asks ≡ []) × (calls ≡ []) × (2 ^ 64 - 1 ≤ length rounds))

-- A read led to a round behind which more is read, or to an ending.
abbrev pub GoesOnOrEnds : ℕ → ℕ → List Exchange → List StreamCall → Option Carried → Type 0
GoesOnOrEnds most n asks calls None = IsLast most n asks calls None
GoesOnOrEnds most n asks calls (Some ending) = Ends most n asks calls ending

-- the session was over before its client was gone: its number may be another client's
abbrev pub is_over : Carried → Bool
is_over SessionOver = true
is_over LastLost = true
is_over _ = false

-- The session is told that its client is gone, unless it was over. Nothing of that is written.
abbrev pub IsLeft : ℕ → List Exchange → Carried → Type 0
IsLeft n asks ending = MatchBool (is_over ending) (asks ≡ []) ((x : Exchange) × (asks ≡ x ∷ []) × (x.took ≡ Goes n ∷ []))

-- There was no memory for answers, which this buffer shows, or for a session, or its number was taken. Nothing is read.
abbrev pub IsTurnedAway : ℕ → Profile → Told → List Exchange → List StreamCall → Carried → Type 0
IsTurnedAway n profile out asks calls NoMemory = (calls ≡ []) × (((asks ≡ []) × IsFull out) ⊎ ((x : Exchange) × (asks ≡ x ∷ []) × (x.took ≡ []) × (x.answers ≡ [])))
IsTurnedAway n profile out asks calls InUse = (x : Exchange) × (all : Bool) × (asks ≡ x ∷ []) × (x.took ≡ Comes n profile ∷ []) × (closes_in n x.answers ≡ true) × IsSaid (all_sent x.answers) calls all
IsTurnedAway n profile out asks calls _ = ⊥

-- A session was opened with this profile, its greeting written, then round after round, up to its end.
pub record IsServed (most n : ℕ) (profile : Profile) (asks : List Exchange) (calls : List StreamCall) (ending : Carried) : Type 0 where
  pub opening : Exchange
  pub opened : opening.took ≡ Comes n profile ∷ []
  pub is_open : closes_in n opening.answers ≡ false
  pub greeting : List StreamCall
  pub all : Bool
  pub greets : IsSaid (all_sent opening.answers) greeting all
  pub rounds : List Round
  pub are : AreRounds most n rounds
  pub last : List Exchange
  pub end : List StreamCall
  pub stops : MatchBool all (Stops most n rounds last end ending) ((rounds ≡ []) × (last ≡ []) × (end ≡ []) × (ending ≡ OutputFailed))
  pub left : List Exchange
  pub leaves : IsLeft n left ending
  pub asks_are : asks ≡ opening ∷ ((asks_in rounds ++ last) ++ left)
  pub calls_are : calls ≡ greeting ++ (calls_in rounds ++ end)

-- One client: its coming, what was read and answered, and its end.
abbrev pub IsCarried : ℕ → Profile → Told → List Exchange → List StreamCall → Carried → Type 0
IsCarried n profile out asks calls ending = IsTurnedAway n profile out asks calls ending ⊎ IsServed out.most n profile asks calls ending
