-- Trusted reading: a run of the hub: events, each with its turns and its answers (own).
use Rattle.std.specs.Prelude.{◌≡◌, ℕ, zero, suc, ◌<◌, Bool, true, false, if◌then◌else◌, List, [], ◌∷◌, ◌++◌, length, take, drop, MatchBool, MatchOption, MatchResult, Option, None, Some, Result, Ok, Err, nat_lt, ◌⊎◌}
use Rattle.tp_model.specs.declared.refusal.Refusal.{Refusal}
use Rattle.tp_model.specs.declared.refusal.Refusal.TheVariants.{BadDeviceId, BadSyntax, NoSession, SessionInUse}
use Rattle.tp_model.specs.Pool.{Outline}
use Rattle.tp_model.specs.Calls.{Call}
use Rattle.tp_model.specs.Calls as calls
use Rattle.nbd_session.specs.declared.phase.Phase.{Phase}
use Rattle.nbd_session.specs.declared.phase.Profile.{Profile}
use Rattle.nbd_session.specs.Session.{has_ended, is_at_work}
use Rattle.nbd_session.specs.Turns.{Turn, Opens, Hears, Leaves, Asks, Happened, Sessions, AreTurns, sessions_after, pool_after}
use Rattle.tp_hub.specs.declared.event.Event.{Event}
use Rattle.tp_hub.specs.declared.event.Event.TheVariants as kinds
use Rattle.tp_msg.specs.Asked.{call_of}
use Rattle.tp_msg.specs.Messages.{reading}
use Rattle.tp_pages.specs.Pages.{AsksDelta, AsksMap, AsksSize, Question, unit_of}
use Rattle.tp_hub.specs.Told.{Answer, Accepts, Lines, Says, Closes, Refuses, Told, Grows, IsFull}

-- ---- events

-- what comes to the hub, as data
pub data Incoming : Type 0 where
  Comes : (session : ℕ) (profile : Profile) → Incoming
  Brings : (session : ℕ) (piece : List ℕ) → Incoming
  Goes : (session : ℕ) → Incoming
  -- a line that is to be a message to the pool
  Orders : (line : List ℕ) → Incoming
  -- the pool's status line is wanted, and a volume's
  AsksLine : Incoming
  AsksLineOf : (volume : ℕ) → Incoming
  -- a volume's size is wanted
  AsksSizeOf : (volume : ℕ) → Incoming
  -- a page is wanted, from a block on, of a volume's mapped blocks, and of those in which a volume may differ from another
  AsksMapOf : (volume from : ℕ) → Incoming
  AsksDeltaOf : (old new from : ℕ) → Incoming
  -- what was written is to be kept
  AsksFlush : Incoming

abbrev pub incoming : Event → Incoming
incoming (kinds.Open session profile) = Comes session profile
incoming (kinds.Bytes session piece) = Brings session piece.now
incoming (kinds.Parted session piece) = Brings session piece.now
incoming (kinds.Hangup session) = Goes session
incoming (kinds.Message line) = Orders line.now
incoming kinds.Status = AsksLine
incoming (kinds.ThinStatus volume) = AsksLineOf volume
incoming (kinds.Size volume) = AsksSizeOf volume
incoming (kinds.Map volume from) = AsksMapOf volume from
incoming (kinds.Delta old new from) = AsksDeltaOf old new from
incoming kinds.Flush = AsksFlush

-- its session; an event of the pool has none, for which 0 stands
abbrev pub session_of : Event → ℕ
session_of (kinds.Open session profile) = session
session_of (kinds.Bytes session piece) = session
session_of (kinds.Parted session piece) = session
session_of (kinds.Hangup session) = session
session_of (kinds.Message line) = 0
session_of kinds.Status = 0
session_of (kinds.ThinStatus volume) = 0
session_of (kinds.Size volume) = 0
session_of (kinds.Map volume from) = 0
session_of (kinds.Delta old new from) = 0
session_of kinds.Flush = 0

abbrev pub session_in : Incoming → ℕ
session_in (Comes session profile) = session
session_in (Brings session piece) = session
session_in (Goes session) = session
session_in (Orders line) = 0
session_in AsksLine = 0
session_in (AsksLineOf volume) = 0
session_in (AsksSizeOf volume) = 0
session_in (AsksMapOf volume from) = 0
session_in (AsksDeltaOf old new from) = 0
session_in AsksFlush = 0

-- so many bytes of an event: nothing, or the front of its piece
abbrev pub front_of : Incoming → ℕ → List Incoming
front_of (Brings session piece) zero = []
front_of (Brings session piece) (suc n) = Brings session (take (suc n) piece) ∷ []
front_of (Comes session profile) bytes = []
front_of (Goes session) bytes = []
front_of (Orders line) bytes = []
front_of AsksLine bytes = []
front_of (AsksLineOf volume) bytes = []
front_of (AsksSizeOf volume) bytes = []
front_of (AsksMapOf volume from) bytes = []
front_of (AsksDeltaOf old new from) bytes = []
front_of AsksFlush bytes = []

abbrev pub front_of_next : List Incoming → ℕ → List Incoming
front_of_next [] bytes = []
front_of_next (event ∷ events) bytes = front_of event bytes

-- so many events, and so many bytes of the next
abbrev pub taken_of : List Incoming → ℕ → ℕ → List Incoming
taken_of all events bytes = take events all ++ front_of_next (drop events all) bytes

-- Of an event so many bytes were taken: fewer than its piece has, and its session is open.
abbrev pub IsPart : Sessions → Incoming → ℕ → Type 0
IsPart at (Brings session piece) bytes = (bytes ≡ 0) ⊎ ((bytes < length piece) × (has_ended (at session).phase ≡ false))
IsPart at (Comes session profile) bytes = bytes ≡ 0
IsPart at (Goes session) bytes = bytes ≡ 0
IsPart at (Orders line) bytes = bytes ≡ 0
IsPart at AsksLine bytes = bytes ≡ 0
IsPart at (AsksLineOf volume) bytes = bytes ≡ 0
IsPart at (AsksSizeOf volume) bytes = bytes ≡ 0
IsPart at (AsksMapOf volume from) bytes = bytes ≡ 0
IsPart at (AsksDeltaOf old new from) bytes = bytes ≡ 0
IsPart at AsksFlush bytes = bytes ≡ 0

abbrev pub IsPartOfNext : Sessions → List Incoming → ℕ → Type 0
IsPartOfNext at [] bytes = bytes ≡ 0
IsPartOfNext at (event ∷ events) bytes = IsPart at event bytes

-- An event is left for a cause: one longest answer does not fit; or the event is a client that comes, whose session is not open, so that it wanted memory of its own;
-- or a long request ended what was taken of it, whose parts are to be asked for.
abbrev pub IsShort : Sessions → Incoming → ℕ → Told → Type 0
IsShort at (Comes session profile) bytes out = IsFull out ⊎ (has_ended (at session).phase ≡ true)
IsShort at (Brings session piece) bytes out = IsFull out ⊎ ((0 < bytes) × (is_at_work (at session).phase ≡ true))
IsShort at (Goes session) bytes out = IsFull out
IsShort at (Orders line) bytes out = IsFull out
IsShort at AsksLine bytes out = IsFull out
IsShort at (AsksLineOf volume) bytes out = IsFull out
IsShort at (AsksSizeOf volume) bytes out = IsFull out
IsShort at (AsksMapOf volume from) bytes out = IsFull out
IsShort at (AsksDeltaOf old new from) bytes out = IsFull out
IsShort at AsksFlush bytes out = IsFull out

-- where events are left, the first of them is left for a cause
abbrev pub IsShortOfNext : Sessions → List Incoming → ℕ → Told → Type 0
IsShortOfNext at [] bytes out = Unit {0}
IsShortOfNext at (event ∷ events) bytes out = IsShort at event bytes out

-- ---- answers

-- what is said to a session, if anything
abbrev pub said : ℕ → List ℕ → List Answer
said session [] = []
said session (byte ∷ bytes) = Says session (byte ∷ bytes) ∷ []

abbrev pub closed_if : ℕ → Bool → List Answer
closed_if session true = Closes session ∷ []
closed_if session false = []

-- what is answered in a turn
abbrev pub answers_of : Turn → List Answer
answers_of (Opens session profile sent) = Says session sent ∷ []
answers_of (Hears session piece taken sent ended) = said session sent ++ closed_if session ended
answers_of (Leaves session) = Closes session ∷ []
answers_of (Asks call answer) = []

abbrev pub answers_in : {S : Type 0} → List (Happened S) → List Answer
answers_in [] = []
answers_in (h ∷ hs) = answers_of h.turn ++ answers_in hs

-- ---- one event

-- The session takes this text, turn by turn, and is open before each. A turn takes something of it, or makes a part of a request, of which parts were left.
abbrev pub TakesText : {S : Type 0} → Sessions → ℕ → List ℕ → List (Happened S) → Type 0
TakesText at n text [] = text ≡ []
TakesText at n text (h ∷ hs) =
    (piece rest sent : List ℕ) × (ended : Bool) × (has_ended (at n).phase ≡ false) × (h.turn ≡ Hears n piece (length piece) sent ended)
    × ((0 < length piece) ⊎ (is_at_work (at n).phase ≡ true)) × (text ≡ piece ++ rest) × TakesText h.sessions n rest hs

-- The session takes all of the piece, or what stands up to its end: the rest is dropped.
pub record TakesPiece {S : Type 0} (at : Sessions) (n : ℕ) (piece : List ℕ) (turns : List (Happened S)) : Type 0 where
  pub text : List ℕ
  pub dropped : List ℕ
  pub cut : piece ≡ text ++ dropped
  pub takes : TakesText at n text turns
  pub all : (dropped ≡ []) ⊎ (has_ended (sessions_after at turns n).phase ≡ true)

-- one turn, and no other
abbrev pub IsOnly : {S : Type 0} → List (Happened S) → Turn → Type 0
IsOnly {S} turns turn = (h : Happened S) × (turns ≡ h ∷ []) × (h.turn ≡ turn)

-- nothing is done
abbrev pub IsRefused : {S : Type 0} → Refusal → List (Happened S) → List Answer → Type 0
IsRefused reason turns answers = (turns ≡ []) × (answers ≡ Refuses reason ∷ [])

-- what is told where a message, or a flush, was given this answer: nothing else answers it
abbrev pub TellsDone : calls.Answer → List Answer → Type 0
TellsDone calls.Done answers = answers ≡ Accepts ∷ []
TellsDone (calls.Refused reason) answers = answers ≡ Refuses reason ∷ []
TellsDone (calls.Gave sectors) answers = ⊥
TellsDone (calls.Line bytes) answers = ⊥
TellsDone (calls.Found id) answers = ⊥
TellsDone (calls.Sized blocks) answers = ⊥
TellsDone (calls.Listed slots) answers = ⊥

-- and where a status line was asked for
abbrev pub TellsLine : calls.Answer → List Answer → Type 0
TellsLine (calls.Line bytes) answers = answers ≡ Lines bytes ∷ []
TellsLine (calls.Refused reason) answers = answers ≡ Refuses reason ∷ []
TellsLine calls.Done answers = ⊥
TellsLine (calls.Gave sectors) answers = ⊥
TellsLine (calls.Found id) answers = ⊥
TellsLine (calls.Sized blocks) answers = ⊥
TellsLine (calls.Listed slots) answers = ⊥

-- One call of the pool was made, and no other, and its answer is told.
abbrev pub IsCalled : {S : Type 0} → Call → (calls.Answer → List Answer → Type 0) → List (Happened S) → List Answer → Type 0
IsCalled call Tells turns answers = (answer : calls.Answer) × IsOnly turns (Asks call answer) × Tells answer answers

-- these calls of the pool were made, and no others
abbrev pub AreQuestions : {S : Type 0} → List (Happened S) → List Question → Type 0
AreQuestions [] [] = Unit {0}
AreQuestions (h ∷ hs) (q ∷ qs) = (h.turn ≡ Asks q.call q.answer) × AreQuestions hs qs
AreQuestions [] (q ∷ qs) = ⊥
AreQuestions (h ∷ hs) [] = ⊥

-- a page is told as a line, and why there is none as a refusal
abbrev pub told_page : Result (List ℕ) Refusal → Answer
told_page (Ok text) = Lines text
told_page (Err reason) = Refuses reason

-- The calls for a page, or for a size, were made, and no others, and it is told.
abbrev pub IsPageTold : {S : Type 0} → (List Question → Result (List ℕ) Refusal → Type 0) → List (Happened S) → List Answer → Type 0
IsPageTold AsksFor turns answers = (qs : List Question) × (page : Result (List ℕ) Refusal) × AreQuestions turns qs × AsksFor qs page × (answers ≡ told_page page ∷ [])

-- why a number is no volume's, if it is not
abbrev pub size_fault : ℕ → Option Refusal
size_fault volume = if nat_lt volume 16777216 then None else Some BadDeviceId

-- why the numbers of a page are none, if they are not: a volume's and a block's are below 2^24
abbrev pub map_fault : ℕ → ℕ → Option Refusal
map_fault volume from = if nat_lt volume 16777216 then (if nat_lt from 16777216 then None else Some BadSyntax) else Some BadDeviceId

abbrev pub delta_fault : ℕ → ℕ → ℕ → Option Refusal
delta_fault old new from = if nat_lt old 16777216 then map_fault new from else Some BadDeviceId

-- A line that is a message is that call; of one that is none nothing comes but its refusal.
abbrev pub IsOrdered : {S : Type 0} → List ℕ → List (Happened S) → List Answer → Type 0
IsOrdered line turns answers = MatchResult (reading line) (λ m. IsCalled (call_of m) TellsDone turns answers) (λ reason. IsRefused reason turns answers)

-- While parts of its request are left a session takes no text.
abbrev pub is_busy : Phase → List ℕ → Bool
is_busy phase [] = false
is_busy phase (byte ∷ bytes) = is_at_work phase

-- The turns and the answers of an event. A client comes where the session is not open; it is heard, and it goes, where it is open. An event of the pool
-- is one call of it at most, or three for a page of a delta, which change no session. unit: the bytes of a block of the pool.
abbrev pub IsAnswered : {S : Type 0} → ℕ → Sessions → Incoming → List (Happened S) → List Answer → Type 0
IsAnswered unit at (Comes n profile) turns answers =
    MatchBool (has_ended (at n).phase) ((sent : List ℕ) × IsOnly turns (Opens n profile sent) × (answers ≡ answers_in turns)) (IsRefused SessionInUse turns answers)
IsAnswered unit at (Brings n piece) turns answers =
    MatchBool (has_ended (at n).phase) (IsRefused NoSession turns answers)
    (MatchBool (is_busy (at n).phase piece) (IsRefused SessionInUse turns answers) (TakesPiece at n piece turns × (answers ≡ answers_in turns)))
IsAnswered unit at (Goes n) turns answers =
    MatchBool (has_ended (at n).phase) (IsRefused NoSession turns answers) (IsOnly turns (Leaves n) × (answers ≡ answers_in turns))
IsAnswered unit at (Orders line) turns answers = IsOrdered line turns answers
IsAnswered unit at AsksLine turns answers = IsCalled calls.Status TellsLine turns answers
IsAnswered unit at (AsksLineOf volume) turns answers =
    MatchBool (nat_lt volume 16777216) (IsCalled (calls.ThinStatus volume) TellsLine turns answers) (IsRefused BadDeviceId turns answers)
IsAnswered unit at (AsksSizeOf volume) turns answers =
    MatchOption (size_fault volume) (IsPageTold (λ qs page. AsksSize unit volume qs page) turns answers) (λ reason. IsRefused reason turns answers)
IsAnswered unit at (AsksMapOf volume from) turns answers =
    MatchOption (map_fault volume from) (IsPageTold (λ qs page. AsksMap unit volume from qs page) turns answers) (λ reason. IsRefused reason turns answers)
IsAnswered unit at (AsksDeltaOf old new from) turns answers =
    MatchOption (delta_fault old new from) (IsPageTold (λ qs page. AsksDelta unit old new from qs page) turns answers) (λ reason. IsRefused reason turns answers)
IsAnswered unit at AsksFlush turns answers = IsCalled calls.Flush TellsDone turns answers

-- an event, with the turns that it came to and its answers
pub record Served (S : Type 0) : Type 0 where
  pub event : Incoming
  pub turns : List (Happened S)
  pub answers : List Answer

-- ---- a list of events

abbrev pub events_in : {S : Type 0} → List (Served S) → List Incoming
events_in [] = []
events_in (x ∷ xs) = x.event ∷ events_in xs

abbrev pub turns_in : {S : Type 0} → List (Served S) → List (Happened S)
turns_in [] = []
turns_in (x ∷ xs) = x.turns ++ turns_in xs

abbrev pub answered_in : {S : Type 0} → List (Served S) → List Answer
answered_in [] = []
answered_in (x ∷ xs) = x.answers ++ answered_in xs

-- S: pools. outline: a pool's geometry, mode and holds. Calls: that a call of a pool is given an answer, and leaves another pool.
module _ {S : Type 0} (outline : S → Outline) (Calls : S → Call → calls.Answer → S → Type 0) where
  -- events one after another, each from where the one before it led
  abbrev pub AreServed : Sessions → S → List (Served S) → Type 0
  AreServed at p [] = Unit {0}
  AreServed at p (x ∷ xs) =
      IsAnswered (unit_of (outline p).geometry) at x.event x.turns x.answers × AreTurns outline Calls at p x.turns × AreServed (sessions_after at x.turns) (pool_after p x.turns) xs

  -- From these sessions and this pool the events were served, to those, and their answers were added.
  pub record Runs (at : Sessions) (p : S) (events : List Incoming) (before after : Told) (at' : Sessions) (p' : S) : Type 0 where
    pub served : List (Served S)
    pub are : AreServed at p served
    pub events_are : events_in served ≡ events
    pub sessions_are : sessions_after at (turns_in served) ≡ at'
    pub pool_is : pool_after p (turns_in served) ≡ p'
    pub adds : Grows before after (answered_in served)
