-- Trusted reading: what the reply to one client's FLUSH says of what all clients were answered before (NBD's proto.md, "NBD_FLAG_CAN_MULTI_CONN").
use Rattle.std.specs.Prelude.{◌≡◌, ◌⊎◌, ℕ, ◌<◌, ◌^◌, Bool, false, true, List, [], ◌∷◌, ◌++◌, length, Option, None, Some}
use Rattle.tp_model.specs.Sectors.{Sector}
use Rattle.tp_model.specs.Pool.{PlainPool, volume_sector}
use Rattle.tp_model.specs.PoolStops.{Event, GivenBy, GivenIn, MayReopen, state_after}
use Rattle.tp_model.specs.Clauses.{Entry, Traced, TracedCall, View, events_of, outline_of_traced}
use Rattle.nbd_wire.specs.declared.Request.{Request}
use Rattle.nbd_wire.specs.declared.TheConstants.{COMMAND_FLUSH, COMMAND_WRITE}
use Rattle.nbd_wire.specs.Grammar.{IsRequest}
use Rattle.nbd_wire.specs.Replies.{simple_reply}
use Rattle.nbd_session.specs.declared.phase.Course.TheVariants.{Listens, Works}
use Rattle.nbd_session.specs.declared.phase.Manner.{Manner}
use Rattle.nbd_session.specs.declared.phase.Phase.TheVariants.{Transmission}
use Rattle.nbd_session.specs.Requests.{to_keep}
use Rattle.nbd_session.specs.Session.{writes_through}
use Rattle.nbd_session.specs.Turns.{Asks, Happened, Hears, Leaves, Opens, Sessions, TakesTurn, Turn}

-- In this turn a FLUSH of some session came to its end, and was answered without an error.
pub record IsFlushed {S : Type 0} (at : Sessions) (h : Happened S) : Type 0 where
  pub session : ℕ
  pub volume : ℕ
  pub size : ℕ
  pub manner : Manner
  pub serves : (at session).phase ≡ Transmission volume size (Listens manner)
  pub request : Request
  pub is_flush : request.kind ≡ COMMAND_FLUSH
  pub piece : List ℕ
  pub frame : IsRequest ((at session).held ++ piece) request []
  pub turn : h.turn ≡ Hears session piece (length piece) (simple_reply 0 request.cookie []) false

-- In this turn the FLUSH that was left of a request of some session was made, and answered without an error.
pub record IsKept {S : Type 0} (at : Sessions) (h : Happened S) : Type 0 where
  pub session : ℕ
  pub volume : ℕ
  pub size : ℕ
  pub manner : Manner
  pub rest : Request
  pub works : (at session).phase ≡ Transmission volume size (Works manner rest)
  pub is_flush : rest.kind ≡ COMMAND_FLUSH
  pub fits : rest.cookie < 2 ^ 64
  pub turn : h.turn ≡ Hears session [] 0 (simple_reply 0 rest.cookie []) false

-- an answer of either kind says that all is kept
abbrev pub KeepsAll : {S : Type 0} → Sessions → Happened S → Type 0
KeepsAll at h = IsFlushed at h ⊎ IsKept at h

-- P is the state behind these events and some of the later ones, but for sectors that were given a value in the others.
pub record Covers (s : PlainPool) (before later : List Event) (P : PlainPool) : Type 0 where
  pub over : List Event
  pub rest : List Event
  pub parts : later ≡ over ++ rest
  pub reopens : MayReopen (state_after s (before ++ over)) (GivenIn rest) P

-- So is what may be found behind turns, where one more may be in progress. told: the trace up to some answer.
abbrev pub IsCovered : {D : Type 0} → View D → PlainPool → Traced → Sessions → Traced → Option (Happened D) → PlainPool → Type 0
IsCovered view s told at t None P = (later : List Entry) × (t.trace ≡ told.trace ++ later) × Covers s (events_of told.trace) (events_of later) P
IsCovered view s told at t (Some h) P =
    (t' : Traced) × (later : List Entry) × TakesTurn outline_of_traced (TracedCall view.has_use) at t h.turn h.sessions t' × (t'.trace ≡ told.trace ++ later)
    × Covers s (events_of told.trace) (events_of later) P

-- a sector of a volume is as one of these events left it, or has a value that one of them gave it
abbrev pub IsNewer : List Event → ℕ → ℕ → PlainPool → Type 0
IsNewer [] id k P = ⊥
IsNewer (e ∷ es) id k P =
    (volume_sector P id k ≡ volume_sector e.made id k) ⊎ ((x : Sector) × (volume_sector P id k ≡ Some x) × GivenBy e id k x) ⊎ IsNewer es id k P

-- In this turn a WRITE of some session came to its end, and was answered without an error, or nothing but a FLUSH is left of it.
pub record IsWritten {S : Type 0} (at : Sessions) (h : Happened S) : Type 0 where
  pub session : ℕ
  pub volume : ℕ
  pub size : ℕ
  pub manner : Manner
  pub serves : (at session).phase ≡ Transmission volume size (Listens manner)
  pub request : Request
  pub is_write : request.kind ≡ COMMAND_WRITE
  pub payload : List ℕ
  pub piece : List ℕ
  pub frame : IsRequest ((at session).held ++ piece) request payload
  pub sent : List ℕ
  pub turn : h.turn ≡ Hears session piece (length piece) sent false
  pub is_done : (sent ≡ simple_reply 0 request.cookie []) ⊎ ((h.sessions session).phase ≡ Transmission volume size (Works manner (to_keep request)))

-- If a client came to this session in a turn, it was offered a profile that writes through; so was
-- each client of this session in some turns.
abbrev pub IsOffered : ℕ → Turn → Type 0
IsOffered n (Opens session profile sent) = session ≡ n → writes_through profile ≡ true
IsOffered n (Hears session piece taken sent ended) = Unit {0}
IsOffered n (Leaves session) = Unit {0}
IsOffered n (Asks call answer) = Unit {0}

abbrev pub AreOffered : {S : Type 0} → ℕ → List (Happened S) → Type 0
AreOffered n [] = Unit {0}
AreOffered n (h ∷ hs) = IsOffered n h.turn × AreOffered n hs

-- In this turn some session took a WRITE.
pub record IsWriteTaken {S : Type 0} (at : Sessions) (h : Happened S) : Type 0 where
  pub session : ℕ
  pub volume : ℕ
  pub size : ℕ
  pub manner : Manner
  pub serves : (at session).phase ≡ Transmission volume size (Listens manner)
  pub request : Request
  pub is_write : request.kind ≡ COMMAND_WRITE
  pub payload : List ℕ
  pub piece : List ℕ
  pub frame : IsRequest ((at session).held ++ piece) request payload
  pub sent : List ℕ
  pub ended : Bool
  pub turn : h.turn ≡ Hears session piece (length piece) sent ended

-- a sector, where the volume has it, is this one, or newer
abbrev pub IsThere : List Event → ℕ → ℕ → Sector → PlainPool → Type 0
IsThere later id k x P = (y : Sector) → volume_sector P id k ≡ Some y → (y ≡ x) ⊎ IsNewer later id k P

-- So it is behind turns, where one more may be in progress. told: the trace up to the answer of the request that wrote it.
abbrev pub IsKeptThere : {D : Type 0} → View D → Traced → Sessions → Traced → Option (Happened D) → ℕ → ℕ → Sector → PlainPool → Type 0
IsKeptThere view told at t None id k x P = (later : List Entry) × (t.trace ≡ told.trace ++ later) × IsThere (events_of later) id k x P
IsKeptThere view told at t (Some h) id k x P =
    (t' : Traced) × (later : List Entry) × TakesTurn outline_of_traced (TracedCall view.has_use) at t h.turn h.sessions t' × (t'.trace ≡ told.trace ++ later) × IsThere (events_of later) id k x P
