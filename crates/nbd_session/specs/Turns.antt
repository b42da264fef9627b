-- Trusted reading: sessions of one pool, in turns, with calls from elsewhere between them; and the same through any number of stops (own).
use Rattle.std.specs.Prelude.{◌≡◌, ◌≢◌, ℕ, Bool, List, [], ◌∷◌, ◌++◌, Option, None, Some, if◌then◌else◌, ◌==◌}
use Rattle.tp_model.specs.Pool.{PlainPool, Outline}
use Rattle.tp_model.specs.Calls.{Call, Answer}
use Rattle.tp_model.specs.PoolStops.{MayBeLeftSince}
use Rattle.tp_model.specs.Clauses.{Continues, Entry, HasTrace, IsOpened, PoolCall, Traced, TracedCall, View, events_of, outline_of_traced, traced}
use Rattle.nbd_wire.specs.Replies.{greeting}
use Rattle.nbd_session.specs.declared.phase.Phase.TheVariants.{Flags, Ended}
use Rattle.nbd_session.specs.declared.phase.Profile.{Profile}
use Rattle.nbd_session.specs.Session.{State, state, LetsGo, Steps}

-- ---- turns

pub data Turn : Type 0 where
  -- a client comes, is offered so much, and is greeted
  Opens : (session : ℕ) (profile : Profile) (sent : List ℕ) → Turn
  -- a session takes so much of a piece, up to the end of one frame, and answers that frame, or makes one part of a long request
  Hears : (session : ℕ) (piece : List ℕ) (taken : ℕ) (sent : List ℕ) (ended : Bool) → Turn
  -- a client leaves
  Leaves : (session : ℕ) → Turn
  -- the pool is asked something that is no request of a session
  Asks : (call : Call) (answer : Answer) → Turn

-- what is sent to a session
abbrev pub sent_in : ℕ → Turn → List ℕ
sent_in n (Opens session profile sent) = if session == n then sent else []
sent_in n (Hears session piece taken sent ended) = if session == n then sent else []
sent_in n (Leaves session) = []
sent_in n (Asks call answer) = []

-- the states of all sessions, by their numbers: those that are not open have ended
abbrev pub Sessions : Type 0
Sessions = ℕ → State

abbrev pub closed : Sessions
closed n = state Ended []

-- a turn, and the sessions and the pool after it
pub record Happened (S : Type 0) : Type 0 where
  pub turn : Turn
  pub sessions : Sessions
  pub pool : S

abbrev pub sessions_after : {S : Type 0} → Sessions → List (Happened S) → Sessions
sessions_after at [] = at
sessions_after at (h ∷ hs) = sessions_after h.sessions hs

abbrev pub pool_after : {S : Type 0} → S → List (Happened S) → S
pool_after p [] = p
pool_after p (h ∷ hs) = pool_after h.pool hs

abbrev pub sent_to : {S : Type 0} → ℕ → List (Happened S) → List ℕ
sent_to n [] = []
sent_to n (h ∷ hs) = sent_in n h.turn ++ sent_to n hs

-- all sessions but this one are as before
abbrev pub Others : ℕ → Sessions → Sessions → Type 0
Others n at at' = (i : ℕ) → i ≢ n → at' i ≡ at i

-- S: pools. outline: a pool's geometry, mode and holds. Calls: that a call of a pool is given an answer, and leaves another pool.
module _ {S : Type 0} (outline : S → Outline) (Calls : S → Call → Answer → S → Type 0) where
  abbrev pub TakesTurn : Sessions → S → Turn → Sessions → S → Type 0
  TakesTurn at p (Opens n profile sent) at' p' = (p' ≡ p) × Others n at at' × (at n ≡ state Ended []) × (at' n ≡ state (Flags profile) []) × (sent ≡ greeting)
  TakesTurn at p (Hears n piece taken sent ended) at' p' = Steps outline Calls (at n) p piece taken sent ended (at' n) p' × Others n at at'
  TakesTurn at p (Leaves n) at' p' = LetsGo outline Calls (at n).phase p p' × Others n at at' × (at' n ≡ state Ended [])
  TakesTurn at p (Asks call answer) at' p' = Calls p call answer p' × ((i : ℕ) → at' i ≡ at i)

  -- turns one after another
  abbrev pub AreTurns : Sessions → S → List (Happened S) → Type 0
  AreTurns at p [] = Unit {0}
  AreTurns at p (h ∷ hs) = TakesTurn at p h.turn h.sessions h.pool × AreTurns h.sessions h.pool hs

module _ {D : Type 0} (view : View D) (from : D) (s : PlainPool) where
  -- Turns of a pool, and the same turns of the traced plain pool. At each place the pool has the trace up to there, and in each turn
  -- a stop leaves what may be found after the events before it and in its own.
  abbrev pub AreSame : D → Traced → List (Happened D) → List (Happened Traced) → Type 0
  AreSame d t [] [] = Unit {0}
  AreSame d t (h ∷ hs) (k ∷ ks) =
      (k.turn ≡ h.turn) × (k.sessions ≡ h.sessions) × HasTrace view from s h.pool k.pool × Continues view from s d t h.pool k.pool × AreSame h.pool k.pool hs ks
  AreSame d t _ _ = ⊥

-- ---- through stops

-- A pool as it was opened, turns that are over, one turn more that may be in progress, and what a stop since the last of them left.
pub record Life (D Image : Type 0) : Type 0 where
  pub opened : D
  pub turns : List (Happened D)
  pub current : Option (Happened D)
  pub image : Image

module _ {D : Type 0} (view : View D) where
  -- the image was left by a stop after the turns that are over, or in the one in progress
  abbrev pub StopsIn : Sessions → D → Option (Happened D) → view.Image → Type 0
  StopsIn at d None image = view.may_leave d image
  StopsIn at d (Some h) image = TakesTurn view.outline (PoolCall view) at d h.turn h.sessions h.pool × view.left_since h.pool (view.moment d) image

  pub record IsLife (image : view.Image) (l : Life D view.Image) : Type 0 where
    pub opening : IsOpened view image l.opened
    pub turning : AreTurns view.outline (PoolCall view) closed l.opened l.turns
    pub stop : StopsIn (sessions_after closed l.turns) (pool_after l.opened l.turns) l.current l.image

  abbrev pub AreLives : view.Image → List (Life D view.Image) → Type 0
  AreLives image [] = Unit {0}
  AreLives image (l ∷ ls) = IsLife image l × AreLives l.image ls

  -- P may be found after the events of the trace, or in those of the turn in progress.
  abbrev pub IsFoundIn : PlainPool → Sessions → Traced → Option (Happened D) → PlainPool → Type 0
  IsFoundIn s at t None P = MayBeLeftSince (λ S. ⊥) s (events_of t.trace) [] P
  IsFoundIn s at t (Some h) P =
      (t' : Traced) × (since : List Entry) × TakesTurn outline_of_traced (TracedCall view.has_use) at t h.turn h.sessions t'
      × (t'.trace ≡ t.trace ++ since) × MayBeLeftSince (λ S. ⊥) s (events_of t.trace) (events_of since) P

  -- A life from a plain pool is one of the traced plain pool: the same turns, so the same bytes and answers. What the stop left is opened as
  -- a pool that may be found after a stop there, and life goes on from that one.
  pub record IsRun (s : PlainPool) (l : Life D view.Image) (GoesOn : PlainPool → Type 0) : Type 0 where
    pub plainly : List (Happened Traced)
    pub turning : AreTurns outline_of_traced (TracedCall view.has_use) closed (traced s []) plainly
    pub same : AreSame view l.opened s l.opened (traced s []) l.turns plainly
    pub found : PlainPool
    pub stands_for : view.stands_for l.image found
    pub left : IsFoundIn s (sessions_after closed plainly) (pool_after (traced s []) plainly) l.current found
    pub goes_on : GoesOn found

  abbrev pub AreRuns : PlainPool → List (Life D view.Image) → Type 0
  AreRuns s [] = Unit {0}
  AreRuns s (l ∷ ls) = IsRun s l (λ P. AreRuns P ls)
