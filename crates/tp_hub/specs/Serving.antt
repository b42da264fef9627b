-- Trusted reading: sessions by their places, and what stands between them and the pool that they share (own).
use Rattle.std.specs.Prelude.{◌≡◌, ℕ, false, List, [], ◌∷◌, ◌++◌, length, Option, Some, None, slice_index_or}
use Rattle.tp_model.specs.Geometry.{Geometry}
use Rattle.tp_model.specs.Pool.{Outline}
use Rattle.tp_model.specs.Calls.{Call}
use Rattle.tp_model.specs.Calls as calls
use Rattle.tp_model.specs.Clauses.{PoolCall, View}
use Rattle.nbd_session.specs.declared.phase.Phase.{Phase}
use Rattle.nbd_session.specs.declared.phase.Phase.TheVariants.{Flags, Options, Transmission, Ended}
use Rattle.nbd_session.specs.Requests.{known_bytes}
use Rattle.nbd_session.specs.Session.{State, state, has_ended, volumes_in}
use Rattle.nbd_session.specs.Clauses.{IsCalm}
use Rattle.nbd_session.specs.Turns.{AreTurns, Happened, Leaves, Sessions, closed, pool_after, sessions_after}
use Rattle.tp_holders.specs.Holders.{counts_of}

-- ---- sessions by their places

-- what stands at a place: a session that is open
abbrev pub Slots : Type 0
Slots = List (Option State)

-- one that is not open has ended
abbrev pub shown : Option State → State
shown None = state Ended []
shown (Some s) = s

abbrev pub slot_at : Slots → ℕ → Option State
slot_at slots n = slice_index_or slots n None

-- all sessions, by their numbers
abbrev pub sessions_of : Slots → Sessions
sessions_of slots n = shown (slot_at slots n)

-- ---- what they hold

abbrev pub volumes_at : Option State → List ℕ
volumes_at None = []
volumes_at (Some s) = volumes_in s.phase

-- the volumes that the sessions hold, in the order of their places
abbrev pub held_by : Slots → List ℕ
held_by [] = []
held_by (slot ∷ slots) = volumes_at slot ++ held_by slots

-- a session that goes on, over a pool of this geometry, of whose volumes so many sectors more than its own size are known
abbrev pub GoesOn : Geometry → (ℕ → ℕ) → Phase → Type 0
GoesOn g more (Flags profile) = Unit {0}
GoesOn g more (Options terms) = Unit {0}
GoesOn g more (Transmission volume size course) = size ≡ known_bytes g more volume
GoesOn g more Ended = ⊥

abbrev pub IsSlot : Geometry → (ℕ → ℕ) → Option State → Type 0
IsSlot g more None = Unit {0}
IsSlot g more (Some s) = GoesOn g more s.phase × IsCalm s

-- 64 places, whose sessions are open, know the sizes of their volumes, and hold all that is held of the pool.
pub record Serves (outline : Outline) (more : ℕ → ℕ) (slots : Slots) : Type 0 where
  pub count : length slots ≡ 64
  pub holds : outline.holds ≡ counts_of (held_by slots)
  pub each : (n : ℕ) → IsSlot outline.geometry more (slot_at slots n)

-- what a hub shows
pub record HubState (D : Type 0) : Type 0 where
  pub pool : D
  pub slots : Slots

-- ---- the end of all

-- turns in which sessions that are open leave, and no others
abbrev pub AreLeaving : {S : Type 0} → Sessions → List (Happened S) → Type 0
AreLeaving at [] = Unit {0}
AreLeaving at (h ∷ hs) = (n : ℕ) × (has_ended (at n).phase ≡ false) × (h.turn ≡ Leaves n) × AreLeaving h.sessions hs

-- S: pools. outline: a pool's geometry, mode and holds. Calls: that a call of a pool is given an answer, and leaves another pool.
module _ {S : Type 0} (outline : S → Outline) (Calls : S → Call → calls.Answer → S → Type 0) where
  -- Sessions leave, one after another, and nothing else is done.
  pub record LeaveSo (at : Sessions) (p : S) (at' : Sessions) (p' : S) : Type 0 where
    pub turns : List (Happened S)
    pub are : AreTurns outline Calls at p turns
    pub leaving : AreLeaving at turns
    pub sessions_are : sessions_after at turns ≡ at'
    pub pool_is : pool_after p turns ≡ p'

  -- all that are open leave
  abbrev pub AllLeaveSo : Sessions → S → S → Type 0
  AllLeaveSo at p p' = LeaveSo at p closed p'

-- the same over a pool that serves
abbrev pub LeaveTo : {D : Type 0} → View D → Sessions → D → Sessions → D → Type 0
LeaveTo view = LeaveSo view.outline (PoolCall view)

abbrev pub AllLeave : {D : Type 0} → View D → Sessions → D → D → Type 0
AllLeave view = AllLeaveSo view.outline (PoolCall view)
