-- Internal: what one event makes of the place of its session.
use Rattle.std.specs.Prelude.{◌≡◌, ◌≢◌, ℕ, ◌<◌, ◌≤◌, Bool, true, false, List, [], ◌∷◌, length, take, Option, Some, None, Result, slice_set, if◌then◌else◌, ◌==◌, ◌⊎◌}
use Rattle.tp_model.specs.declared.refusal.Refusal.{Refusal}
use Rattle.tp_model.specs.Pool.{Outline}
use Rattle.tp_model.specs.Calls.{Call}
use Rattle.tp_model.specs.Calls as calls
use Rattle.tp_model.specs.Clauses.{PoolCall, View}
use Rattle.tp_pages.specs.Pages.{AreMade, Question}
use Rattle.nbd_session.specs.declared.phase.Phase.TheVariants.{Ended}
use Rattle.nbd_session.specs.Session.{State, state, has_ended, is_at_work}
use Rattle.nbd_session.specs.Clauses.{Advances, IsReady}
use Rattle.nbd_session.specs.Turns.{AreTurns, Happened, Sessions, pool_after, sessions_after}
use Rattle.tp_hub.specs.declared.slot.Heard.{Heard}
use Rattle.tp_hub.specs.declared.slot.Heard.TheVariants.{Whole, Over, Stopped, Parted}
use Rattle.tp_hub.specs.Told.{Answer, Told, Grows, IsFull}
use Rattle.tp_hub.specs.Desks.{IsAsked, RunsSo}
use Rattle.tp_hub.specs.Runs.{Brings, Incoming, IsPart, IsShort, Runs, TakesText, answers_in, front_of, session_in, told_page}
use Rattle.tp_hub.specs.Serving.{Serves, Slots, sessions_of, shown, slot_at}

-- a place whose session may take a step, or that has none
abbrev pub IsReadySlot : Option State → Outline → (ℕ → ℕ) → Type 0
IsReadySlot None o more = Unit {0}
IsReadySlot (Some s) o more = IsReady s.phase o more × (has_ended s.phase ≡ false)

abbrev pub IsOpenSlot : Option State → Type 0
IsOpenSlot None = Unit {0}
IsOpenSlot (Some s) = has_ended s.phase ≡ false

-- no part of a request of what stands at a place is left
abbrev pub IsIdleSlot : Option State → Type 0
IsIdleSlot slot = is_at_work (shown slot).phase ≡ false

-- the same sessions but for one
abbrev pub put : Sessions → ℕ → State → Sessions
put at n s i = if i == n then s else at i

-- an event, or so many bytes of it
abbrev pub taken_part : Incoming → Bool → ℕ → List Incoming
taken_part event true bytes = event ∷ []
taken_part event false bytes = front_of event bytes

-- an event that was taken whole, as a number of events
abbrev pub one_if : Bool → ℕ
one_if whole = if whole then 1 else 0

-- what was taken of it leaves its session so
abbrev pub IsTaken : Sessions → Incoming → Bool → ℕ → Told → Type 0
IsTaken at event true bytes out = bytes ≡ 0
IsTaken at event false bytes out = IsPart at event bytes × IsShort at event bytes out

-- So many bytes of a piece, as events and bytes of the next: the whole piece is one event.
abbrev pub IsRan : ℕ → ℕ → ℕ → ℕ → Type 0
IsRan taken len events bytes = ((taken < len) × (events ≡ 0) × (bytes ≡ taken)) ⊎ ((taken ≡ len) × (events ≡ 1) × (bytes ≡ 0))

-- so many bytes of a piece of this length were taken, or all of it
abbrev pub IsRest : Bool → ℕ → ℕ → ℕ → Type 0
IsRest true left bytes len = (bytes ≡ len) × (left ≡ 0)
IsRest false left bytes len = (bytes ≢ len) × (left ≡ bytes)

module _ {D : Type 0} (view : View D) where
  -- a session, from these sessions on, took a text, turn by turn
  pub record Hears (n : ℕ) (old : State) (p : D) (text : List ℕ) (before after : Told) (new : State) (p' : D) (at : Sessions) : Type 0 where
    pub turns : List (Happened D)
    pub are : AreTurns view.outline (PoolCall view) at p turns
    pub takes : TakesText at n text turns
    pub sessions_are : sessions_after at turns ≡ put at n new
    pub pool_is : pool_after p turns ≡ p'
    pub adds : Grows before after (answers_in turns)

  -- the same from any sessions of which it is one
  abbrev pub HearsAnywhere : ℕ → State → D → List ℕ → Told → Told → State → D → Type 0
  HearsAnywhere n old p text before after new p' = (at : Sessions) → at n ≡ old → Hears n old p text before after new p' at

  -- where a place became another, what stood between the places and the pool stands again
  abbrev pub KeepsServing : ℕ → Option State → D → Option State → D → Type 0
  KeepsServing n old p new p' = (slots : Slots) → n < length slots → slot_at slots n ≡ old → Serves (view.outline p) (view.more p) slots → Serves (view.outline p') (view.more p') (slice_set slots n new)

  -- how much of a piece was heard, and whether parts of a request may be left
  abbrev pub HearsSo : ℕ → Bool → State → D → List ℕ → Told → Told → State → D → Heard → Type 0
  HearsSo n parted old p piece before after new p' Whole = HearsAnywhere n old p piece before after new p' × (has_ended new.phase ≡ false) × KeepsServing n (Some old) p (Some new) p'
  HearsSo n parted old p piece before after new p' Over =
      (at : ℕ) × HearsAnywhere n old p (take at piece) before after new p' × (new ≡ state Ended []) × KeepsServing n (Some old) p None p'
  HearsSo n parted old p piece before after new p' (Stopped at) =
      (at < length piece) × HearsAnywhere n old p (take at piece) before after new p' × (has_ended new.phase ≡ false) × KeepsServing n (Some old) p (Some new) p' × IsFull after
  HearsSo n parted old p piece before after new p' (Parted at) =
      (parted ≡ true) × (0 < at) × (at ≤ length piece) × HearsAnywhere n old p (take at piece) before after new p' × (has_ended new.phase ≡ false) × KeepsServing n (Some old) p (Some new) p'
      × (is_at_work new.phase ≡ true)

  -- So many bytes of a piece are a READ, or a BLOCK_STATUS, that was answered so, by which neither the session nor the pool changed.
  abbrev pub IsRead : State → D → List ℕ → ℕ → List ℕ → Type 0
  IsRead s p piece taken sent = (0 < taken) × Advances view s p piece taken sent false s p

  -- So much of a piece was taken, from these sessions and this pool to these again.
  abbrev pub IsAskedStill : ℕ → List ℕ → Sessions → D → ℕ → ℕ → Told → Told → Type 0
  IsAskedStill n piece at p events bytes before after = IsAsked (λ took answers. RunsSo view at p took answers at p) (Brings n piece) events bytes before after

  -- one event at the place of its session
  pub record SlotTakes (event : Incoming) (old : Option State) (p : D) (whole : Bool) (bytes : ℕ) (before after : Told) (new : Option State) (p' : D) : Type 0 where
    pub runs : (at : Sessions) → at (session_in event) ≡ shown old
        → Runs view.outline (PoolCall view) at p (taken_part event whole bytes) before after (put at (session_in event) (shown new)) p'
    pub part : (at : Sessions) → at (session_in event) ≡ shown new → IsTaken at event whole bytes after
    pub keeps : KeepsServing (session_in event) old p new p'

  -- one call was made, and its answer was told
  abbrev pub IsMade : (calls.Answer → List Answer → Type 0) → Call → D → Told → Told → D → Type 0
  IsMade Tells call p before after p' = (answer : calls.Answer) × (answers : List Answer) × PoolCall view p call answer p' × Tells answer answers × Grows before after answers

  -- the calls for a page were made, and it was told
  abbrev pub IsPageMade : (List Question → Result (List ℕ) Refusal → Type 0) → D → Told → Told → D → Type 0
  IsPageMade AsksFor p before after p' = (qs : List Question) × (said : Result (List ℕ) Refusal) × AreMade view p qs p' × AsksFor qs said × Grows before after (told_page said ∷ [])

  -- one event of the pool: the sessions are as before, whichever they are
  pub record PoolTakes (event : Incoming) (p : D) (whole : Bool) (bytes : ℕ) (before after : Told) (p' : D) : Type 0 where
    pub runs : (at : Sessions) → Runs view.outline (PoolCall view) at p (taken_part event whole bytes) before after at p'
    pub part : (at : Sessions) → IsTaken at event whole bytes after
    pub keeps : (slots : Slots) → Serves (view.outline p) (view.more p) slots → Serves (view.outline p') (view.more p') slots

  -- one event of all sessions
  pub record TakesEvent (event : Incoming) (old : Slots) (p : D) (whole : Bool) (bytes : ℕ) (before after : Told) (new : Slots) (p' : D) : Type 0 where
    pub runs : Runs view.outline (PoolCall view) (sessions_of old) p (taken_part event whole bytes) before after (sessions_of new) p'
    pub part : IsTaken (sessions_of new) event whole bytes after
    pub serves : Serves (view.outline p') (view.more p') new
