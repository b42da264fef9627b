-- Trusted reading: a hub that many ask, whose pool may be in the middle of a commit (own).
use Rattle.std.specs.Prelude.{◌≡◌, ◌<◌, ℕ, Bool, true, false, List, [], ◌⊎◌, Option, Some, None, Result, Ok, Err}
use Rattle.tp_model.specs.declared.refusal.Refusal.{Refusal}
use Rattle.tp_model.specs.Clauses.{View}
use Rattle.tp_msg.specs.declared.message.Message.{Message}
use Rattle.tp_msg.specs.Messages.{reading}
use Rattle.nbd_session.specs.Flushes.{IsAtFlush}
use Rattle.nbd_session.specs.Session.{State, is_to_flush}
use Rattle.nbd_session.specs.Turns.{Sessions}
use Rattle.tp_hub.specs.declared.event.Event.{Event}
use Rattle.tp_hub.specs.declared.event.Event.TheVariants as kinds
use Rattle.tp_hub.specs.declared.hub.Ran.{Ran}
use Rattle.tp_hub.specs.declared.staged.Stage.{Stage}
use Rattle.tp_hub.specs.declared.staged.Stage.TheVariants.{Whole, Midway, Away}
use Rattle.tp_hub.specs.Told.{Told}
use Rattle.tp_hub.specs.Runs.{Incoming}
use Rattle.tp_hub.specs.Desks.{AreAsked, Exchange, IsAsked}
use Rattle.tp_hub.specs.Flushes.{IsHubFlushed}
use Rattle.tp_hub.specs.Serve.{HubRuns}
use Rattle.tp_hub.specs.Serving.{HubState, Serves, Slots, sessions_of}
use Rattle.tp_hub.specs.Unkept.{IsHubOrdered, IsUnkept}

-- A hub came of such a one by asks one behind the other, each of which was one run of it.
pub record IsFrom {D : Type 0} (view : View D) (IsStart : HubState D → Type 0) (now : HubState D) : Type 0 where
  pub start : HubState D
  pub is_start : IsStart start
  pub asks : List Exchange
  pub asked : AreAsked (HubRuns view) start asks now

-- ---- how far it is

-- No commit is under way; or a flush is, or the flush that keeps a message. hub: the one that READs see. left: so many parts of it are left at most.
pub data Standing (D : Type 0) : Type 0 where
  Idle : (hub : HubState D) → Standing D
  Keeping : (hub : HubState D) (left : ℕ) → Standing D
  Ordering : (message : Message) (hub : HubState D) (left : ℕ) → Standing D
  -- never between two calls
  Nowhere : Standing D

abbrev pub slots_of : {D : Type 0} → Standing D → Slots
slots_of (Idle hub) = hub.slots
slots_of (Keeping hub left) = hub.slots
slots_of (Ordering message hub left) = hub.slots
slots_of Nowhere = []

-- the hub that READs see
abbrev pub IsOf : {D : Type 0} → HubState D → Standing D → Type 0
IsOf seen (Idle hub) = hub ≡ seen
IsOf seen (Keeping hub left) = hub ≡ seen
IsOf seen (Ordering message hub left) = hub ≡ seen
IsOf seen Nowhere = ⊥

abbrev pub is_ordering : {D : Type 0} → Standing D → Bool
is_ordering (Idle hub) = false
is_ordering (Keeping hub left) = false
is_ordering (Ordering message hub left) = true
is_ordering Nowhere = false

-- ---- what asks for a commit

-- A session makes a FLUSH next by a piece: one stands whole at its front, or one is left of the session's request and the piece has no bytes.
abbrev pub MakesFlush : State → List ℕ → Type 0
MakesFlush session piece = IsAtFlush session piece ⊎ ((piece ≡ []) × (is_to_flush session.phase ≡ true))

-- a line that is a message asks for a commit, and so does what asks for a flush
abbrev pub AsksCommit : Sessions → Event → Type 0
AsksCommit at (kinds.Message line) = (message : Message) × (reading line.now ≡ Ok message)
AsksCommit at (kinds.Parted session piece) = MakesFlush (at session) piece.now
AsksCommit at kinds.Flush = Unit {0}
AsksCommit at (kinds.Open session profile) = ⊥
AsksCommit at (kinds.Bytes session piece) = ⊥
AsksCommit at (kinds.Hangup session) = ⊥
AsksCommit at kinds.Status = ⊥
AsksCommit at (kinds.ThinStatus volume) = ⊥
AsksCommit at (kinds.Size volume) = ⊥
AsksCommit at (kinds.Map volume from) = ⊥
AsksCommit at (kinds.Delta old new from) = ⊥

-- the message that the commit for an event keeps, if it keeps one
abbrev pub read_in : Result Message Refusal → Option Message
read_in (Ok message) = Some message
read_in (Err reason) = None

abbrev pub message_in : Event → Option Message
message_in (kinds.Message line) = read_in (reading line.now)
message_in (kinds.Open session profile) = None
message_in (kinds.Bytes session piece) = None
message_in (kinds.Parted session piece) = None
message_in (kinds.Hangup session) = None
message_in kinds.Status = None
message_in (kinds.ThinStatus volume) = None
message_in (kinds.Size volume) = None
message_in (kinds.Map volume from) = None
message_in (kinds.Delta old new from) = None
message_in kinds.Flush = None

-- no commit is under way but one that keeps what this event asks for
abbrev pub IsForEvent : {D : Type 0} → Event → Standing D → Type 0
IsForEvent event (Idle hub) = Unit {0}
IsForEvent event (Keeping hub left) = message_in event ≡ None
IsForEvent event (Ordering message hub left) = message_in event ≡ Some message
IsForEvent event Nowhere = ⊥

-- a part of a commit is to be made for an event: it asks for one, and no other is under way
abbrev pub MayKeep : {D : Type 0} → Event → Standing D → Type 0
MayKeep event s = AsksCommit (sessions_of (slots_of s)) event × IsForEvent event s

-- how often a commit flushes the disk at most: twice, and twice more before a message that wants blocks which another commit frees
abbrev pub most_kept : Option Message → ℕ
most_kept None = 2
most_kept (Some message) = 4

-- how many parts are left at most of the commit that is under way, if any
abbrev pub parts_of : {D : Type 0} → Standing D → Option ℕ
parts_of (Idle hub) = None
parts_of (Keeping hub left) = Some left
parts_of (Ordering message hub left) = Some left
parts_of Nowhere = None

-- Parts are left, and fewer than there were, if there were any.
abbrev pub HasFewer : Option ℕ → Option ℕ → Type 0
HasFewer before None = ⊥
HasFewer None (Some left) = Unit {0}
HasFewer (Some most) (Some left) = left < most

-- ---- what its fields stand for

abbrev pub hub_at : {D : Type 0} → D → Slots → HubState D
hub_at p slots = record { pool = p; slots = slots }

-- in the middle of a commit that keeps a message, if it does
abbrev pub midway : {D : Type 0} → Option Message → HubState D → ℕ → Standing D
midway None hub left = Keeping hub left
midway (Some message) hub left = Ordering message hub left

-- of: the pool whose flush one in the middle of it is. left: how many parts of it are left at most.
abbrev pub standing : {D M : Type 0} → (M → D) → (M → ℕ) → Stage D M → Slots → Option Message → Standing D
standing of left (Whole p) slots order = Idle (hub_at p slots)
standing of left (Midway m) slots order = midway order (hub_at (of m) slots) (left m)
standing of left Away slots order = Nowhere

-- some line was the message that is under way, if any
abbrev pub IsRead : {D : Type 0} → Standing D → Type 0
IsRead (Idle hub) = Unit {0}
IsRead (Keeping hub left) = Unit {0}
IsRead (Ordering message hub left) = (line : List ℕ) × (reading line ≡ Ok message)
IsRead Nowhere = ⊥

module _ {D : Type 0} (view : View D) where
  -- the hub before the commit that is under way, if any
  abbrev pub IsBefore : HubState D → Standing D → Type 0
  IsBefore old (Idle hub) = hub ≡ old
  IsBefore old (Keeping hub left) = hub ≡ old
  IsBefore old (Ordering message hub left) = IsUnkept view old message hub
  IsBefore old Nowhere = ⊥

  -- the hub behind all that is left of it
  abbrev pub IsSettled : Standing D → HubState D → Type 0
  IsSettled (Idle hub) new = new ≡ hub
  IsSettled (Keeping hub left) new = (answer : Result (Unit {0}) Refusal) × IsHubFlushed view hub new answer
  IsSettled (Ordering message hub left) new = (answer : Result (Unit {0}) Refusal) × ((old : HubState D) → IsUnkept view old message hub → IsHubOrdered view old message new answer)
  IsSettled Nowhere new = ⊥

  -- An event was answered, by one run of the hub before the commit; or nothing was answered, and that hub is the same.
  abbrev pub IsKeptFor : HubState D → Incoming → Option Ran → Told → Told → Standing D → Type 0
  IsKeptFor old event None before after s = IsBefore old s × (after ≡ before)
  IsKeptFor old event (Some ran) before after s =
      (new : HubState D) × (s ≡ Idle new) × Serves (view.outline new.pool) (view.more new.pool) new.slots
      × IsAsked (λ took answers. HubRuns view old took answers new) event ran.events ran.bytes before after

  -- The hub before the commit came of such a start, and some line was the message that is under way.
  pub record Stands (IsStart : HubState D → Type 0) (s : Standing D) : Type 0 where
    pub old : HubState D
    pub before : IsBefore old s
    pub serves : Serves (view.outline old.pool) (view.more old.pool) old.slots
    pub from : IsFrom view IsStart old
    pub read : IsRead s
