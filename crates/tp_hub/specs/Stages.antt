-- Internal: the stage of a hub's pool, and a part of a commit.
use Rattle.std.specs.Prelude.{◌≡◌, ℕ, Bool, true, false, Option, Some, None, Result}
use Rattle.tp_model.specs.declared.refusal.Refusal.{Refusal}
use Rattle.tp_model.specs.declared.volumes.Flushing.{Flushing}
use Rattle.tp_model.specs.declared.volumes.Flushing.TheVariants as flushing
use Rattle.tp_model.specs.Clauses.{Unkept, View}
use Rattle.tp_model.specs.Flushing.{IsFlushed, LeavesFewer}
use Rattle.tp_msg.specs.declared.message.Message.{Message}
use Rattle.tp_msg.specs.Asked.{IsMessageBegun, call_of}
use Rattle.nbd_session.specs.Turns.{Sessions}
use Rattle.tp_hub.specs.declared.event.Event.{Event}
use Rattle.tp_hub.specs.declared.event.Event.TheVariants as kinds
use Rattle.tp_hub.specs.declared.hub.Ran.{Ran}
use Rattle.tp_hub.specs.declared.staged.Stage.{Stage}
use Rattle.tp_hub.specs.declared.staged.Stage.TheVariants.{Whole, Midway, Away}
use Rattle.tp_hub.specs.Told.{Told}
use Rattle.tp_hub.specs.Runs.{Incoming}
use Rattle.tp_hub.specs.Desks.{IsAsked, RunsSo}
use Rattle.tp_hub.specs.Serving.{HubState, Serves, Slots, sessions_of}
use Rattle.tp_hub.specs.Staged.{IsBefore, MakesFlush, Standing}

-- an event asks for a flush
abbrev pub IsFlushAsked : Sessions → Event → Type 0
IsFlushAsked at (kinds.Parted session piece) = MakesFlush (at session) piece.now
IsFlushAsked at kinds.Flush = Unit {0}
IsFlushAsked at (kinds.Open session profile) = ⊥
IsFlushAsked at (kinds.Bytes session piece) = ⊥
IsFlushAsked at (kinds.Hangup session) = ⊥
IsFlushAsked at (kinds.Message line) = ⊥
IsFlushAsked at kinds.Status = ⊥
IsFlushAsked at (kinds.ThinStatus volume) = ⊥
IsFlushAsked at (kinds.Size volume) = ⊥
IsFlushAsked at (kinds.Map volume from) = ⊥
IsFlushAsked at (kinds.Delta old new from) = ⊥

abbrev pub is_whole : {D M : Type 0} → Stage D M → Bool
is_whole (Whole p) = true
is_whole (Midway m) = false
is_whole Away = false

abbrev pub is_there : {D M : Type 0} → Stage D M → Bool
is_there (Whole p) = true
is_there (Midway m) = true
is_there Away = false

abbrev pub is_done : {D M : Type 0} → Flushing D M → Bool
is_done (flushing.Done p answer) = true
is_done (flushing.Midway m) = false

-- how many parts are left at most of the commit that is under way, if any
abbrev pub parts_at : {D M : Type 0} → (M → ℕ) → Stage D M → Option ℕ
parts_at left (Whole p) = None
parts_at left (Midway m) = Some (left m)
parts_at left Away = None

-- a flush is done, or fewer parts of it are left than there were, if there were any
abbrev pub IsFurther : {D M : Type 0} → (M → ℕ) → Option ℕ → Flushing D M → Type 0
IsFurther left None f = Unit {0}
IsFurther left (Some most) f = LeavesFewer left most f

-- the pool is this one, or in the middle of a flush of it
abbrev pub IsPool : {D M : Type 0} → (M → D) → D → Stage D M → Type 0
IsPool of old (Whole p) = p ≡ old
IsPool of old (Midway m) = of m ≡ old
IsPool of old Away = ⊥

-- a part of the commit that was asked for may be made: none is under way, or it is that one
abbrev pub IsFor : {D M : Type 0} → Stage D M → Option Message → Option Message → Type 0
IsFor (Whole p) order asked = Unit {0}
IsFor (Midway m) order asked = order ≡ asked
IsFor Away order asked = ⊥

module _ {D : Type 0} (view : View D) where
  -- the sessions serve the pool before the commit
  abbrev pub IsServing : Standing D → Type 0
  IsServing s = (old : HubState D) × IsBefore view old s × Serves (view.outline old.pool) (view.more old.pool) old.slots

  -- behind a part of a flush of this pool: its answer if no part is left
  abbrev pub IsParted : {M : Type 0} → (M → D) → D → Stage D M → Option (Result (Unit {0}) Refusal) → Type 0
  IsParted of old (Whole new) (Some answer) = IsFlushed view old new answer
  IsParted of old (Midway m) None = of m ≡ old
  IsParted of old (Whole new) None = ⊥
  IsParted of old (Midway m) (Some answer) = ⊥
  IsParted of old Away answer = ⊥

  -- behind all that is left of one
  abbrev pub IsBehind : {M : Type 0} → (M → D) → Stage D M → D → Type 0
  IsBehind of (Whole p) new = new ≡ p
  IsBehind of (Midway m) new = (answer : Result (Unit {0}) Refusal) × IsFlushed view (of m) new answer
  IsBehind of Away new = ⊥

  -- this pool is the one before a message that is to be made, or that is under way
  abbrev pub IsOrderPool : {M : Type 0} → (M → D) → Message → D → Stage D M → Type 0
  IsOrderPool of message old (Whole p) = p ≡ old
  IsOrderPool of message old (Midway m) = Unkept view old (of m) (call_of message)
  IsOrderPool of message old Away = ⊥

  -- behind a part of the message: its answer if no part is left
  abbrev pub IsOrderParted : {M : Type 0} → (M → D) → Message → D → Stage D M → Option (Result (Unit {0}) Refusal) → Type 0
  IsOrderParted of message old (Whole new) (Some answer) = IsMessageBegun view old new message (Some answer)
  IsOrderParted of message old (Midway m) None = Unkept view old (of m) (call_of message)
  IsOrderParted of message old (Whole new) None = ⊥
  IsOrderParted of message old (Midway m) (Some answer) = ⊥
  IsOrderParted of message old Away answer = ⊥

  -- an event was taken, by one run of the hub from this pool on
  abbrev pub IsKept : {M : Type 0} → D → Slots → Incoming → Ran → Told → Told → Stage D M → Slots → Type 0
  IsKept p slots event ran before after stage slots' =
      (q : D) × (stage ≡ Whole q) × Serves (view.outline q) (view.more q) slots' × IsAsked (λ took answers. RunsSo view (sessions_of slots) p took answers (sessions_of slots') q) event ran.events ran.bytes before after
