-- Trusted reading: what those who lead a hub from life to life want to know (own).
use Rattle.std.specs.Prelude.{◌≡◌, IsTrue, List, [], ◌∷◌, None}
use Rattle.tp_model.specs.Sectors.{Sector}
use Rattle.tp_model.specs.Pool.{Outline, PlainPool}
use Rattle.tp_model.specs.Calls.{Call}
use Rattle.tp_model.specs.Calls as calls
use Rattle.tp_model.specs.Clauses.{IsOpened, View}
use Rattle.tp_model.specs.Disk.{DiskState, IsSettled, seen}
use Rattle.tp_model.specs.DiskStops.{AfterStop}
use Rattle.nbd_session.specs.Turns.{Sessions, closed, sessions_after}
use Rattle.tp_hub.specs.Told.{Grows, Told}
use Rattle.tp_hub.specs.Runs.{Incoming, Runs, answered_in, events_in, turns_in}
use Rattle.tp_hub.specs.Serving.{AllLeaveSo, AreLeaving}
use Rattle.tp_hub.specs.Lives.{ArePlainLives, HubLife}

-- A hub without sessions took these events and added their answers; then all its sessions ended. S: pools. outline: a pool's geometry, mode and holds.
-- Calls: that a call of a pool is given an answer, and leaves another pool.
pub record IsLed {S : Type 0} (outline : S → Outline) (Calls : S → Call → calls.Answer → S → Type 0) (p : S) (events : List Incoming) (before after : Told) (p' : S) : Type 0 where
  pub at : Sessions
  pub mid : S
  pub runs : Runs outline Calls closed p events before after at mid
  pub leaves : AllLeaveSo outline Calls at mid p'

-- The disk that a stop left: a settled one, with an image that a stop may leave.
pub record IsStopped (old new : DiskState) : Type 0 where
  pub honest : IsTrue new.is_honest
  pub settled : IsSettled new.cells
  pub left : AfterStop old.cells (seen new.cells)

-- The pool was opened from an image that stands for this plain pool.
pub record IsOpenedAs {D : Type 0} (view : View D) (s : PlainPool) (d : D) : Type 0 where
  pub image : view.Image
  pub stands : view.stands_for image s
  pub opened : IsOpened view image d

-- In a life these events were taken and this was answered; then all sessions ended, and a stop came, with nothing in progress.
pub record Tells {D Image : Type 0} (l : HubLife D Image) (events : List Incoming) (before after : Told) : Type 0 where
  pub took : events_in l.served ≡ events
  pub told : Grows before after (answered_in l.served)
  pub ends : AreLeaving (sessions_after closed (turns_in l.served)) l.turns
  pub done : l.current ≡ None

-- Two lives from a plain pool, the second from what the first one's stop left: both are lives of the plain hub. Their events and answers are these, and this
-- image is what the last stop left.
pub record AreTwoLives {D : Type 0} (view : View D) (s : PlainPool) (events more : List Incoming) (before after again last : Told) (image : view.Image) : Type 0 where
  pub first : HubLife D view.Image
  pub second : HubLife D view.Image
  pub plain : ArePlainLives view s (first ∷ second ∷ [])
  pub first_tells : Tells first events before after
  pub second_tells : Tells second more again last
  pub image_is : second.image ≡ image
