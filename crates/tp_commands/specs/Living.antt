-- Internal: the life of a pool that is open, before it is known of which plain pools it is one (own).
use Rattle.std.specs.Prelude.{◌≡◌, ◌⊎◌, List, Option, Some, None, Result}
use Rattle.tp_model.specs.declared.refusal.Refusal.{Refusal}
use Rattle.tp_model.specs.declared.refusal.Refusal.TheVariants.{Failed, Fault}
use Rattle.tp_model.specs.Pool.{PlainPool}
use Rattle.tp_model.specs.Calls.{Answer, Done, Refused}
use Rattle.tp_model.specs.PoolStops.{MayReopen, Nothing}
use Rattle.tp_model.specs.Clauses.{OpensSince, TracedCall, View, found_now, outline_of_traced}
use Rattle.tp_model.specs.Disk.{DiskState, IsSettled}
use Rattle.nbd_session.specs.Clauses.{GoesWithTrace}
use Rattle.nbd_session.specs.declared.phase.Profile.{Profile}
use Rattle.tp_cache.specs.Line.{IsLine}
use Rattle.tp_hub.specs.Serving.{AllLeave, AllLeaveSo, HubState, sessions_of}
use Rattle.tp_meta.specs.declared.whole.Meta.{Meta}
use Rattle.tp_meta.specs.Standing.{StandsFor, changed_of, geometry_of, marks_of, room_of}
use Rattle.tp_pool.specs.Held.{HasUse, shows}
use Rattle.tp_served.specs.Served.{Cached, cached, disk_of, on_cache}
use Rattle.tp_hub.specs.Desks.{Exchange}
use Rattle.tp_hub.specs.Streams.{StreamCall}
use Rattle.tp_hub.specs.declared.client.Carried.{Carried}
use Rattle.tp_commands.specs.Lives.{HandsBack, IsLife, IsPlainLife, closing_of}
use Rattle.tp_commands.specs.Serving.{IsFed, told_behind, told_of}

-- It shows this pool, and a stop leaves nothing else.
pub record IsJust {D : Type 0} (view : View D) (pool : D) (s : PlainPool) : Type 0 where
  pub shown : view.shows pool s
  pub opens : OpensSince view pool (view.moment pool)
  pub left : (S : PlainPool) → found_now view pool S → MayReopen s Nothing S

-- the answers of closing
abbrev pub IsOfClosing : Option Answer → Type 0
IsOfClosing None = Unit {0}
IsOfClosing (Some answer) = (answer ≡ Done) ⊎ (answer ≡ Refused Failed) ⊎ (answer ≡ Refused Fault)

-- All sessions of a hub left, and the disk of its pool was handed back.
pub record IsOver (hub : HubState (Cached Meta)) (answer : Option Answer) (after : DiskState) : Type 0 where
  pub last : Cached Meta
  pub leave : AllLeave (cached geometry_of StandsFor marks_of room_of changed_of) (sessions_of hub.slots) hub.pool last
  pub traced : GoesWithTrace (cached geometry_of StandsFor marks_of room_of changed_of) hub.pool last (λ t t'. AllLeaveSo outline_of_traced (TracedCall HasUse) (sessions_of hub.slots) t t')
  pub back : HandsBack last answer after
  pub line : answer ≡ None → IsLine last.cache.line
  pub settled : answer ≡ Some Done → (s : PlainPool) → shows geometry_of StandsFor (on_cache last) s → IsSettled after.cells
  pub known : IsOfClosing answer

-- A pool that was open was asked so, and its disk was handed back; and so was each plain pool that it was just.
pub record IsLived (opened : Cached Meta) (asks : List Exchange) (answer : Option Answer) (after : DiskState) : Type 0 where
  pub life : IsLife opened asks answer after
  pub plainly : (s : PlainPool) → IsJust (cached geometry_of StandsFor marks_of room_of changed_of) opened s
      → IsPlainLife s life.begun.slots life.ended.slots asks answer (disk_of opened) after

-- One client was served over an open pool, which was then closed.
abbrev pub FeedsPool : Profile → Cached Meta → List StreamCall → List StreamCall → Result (Unit {0}) Refusal → DiskState → Type 0
FeedsPool profile opened calls calls' result after =
    (asks : List Exchange) × (ending : Carried) × (closing : Result (Unit {0}) Refusal) × IsFed profile asks calls calls' ending × (result ≡ told_behind closing (told_of ending))
    × IsLived opened asks (Some (closing_of closing)) after
