-- Trusted reading: the life of a pool on a disk, from its opening until the disk is handed back, and the life of a plain pool that it is (own).
use Rattle.std.specs.Prelude.{◌≡◌, ◌+◌, ◌≤◌, IsTrue, false, List, [], Option, Some, None, Result, Ok, Err}
use Rattle.tp_model.specs.declared.refusal.Refusal.{Refusal}
use Rattle.tp_model.specs.Sectors.{Sector}
use Rattle.tp_model.specs.Pool.{PlainPool}
use Rattle.tp_model.specs.Calls.{Answer, Close, Done, Refused, is_failed}
use Rattle.tp_model.specs.PoolStops.{MayBeLeftSince, reopened}
use Rattle.tp_model.specs.Clauses.{IsTrace, Traced, TracedCall, events_of, failed_in, outline_of_traced, traced}
use Rattle.tp_model.specs.Disk.{DiskState, IsSettled, seen}
use Rattle.tp_model.specs.DiskStops.{StoppedSince, moment}
use Rattle.tp_image.specs.Stands as images
use Rattle.nbd_session.specs.Turns.{closed}
use Rattle.tp_hub.specs.Serving.{AllLeave, AllLeaveSo, HubState, Slots, sessions_of}
use Rattle.tp_hub.specs.Desks.{AreAsked, Exchange}
use Rattle.tp_hub.specs.Serve.{HubRuns, PlainRuns}
use Rattle.tp_meta.specs.declared.whole.Meta.{Meta}
use Rattle.tp_meta.specs.Standing.{StandsFor, changed_of, geometry_of, marks_of, room_of}
use Rattle.tp_pool.specs.Held.{HasUse, IsSomePool}
use Rattle.tp_served.specs.Served.{Cached, IsClosed, cached, disk_of}
use Rattle.tp_commands.specs.First.{IsFirst}
use Rattle.tp_commands.specs.Opening.{IsOpenedOn}

-- ---- how a disk is handed back

-- the answer of closing that a result tells
abbrev pub closing_of : Result (Unit {0}) Refusal → Answer
closing_of (Ok done) = Done
closing_of (Err reason) = Refused reason

-- The pool is closed with this answer; or, without one, it is let go as it is.
abbrev pub HandsBack : Cached Meta → Option Answer → DiskState → Type 0
HandsBack last None after = after ≡ disk_of last
HandsBack last (Some answer) after = IsClosed geometry_of StandsFor marks_of room_of changed_of last after answer

-- the same of the plain pool
abbrev pub EndsPlainly : Traced → Option Answer → Traced → Type 0
EndsPlainly left None over = over ≡ left
EndsPlainly left (Some answer) over = TracedCall HasUse left Close answer over

-- ---- a life

-- A hub without sessions is made of the pool, and asked so, one ask behind the other. Then all sessions leave, and the disk is handed back.
pub record IsLife (opened : Cached Meta) (asks : List Exchange) (answer : Option Answer) (after : DiskState) : Type 0 where
  pub begun : HubState (Cached Meta)
  pub pool_is : begun.pool ≡ opened
  pub no_session : sessions_of begun.slots ≡ closed
  pub ended : HubState (Cached Meta)
  pub asked : AreAsked (HubRuns (cached geometry_of StandsFor marks_of room_of changed_of)) begun asks ended
  pub last : Cached Meta
  pub leave : AllLeave (cached geometry_of StandsFor marks_of room_of changed_of) (sessions_of ended.slots) ended.pool last
  pub back : HandsBack last answer after

-- ---- of a plain pool

-- The image is opened as some pool, and as no others than these.
pub record IsFoundAs (May : PlainPool → Type 0) (image : List Sector) : Type 0 where
  pub is_pool : IsSomePool image
  pub found : PlainPool
  pub stands_for : images.StandsFor image found
  pub only : (P : PlainPool) → images.StandsFor image P → May P

-- Nothing is lost by a stop any more, and the image is opened as this pool and no other.
pub record IsKept (s : PlainPool) (disk : DiskState) : Type 0 where
  pub honest : IsTrue disk.is_honest
  pub settled : IsSettled disk.cells
  pub found : IsFoundAs (λ P. P ≡ reopened s) (seen disk.cells)

-- The same was asked of a hub over the plain pool s, with these sessions before and behind it, and answered the same; they left then, and it ended with this answer. All of it is one
-- trace from s: each event in it has its answer and the faults that have their cause in it, as many calls of the disk failed, and a stop at any moment left what may be found there. Where
-- closing was done, the disk keeps the pool at the end of the trace; and it is honest still, unless the pool has failed.
pub record IsPlainLife (s : PlainPool) (begun ended : Slots) (asks : List Exchange) (answer : Option Answer) (before after : DiskState) : Type 0 where
  pub mid : Traced
  pub left : Traced
  pub over : Traced
  pub asked : AreAsked (PlainRuns (cached geometry_of StandsFor marks_of room_of changed_of)) (record { pool = traced s []; slots = begun }) asks (record { pool = mid; slots = ended })
  pub leave : AllLeaveSo outline_of_traced (TracedCall HasUse) (sessions_of ended) mid left
  pub ends : EndsPlainly left answer over
  pub is_trace : IsTrace HasUse s over.trace over.pool
  pub failures : after.failures ≡ before.failures + failed_in over.trace
  pub later : moment before ≤ moment after
  pub any_moment : (image : List Sector) → StoppedSince (moment before) after image → IsFoundAs (MayBeLeftSince (λ S. ⊥) s [] (events_of over.trace)) image
  pub honest : is_failed over.pool.mode ≡ false → IsTrue after.is_honest
  pub kept : answer ≡ Some Done → IsKept over.pool after

-- ---- on a disk

-- The pool was opened on this disk, lived so, and the disk was handed back. Where it was honest, and its image stands for a plain pool, that one lived so.
pub record IsLifeOn (before after : DiskState) (asks : List Exchange) (answer : Option Answer) : Type 0 where
  pub opened : Cached Meta
  pub opening : IsOpenedOn before opened
  pub life : IsLife opened asks answer after
  pub plainly : IsTrue before.is_honest → (s : PlainPool) → IsSomePool (seen before.cells) → images.StandsFor (seen before.cells) s
      → IsPlainLife s life.begun.slots life.ended.slots asks answer before after

-- The same of the pool in memory with one volume that reads zero.
pub record IsFirstLife (asks : List Exchange) (answer : Option Answer) : Type 0 where
  pub opened : Cached Meta
  pub after : DiskState
  pub life : IsLife opened asks answer after
  pub s : PlainPool
  pub first : IsFirst s
  pub plainly : IsPlainLife s life.begun.slots life.ended.slots asks answer (disk_of opened) after
