-- Trusted reading: the images that a stop may leave of a pool, in its calls and while one is made (own).
use Rattle.std.specs.Prelude.{◌⊎◌, ℕ, Bool, List, Err}
use Rattle.tp_model.specs.declared.refusal.Refusal.TheVariants.{NotAPool}
use Rattle.tp_model.specs.Geometry.{Geometry}
use Rattle.tp_model.specs.Sectors.{Sector}
use Rattle.tp_model.specs.Pool.{PlainPool}
use Rattle.tp_model.specs.Calls.{Answer, Call}
use Rattle.tp_model.specs.Clauses.{Called}
use Rattle.tp_model.specs.Disk.{DiskState}
use Rattle.tp_model.specs.DiskStops.{AfterStop, LeavesOnly, StoppedSince, moment}
use Rattle.tp_image.specs.Fresh.{empty_pool}
use Rattle.tp_image.specs.Slots.{Chooses}
use Rattle.tp_image.specs.Stands.{StandsFor}
use Rattle.tp_stored.specs.Contents.{Contents}
use Rattle.tp_pool.specs.Flushes.{PoolClosed}
use Rattle.tp_pool.specs.Held.{Held, IsPool, PoolCalled, moment_of, shows}
use Rattle.tp_served.specs.Served.{Cached, IsClosed, IsKnown, cached, disk_of, on_cache}

-- the slots say that there is no pool
abbrev pub SaysNoPool : List Sector → Type 0
SaysNoPool image = Chooses image (Err NotAPool)

-- the old pool, no pool, or the new one without volumes; each pool in an image of a commit
abbrev pub IsFormatted : Geometry → PlainPool → Geometry → List Sector → Type 0
IsFormatted g s made image = (IsPool g image × StandsFor image s) ⊎ SaysNoPool image ⊎ (IsPool made image × StandsFor image (empty_pool made))

-- geometry, stands, marks, room and changed: of the metadata.
module _ {M : Type 0} (geometry : M → Geometry) (stands : M → DiskState → Contents → Contents → Type 0) (marks : M → List Bool) (room : M → ℕ) (changed : M → Bool) where
  -- A stop may leave this image of a pool that shows some plain pool: between two calls, at a moment of a call, or while the pool is closed. Or at
  -- a moment of formatting over such a pool, and then the slots say that there is a pool.
  pub data IsLeft (image : List Sector) : Type 0 where
    at_rest : (h : Held M) (s : PlainPool) → shows geometry stands h s → AfterStop h.disk.cells image → IsLeft image
    in_call : (old new : Held M) (s : PlainPool) (call : Call) (answer : Answer) → shows geometry stands old s → PoolCalled geometry stands old new call answer
        → StoppedSince (moment_of old) new.disk image → IsLeft image
    in_close : (old : Held M) (disk : DiskState) (s : PlainPool) (answer : Answer) → shows geometry stands old s
        → PoolClosed geometry stands marks room changed old disk answer → StoppedSince (moment_of old) disk image → IsLeft image
    in_format : (old new : DiskState) (g made : Geometry) (s : PlainPool) → LeavesOnly old new (IsFormatted g s made) → StoppedSince (moment old) new image
        → (SaysNoPool image → ⊥) → IsLeft image

  -- The same of a pool on caches: what a stop may leave of the disk under them.
  pub data IsLeftUnder (image : List Sector) : Type 0 where
    under_rest : (c : Cached M) (s : PlainPool) → IsKnown geometry c → shows geometry stands (on_cache c) s → AfterStop (disk_of c).cells image → IsLeftUnder image
    under_call : (old new : Cached M) (s : PlainPool) (call : Call) (answer : Answer) → shows geometry stands (on_cache old) s
        → Called (cached geometry stands marks room changed) old new call answer → StoppedSince (moment (disk_of old)) (disk_of new) image → IsLeftUnder image
    under_close : (old : Cached M) (disk : DiskState) (s : PlainPool) (answer : Answer) → shows geometry stands (on_cache old) s
        → IsClosed geometry stands marks room changed old disk answer → StoppedSince (moment (disk_of old)) disk image → IsLeftUnder image
