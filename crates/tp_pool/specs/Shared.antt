-- Trusted reading: shared reads of a pool (own).
use Rattle.std.specs.Prelude.{ℕ, Bool, List}
use Rattle.tp_model.specs.Geometry.{Geometry}
use Rattle.tp_model.specs.Sectors.{Sector}
use Rattle.tp_model.specs.Calls.{Answer, Call, Gave, Read}
use Rattle.tp_model.specs.Clauses.{Flushes, IsAnswered}
use Rattle.tp_model.specs.Disk.{DiskState}
use Rattle.tp_stored.specs.Contents.{Contents}
use Rattle.tp_pool.specs.Flushes.{served}
use Rattle.tp_pool.specs.Held.{Held, PoolCalled, view}

-- geometry, stands, marks, room and changed: of the metadata.
module _ {M : Type 0} (geometry : M → Geometry) (stands : M → DiskState → Contents → Contents → Type 0) (marks : M → List Bool) (room : M → ℕ) (changed : M → Bool) where
  -- A read that is accepted with these sectors and leaves the pool as it is, to the last count.
  pub record IsSharedRead (h : Held M) (id sector count : ℕ) (sectors : List Sector) : Type 0 where
    pub called : PoolCalled geometry stands h h (Read id sector count) (Gave sectors)
    pub answered : IsAnswered (view geometry stands) h h (Read id sector count) (Gave sectors)
    pub flushes : Flushes (served geometry stands marks room changed) h h (Read id sector count) (Gave sectors)

  -- The same of any call that is accepted with this answer.
  pub record IsSharedCall (h : Held M) (call : Call) (answer : Answer) : Type 0 where
    pub called : PoolCalled geometry stands h h call answer
    pub answered : IsAnswered (view geometry stands) h h call answer
    pub flushes : Flushes (served geometry stands marks room changed) h h call answer
