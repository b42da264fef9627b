-- Trusted reading: a flush of a pool that is made in parts (own).
use Rattle.std.specs.Prelude.{◌≡◌, ℕ, ◌≤◌, Bool, List, MatchResult, Result}
use Rattle.tp_model.specs.declared.mode.Mode.TheVariants as mode
use Rattle.tp_model.specs.declared.refusal.Refusal.{Refusal}
use Rattle.tp_model.specs.Geometry.{Geometry, sectors_of_image}
use Rattle.tp_model.specs.Calls.{Done, Flush, Refused}
use Rattle.tp_model.specs.Clauses.{Meets}
use Rattle.tp_model.specs.Disk.{DiskState, IsWellFormed}
use Rattle.tp_stored.specs.Contents.{Contents}
use Rattle.tp_meta.specs.Metadata.{IsBetween}
use Rattle.tp_pool.specs.Flushes.{served}
use Rattle.tp_pool.specs.Held.{Held}

-- geometry, stands, tells, midway, marks, room and changed: of the metadata.
module _ {M : Type 0} (geometry : M → Geometry) (stands : M → DiskState → Contents → Contents → Type 0) where
  -- A flush was begun of the pool when it was `old`, and has come so far, with its disk as it is now. Nothing else has changed.
  pub record IsMidFlush (tells : M → DiskState → Contents → Contents → Type 0) (midway : M → Bool → DiskState → DiskState → Type 0) (old : Held M) (is_named : Bool) (disk : DiskState) : Type 0 where
    pub works : old.mode ≡ mode.Writable
    pub stage : midway old.metadata is_named old.disk disk
    pub between : IsBetween geometry stands tells old.metadata old.disk disk
    pub formed : IsWellFormed old.disk.size old.disk.cells
    pub room : sectors_of_image (geometry old.metadata) ≤ old.disk.size

  -- The pool was flushed, with this answer.
  abbrev pub IsFlushed : (M → List Bool) → (M → ℕ) → (M → Bool) → Held M → Held M → Result (Unit {0}) Refusal → Type 0
  IsFlushed marks room changed old new result =
      MatchResult result (λ _. Meets (served geometry stands marks room changed) old new Flush Done) (λ reason. Meets (served geometry stands marks room changed) old new Flush (Refused reason))
