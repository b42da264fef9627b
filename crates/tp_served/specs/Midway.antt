-- Trusted reading: a flush of a pool on a cache that is made in parts (own).
use Rattle.std.specs.Prelude.{◌≡◌, ℕ, Bool, true, false, List, Result}
use Rattle.tp_model.specs.declared.refusal.Refusal.{Refusal}
use Rattle.tp_model.specs.declared.volumes.Flushing.{Flushing}
use Rattle.tp_model.specs.Geometry.{Geometry}
use Rattle.tp_model.specs.Disk.{DiskState}
use Rattle.tp_model.specs.Flushing as flushes
use Rattle.tp_cache.specs.Table.{Since}
use Rattle.tp_stored.specs.Contents.{Contents}
use Rattle.tp_pool.specs.Midway.{IsMidFlush}
use Rattle.tp_served.specs.Served.{Cached, IsKnown, cached, on_cache}

-- What a pool in the midst of a flush shows: the pool as it was when the flush was begun, and how many parts are left at most.
pub record Midst (M : Type 0) : Type 0 where
  pub was : Cached M
  pub left : ℕ

-- behind the part that wrote the superblock there is the last one, and before it that one too
abbrev pub parts_left : Bool → ℕ
parts_left true = 1
parts_left false = 2

-- It is done, or fewer parts than so many are left.
abbrev pub LeavesFewer : {M : Type 0} → ℕ → Flushing (Cached M) (Midst M) → Type 0
LeavesFewer {M} most result = flushes.LeavesFewer (λ (m : Midst M). m.left) most result

-- geometry, stands, tells, midway, marks, room and changed: of the metadata.
module _ {M : Type 0} (geometry : M → Geometry) (stands : M → DiskState → Contents → Contents → Type 0) where
  -- A flush was begun of the pool when it was `old`, and has come so far: its cache went on, and nothing else has changed.
  pub record IsMidway (tells : M → DiskState → Contents → Contents → Type 0) (midway : M → Bool → DiskState → DiskState → Type 0) (old : Cached M) (is_named : Bool) (now : Cached M) : Type 0 where
    pub known : IsKnown geometry old
    pub since : Since old.cache now.cache
    pub besides : now.besides ≡ old.besides
    pub flush : IsMidFlush geometry stands tells midway (on_cache old) is_named now.cache.line.outer

  module _ (marks : M → List Bool) (room : M → ℕ) (changed : M → Bool) where
    -- One flush, with this answer.
    abbrev pub IsFlushed : Cached M → Cached M → Result (Unit {0}) Refusal → Type 0
    IsFlushed old new result = flushes.IsFlushed (cached geometry stands marks room changed) old new result

    -- It is done; or parts of it are left, and then all reads are still those of the pool before it.
    abbrev pub IsFlushing : Cached M → Flushing (Cached M) (Midst M) → Type 0
    IsFlushing old result = flushes.IsFlushing (cached geometry stands marks room changed) (λ (m : Midst M). m.was) old result
