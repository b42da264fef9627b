-- Trusted reading: a pool that is opened on a disk, and why one is not (own).
use Rattle.std.specs.Prelude.{◌≡◌, ◌≢◌, ◌≤◌, IsTrue, [], not}
use Rattle.tp_model.specs.declared.refusal.Refusal.{Refusal}
use Rattle.tp_model.specs.declared.refusal.Refusal.TheVariants.{Fault, Memory}
use Rattle.tp_model.specs.Refusals.{is_fault_refusal}
use Rattle.tp_model.specs.Clauses.{IsOpened}
use Rattle.tp_model.specs.Disk.{DiskState, after_read, seen}
use Rattle.tp_meta.specs.declared.whole.Meta.{Meta}
use Rattle.tp_meta.specs.Opening.{IsUnopened}
use Rattle.tp_meta.specs.Standing.{StandsFor, changed_of, geometry_of, marks_of, room_of}
use Rattle.tp_pool.specs.Held.{IsSomePool}
use Rattle.tp_served.specs.Served.{Cached, cached, disk_of}

-- The pool was opened on this disk, whose state it has, and nobody holds a volume of it; it may keep 4 MiB of changed metadata blocks at least. Where the disk is honest, it shows each pool
-- for which the image on it stands.
pub record IsOpenedOn (before : DiskState) (c : Cached Meta) : Type 0 where
  pub disk_is : disk_of c ≡ before
  pub holders : c.besides.holders ≡ []
  pub room : 1024 ≤ c.cache.room
  pub opened : IsTrue before.is_honest → IsOpened (cached geometry_of StandsFor marks_of room_of changed_of) (seen before.cells) c

-- No pool was opened on this disk, of which there are reads alone: the disk failed, memory was refused, or, where it is honest, its image is none of a pool, and this is what is wrong with it.
pub record IsRefusedOn (before after : DiskState) (reason : Refusal) : Type 0 where
  pub why : reason ≢ Fault → reason ≢ Memory → IsTrue before.is_honest → IsUnopened (seen before.cells) reason
  pub none : reason ≢ Fault → reason ≢ Memory → IsTrue before.is_honest → IsSomePool (seen before.cells) → ⊥
  pub state : after ≡ after_read (not (is_fault_refusal reason)) before
