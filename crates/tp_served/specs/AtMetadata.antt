-- Trusted reading: the words of a pool on a cache that speak of its metadata, at a bound `M: Metadata` (own).
use Rattle.std.specs.Prelude.{Bool, Result}
use Rattle.tp_model.specs.declared.refusal.Refusal.{Refusal}
use Rattle.tp_model.specs.declared.volumes.Flushing.{Flushing}
use Rattle.tp_model.specs.Calls.{Answer, Call}
use Rattle.tp_model.specs.Clauses.{View}
use Rattle.tp_model.specs.Disk.{DiskState}
use Rattle.tp_meta.specs.declared.metadata.Metadata.{Ghosts}
use Rattle.tp_served.specs.Served.{Cached}
use Rattle.tp_served.specs.Midway.{Midst}
use Rattle.tp_served.specs.Served as served
use Rattle.tp_served.specs.Midway as midway

-- What each word says stands where it is defined over the single members of the bound.
abbrev pub cached : {M : Type 0} → Ghosts M → View (Cached M)
cached g = served.cached g.geometry g.stands g.marks g.room g.changed

abbrev pub StaysInPlace : {M : Type 0} → Ghosts M → Cached M → Cached M → Call → Type 0
StaysInPlace g = served.StaysInPlace g.geometry g.stands g.marks g.room g.changed

abbrev pub IsClosed : {M : Type 0} → Ghosts M → Cached M → DiskState → Answer → Type 0
IsClosed g = served.IsClosed g.geometry g.stands g.marks g.room g.changed

abbrev pub IsMidway : {M : Type 0} → Ghosts M → Cached M → Bool → Cached M → Type 0
IsMidway g = midway.IsMidway g.geometry g.stands g.tells g.midway

abbrev pub IsFlushed : {M : Type 0} → Ghosts M → Cached M → Cached M → Result (Unit {0}) Refusal → Type 0
IsFlushed g = midway.IsFlushed g.geometry g.stands g.marks g.room g.changed

abbrev pub IsFlushing : {M : Type 0} → Ghosts M → Cached M → Flushing (Cached M) (Midst M) → Type 0
IsFlushing g = midway.IsFlushing g.geometry g.stands g.marks g.room g.changed
