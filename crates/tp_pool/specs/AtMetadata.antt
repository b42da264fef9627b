-- Trusted reading: the words of a pool that speak of its metadata, at a bound `M: Metadata` (own).
use Rattle.std.specs.Prelude.{ℕ, Bool, List, Option, Result}
use Rattle.tp_model.specs.declared.refusal.Refusal.{Refusal}
use Rattle.tp_model.specs.Sectors.{Sector}
use Rattle.tp_model.specs.Pool.{PlainPool}
use Rattle.tp_model.specs.Calls.{Answer, Call}
use Rattle.tp_model.specs.Clauses.{View}
use Rattle.tp_model.specs.Disk.{DiskState}
use Rattle.tp_stored.specs.Contents.{Contents}
use Rattle.tp_meta.specs.declared.metadata.Metadata.{Ghosts}
use Rattle.tp_pool.specs.Held.{Held}
use Rattle.tp_pool.specs.Lives.{Life}
use Rattle.tp_pool.specs.Held as held
use Rattle.tp_pool.specs.Flushes as flushes
use Rattle.tp_pool.specs.Writing as writing
use Rattle.tp_pool.specs.Trimming as trimming
use Rattle.tp_pool.specs.Zeroing as zeroing
use Rattle.tp_pool.specs.Unkept as unkept
use Rattle.tp_pool.specs.Shared as shared
use Rattle.tp_pool.specs.Midway as midway
use Rattle.tp_pool.specs.Lives as lives

-- What each word says stands where it is defined over the single members of the bound.
abbrev pub shows : {M : Type 0} → Ghosts M → Held M → PlainPool → Type 0
shows g = held.shows g.geometry g.stands

abbrev pub LiesIn : {M : Type 0} → Ghosts M → Held M → ℕ → ℕ → Type 0
LiesIn g = held.LiesIn g.geometry g.stands

abbrev pub view : {M : Type 0} → Ghosts M → View (Held M)
view g = held.view g.geometry g.stands

abbrev pub PoolCalled : {M : Type 0} → Ghosts M → Held M → Held M → Call → Answer → Type 0
PoolCalled g = held.PoolCalled g.geometry g.stands

abbrev pub PoolRefused : {M : Type 0} → Ghosts M → Held M → Held M → Call → Refusal → Type 0
PoolRefused g = held.PoolRefused g.geometry g.stands

abbrev pub LacksRoom : {M : Type 0} → Ghosts M → Held M → Call → Type 0
LacksRoom g = held.LacksRoom g.geometry g.stands

abbrev pub PoolAnswered : {M : Type 0} → Ghosts M → Held M → Held M → Call → Result (Unit {0}) Refusal → Type 0
PoolAnswered g = held.PoolAnswered g.geometry g.stands

abbrev pub PoolTried : {M : Type 0} → Ghosts M → Held M → Held M → Call → Result (Unit {0}) Refusal → Type 0
PoolTried g = held.PoolTried g.geometry g.stands

abbrev pub AnswersSo : {M : Type 0} → Ghosts M → Held M → Held M → Call → Result (Unit {0}) Refusal → Type 0
AnswersSo g = held.AnswersSo g.geometry g.stands

abbrev pub HasFlushed : {M : Type 0} → Ghosts M → Held M → DiskState → Call → Type 0
HasFlushed g = flushes.HasFlushed g.geometry g.stands g.marks g.room

abbrev pub StaysInPlace : {M : Type 0} → Ghosts M → Held M → Held M → Call → Type 0
StaysInPlace g = flushes.StaysInPlace g.geometry g.stands g.marks g.room g.changed

abbrev pub served : {M : Type 0} → Ghosts M → View (Held M)
served g = flushes.served g.geometry g.stands g.marks g.room g.changed

abbrev pub FlushesSo : {M : Type 0} → Ghosts M → Held M → Held M → Call → Result (Unit {0}) Refusal → Type 0
FlushesSo g = flushes.FlushesSo g.geometry g.stands g.marks g.room g.changed

abbrev pub PoolClosed : {M : Type 0} → Ghosts M → Held M → DiskState → Answer → Type 0
PoolClosed g = flushes.PoolClosed g.geometry g.stands g.marks g.room g.changed

abbrev pub HasWritten : {M : Type 0} → Ghosts M → ℕ → ℕ → List Sector → M → DiskState → Contents → PlainPool → Type 0
HasWritten g = writing.HasWritten g.geometry g.stands g.marks

abbrev pub Mapped : {M : Type 0} → Ghosts M → ℕ → ℕ → ℕ → M → M → DiskState → Contents → Contents → Type 0
Mapped g = writing.Mapped g.geometry g.stands g.marks

abbrev pub HasWrittenPart : {M : Type 0} → Ghosts M → ℕ → ℕ → ℕ → ℕ → List Sector → Bool → M → M → DiskState → DiskState → Contents → Contents → Type 0
HasWrittenPart g = writing.HasWrittenPart g.geometry g.stands g.marks

abbrev pub LeavesHalf : {M : Type 0} → Ghosts M → ℕ → ℕ → List Sector → M → DiskState → DiskState → Type 0
LeavesHalf g = writing.LeavesHalf g.geometry g.stands g.marks

abbrev pub HasFree : {M : Type 0} → Ghosts M → ℕ → M → Contents → Contents → ℕ → ℕ → Type 0
HasFree g = writing.HasFree g.geometry g.stands g.marks

abbrev pub IsAsBefore : {M : Type 0} → Ghosts M → M → M → DiskState → DiskState → Type 0
IsAsBefore g = writing.IsAsBefore g.geometry g.stands g.marks

abbrev pub IsKept : {M : Type 0} → Ghosts M → M → M → DiskState → DiskState → Contents → Type 0
IsKept g = writing.IsKept g.geometry g.stands g.marks

abbrev pub HasUnmapped : {M : Type 0} → Ghosts M → ℕ → ℕ → ℕ → M → DiskState → Contents → Contents → Type 0
HasUnmapped g = trimming.HasUnmapped g.geometry g.stands g.marks

abbrev pub HasCleared : {M : Type 0} → Ghosts M → ℕ → ℕ → ℕ → M → M → DiskState → DiskState → Contents → Contents → Type 0
HasCleared g = zeroing.HasCleared g.geometry g.stands g.marks

abbrev pub HasZeroed : {M : Type 0} → Ghosts M → ℕ → ℕ → ℕ → ℕ → Bool → M → M → DiskState → DiskState → Contents → Contents → Type 0
HasZeroed g = zeroing.HasZeroed g.geometry g.stands g.marks

abbrev pub LeavesZeroes : {M : Type 0} → Ghosts M → ℕ → ℕ → ℕ → Bool → M → DiskState → DiskState → Contents → Contents → Type 0
LeavesZeroes g = zeroing.LeavesZeroes g.geometry g.stands g.marks

abbrev pub HasBlanked : {M : Type 0} → Ghosts M → ℕ → ℕ → ℕ → Bool → M → DiskState → Contents → PlainPool → Type 0
HasBlanked g = zeroing.HasBlanked g.geometry g.stands g.marks

abbrev pub HasFreeFor : {M : Type 0} → Ghosts M → ℕ → ℕ → ℕ → Bool → M → Contents → Contents → Type 0
HasFreeFor g = zeroing.HasFreeFor g.geometry g.stands g.marks

abbrev pub PoolBegun : {M : Type 0} → Ghosts M → Held M → Held M → Call → Result (Unit {0}) Refusal → Type 0
PoolBegun g = unkept.PoolBegun g.geometry g.stands g.marks g.room g.changed

abbrev pub IsMade : {M : Type 0} → Ghosts M → Held M → Held M → Call → Result (Unit {0}) Refusal → Type 0
IsMade g = unkept.IsMade g.geometry g.stands g.marks g.room g.changed

abbrev pub IsBegun : {M : Type 0} → Ghosts M → Held M → Held M → Call → Option (Result (Unit {0}) Refusal) → Type 0
IsBegun g = unkept.IsBegun g.geometry g.stands g.marks g.room g.changed

abbrev pub IsSharedRead : {M : Type 0} → Ghosts M → Held M → ℕ → ℕ → ℕ → List Sector → Type 0
IsSharedRead g = shared.IsSharedRead g.geometry g.stands g.marks g.room g.changed

abbrev pub IsSharedCall : {M : Type 0} → Ghosts M → Held M → Call → Answer → Type 0
IsSharedCall g = shared.IsSharedCall g.geometry g.stands g.marks g.room g.changed

abbrev pub IsMidFlush : {M : Type 0} → Ghosts M → Held M → Bool → DiskState → Type 0
IsMidFlush g = midway.IsMidFlush g.geometry g.stands g.tells g.midway

abbrev pub IsFlushed : {M : Type 0} → Ghosts M → Held M → Held M → Result (Unit {0}) Refusal → Type 0
IsFlushed g = midway.IsFlushed g.geometry g.stands g.marks g.room g.changed

abbrev pub IsReopenedFrom : {M : Type 0} → Ghosts M → List Sector → Held M → Type 0
IsReopenedFrom g = lives.IsReopenedFrom g.geometry g.stands

abbrev pub AreLives : {M : Type 0} → Ghosts M → List Sector → List (Life M) → Type 0
AreLives g = lives.AreLives g.geometry g.stands g.marks g.room g.changed

abbrev pub AreRuns : {M : Type 0} → Ghosts M → PlainPool → List (Life M) → Type 0
AreRuns g = lives.AreRuns g.geometry g.stands g.marks g.room g.changed
