-- Trusted reading: what the commands on an image do to its disk or find of it, and what they print (own).
use Rattle.std.specs.Prelude.{◌≡◌, ◌≢◌, ◌⊎◌, ◌<◌, ◌≤◌, ℕ, IsTrue, Bool, true, false, List, [], ◌++◌, ◌∷◌, not, Option, Result, Ok, Err, IfErr, MatchResult, OnOk, codes}
use Rattle.tp_model.specs.declared.refusal.Refusal.{Refusal}
use Rattle.tp_model.specs.declared.refusal.Refusal.TheVariants.{BadGeometry, Exists, Fault, Memory}
use Rattle.tp_model.specs.Geometry.{Geometry, IsWithinLimits, sectors_of_image}
use Rattle.tp_model.specs.Pool.{PlainPool}
use Rattle.tp_model.specs.Calls.{Status, is_failed}
use Rattle.tp_model.specs.Clauses.{IsOpened}
use Rattle.tp_model.specs.Refusals.{is_fault as has_failed, is_fault_refusal}
use Rattle.tp_model.specs.Disk.{DiskState, FaultHasCause, IsSameDisk, IsSettled, after_read, seen}
use Rattle.tp_model.specs.DiskStops.{LeavesOnly}
use Rattle.tp_hub.specs.Streams.{StreamCall}
use Rattle.tp_images.specs.Deeds.{Deed, OnImage, Refuses}
use Rattle.tp_images.specs.declared.way.Way.{Way}
use Rattle.tp_images.specs.declared.way.Way.TheVariants.{ToWrite, ToRead, ToMake}
use Rattle.tp_devices.specs.Heads.{IsForeign, IsFree}
use Rattle.tp_image.specs.Clean.{IsClean}
use Rattle.tp_image.specs.Fresh.{IsFreshOf, empty_pool}
use Rattle.tp_image.specs.Stands as images
use Rattle.tp_check.specs.declared.error.CheckError.{CheckError}
use Rattle.tp_check.specs.declared.error.CheckError.TheVariants as errors
use Rattle.tp_check.specs.Errors.{is_fault, refusal_of}
use Rattle.tp_check.specs.Found.{HasFault}
use Rattle.tp_meta.specs.declared.whole.Meta.{Meta}
use Rattle.tp_meta.specs.Standing.{StandsFor, changed_of, geometry_of, marks_of, room_of}
use Rattle.tp_pool.specs.Checked.{IsClearing, cleared}
use Rattle.tp_pool.specs.Formatting.{IsBetween}
use Rattle.tp_pool.specs.Held.{IsPool, shows}
use Rattle.tp_served.specs.Served.{Cached, cached, disk_of, on_cache}
use Rattle.tp_tasks.specs.declared.task.Sizes.{Sizes}
use Rattle.tp_commands.specs.Opening.{IsOpenedOn, IsRefusedOn}
use Rattle.tp_commands.specs.Printing.{IsLineGiven, Prints, PrintsCall, newline, status_call}

-- ---- by name

-- The image of a name was not opened, which is a fault, and nothing was printed; or it was, this was done to its disk, and it was closed.
abbrev pub OnName : Way → List ℕ → List Deed → List Deed → List StreamCall → List StreamCall → Result (Unit {0}) Refusal → (DiskState → DiskState → Type 0) → Type 0
OnName way name old new calls calls' result Does =
    ((new ≡ Refuses way name ∷ old) × (result ≡ Err Fault) × (calls' ≡ calls)) ⊎ OnImage way name old new Does

-- ---- the pool on a disk

-- The disk of a pool that is let go as it is. It is honest still, unless the pool has failed.
pub record IsLetGo (last : Cached Meta) (after : DiskState) : Type 0 where
  pub disk_is : after ≡ disk_of last
  pub honest : (s : PlainPool) → shows geometry_of StandsFor (on_cache last) s → is_failed s.mode ≡ false → IsTrue after.is_honest

-- The pool of a disk was opened, this was done to it, and the disk is as that left it; or the pool was not opened, and nothing was printed.
abbrev pub OnPool : (Cached Meta → Cached Meta → Type 0) → List StreamCall → List StreamCall → Result (Unit {0}) Refusal → DiskState → DiskState → Type 0
OnPool Does calls calls' result before after =
    ((reason : Refusal) × (result ≡ Err reason) × IsRefusedOn before after reason × (calls' ≡ calls))
    ⊎ ((old : Cached Meta) × (new : Cached Meta) × IsOpenedOn before old × Does old new × IsLetGo new after)

abbrev pub TellsOn : Option ℕ → List StreamCall → List StreamCall → Result (Unit {0}) Refusal → DiskState → DiskState → Type 0
TellsOn id calls calls' result before after =
    OnPool (λ old new. PrintsCall (cached geometry_of StandsFor marks_of room_of changed_of) old new (status_call id) calls calls' result) calls calls' result before after

abbrev pub IsStatusTold : List ℕ → Option ℕ → List Deed → List Deed → List StreamCall → List StreamCall → Result (Unit {0}) Refusal → Type 0
IsStatusTold name id old new calls calls' result = OnName ToRead name old new calls calls' result (TellsOn id calls calls' result)

abbrev pub GivesOn : List ℕ → List StreamCall → List StreamCall → Result (Unit {0}) Refusal → DiskState → DiskState → Type 0
GivesOn line calls calls' result before after =
    OnPool (λ old new. IsLineGiven (cached geometry_of StandsFor marks_of room_of changed_of) old new line calls calls' result) calls calls' result before after

abbrev pub IsMessageGiven : List ℕ → List ℕ → List Deed → List Deed → List StreamCall → List StreamCall → Result (Unit {0}) Refusal → Type 0
IsMessageGiven name line old new calls calls' result = OnName ToWrite name old new calls calls' result (GivesOn line calls calls' result)

-- The pool of a disk was opened, and let go as it was; or it was not opened.
abbrev pub TriesOn : Result (Unit {0}) Refusal → DiskState → DiskState → Type 0
TriesOn result before after = OnPool (λ old new. (new ≡ old) × (result ≡ Ok (tt {0}))) [] [] result before after

-- The same of the image of a name, which was opened to write; or it was not, which is a fault.
abbrev pub IsTried : List ℕ → List Deed → List Deed → Result (Unit {0}) Refusal → Type 0
IsTried name old new result = OnName ToWrite name old new [] [] result (TriesOn result)

-- ---- a new pool

abbrev pub sizes_asked : Sizes → Geometry
sizes_asked sizes = record { block_sectors = sizes.block_sectors; virtual_blocks = sizes.virtual_blocks; metadata_blocks = sizes.metadata_blocks; data_blocks = sizes.data_blocks }

-- A pool of these sizes was being made on a disk. A fault is answered exactly where the disk failed; and where a pool stood on the settled disk, a stop at any moment leaves that pool,
-- none, or the empty one.
pub record Formats (g : Geometry) (faulted : Bool) (before after : DiskState) : Type 0 where
  pub cause : FaultHasCause faulted before after
  pub any_moment : IsTrue before.is_honest → IsSettled before.cells → (old : Geometry) (s : PlainPool) → IsPool old (seen before.cells) → images.StandsFor (seen before.cells) s
      → LeavesOnly before after (IsBetween old s g)

-- An empty pool was made on this disk, which is settled with its image. Where the disk is honest, the pool is as one that was opened on it.
pub record IsMadeOn (g : Geometry) (before : DiskState) (c : Cached Meta) : Type 0 where
  pub formats : Formats g false before (disk_of c)
  pub same_disk : IsSameDisk before (disk_of c)
  pub fresh : IsFreshOf g (seen (disk_of c).cells)
  pub settled : IsSettled (disk_of c).cells
  pub shows_it : IsTrue before.is_honest → shows geometry_of StandsFor (on_cache c) (empty_pool g)
  pub opened : IsTrue before.is_honest → IsOpened (cached geometry_of StandsFor marks_of room_of changed_of) (seen (disk_of c).cells) c

-- An empty pool was made on a disk, and its line is printed. Or the disk failed or memory was refused, and nothing was printed.
abbrev pub FormatsOn : Geometry → List StreamCall → List StreamCall → Result (Unit {0}) Refusal → DiskState → DiskState → Type 0
FormatsOn g calls calls' result before after =
    ((reason : Refusal) × (result ≡ Err reason) × ((reason ≡ Fault) ⊎ (reason ≡ Memory)) × (reason ≢ Fault → after ≡ before) × Formats g (is_fault_refusal reason) before after
    × IsSameDisk before after × (calls' ≡ calls))
    ⊎ ((made : Cached Meta) × (last : Cached Meta) × IsMadeOn g before made × PrintsCall (cached geometry_of StandsFor marks_of room_of changed_of) made last Status calls calls' result
    × IsLetGo last after)

-- the same on a disk of the image's size
abbrev pub FormatsWhole : Geometry → List StreamCall → List StreamCall → Result (Unit {0}) Refusal → DiskState → DiskState → Type 0
FormatsWhole g calls calls' result before after = (before.size ≡ sectors_of_image g) × FormatsOn g calls calls' result before after

-- A device is left as it is, and nothing was printed: a read of its head failed, or it is somebody else's.
abbrev pub LeavesIt : List StreamCall → List StreamCall → Result (Unit {0}) Refusal → DiskState → DiskState → Type 0
LeavesIt calls calls' result before after =
    ((result ≡ Err Fault) × (after ≡ after_read false before) × (calls' ≡ calls))
    ⊎ ((result ≡ Err Exists) × (IsTrue before.is_honest → IsForeign (seen before.cells)) × (after ≡ before) × (calls' ≡ calls))

-- what a device holds may be lost: that was asked for, or it is nobody else's
abbrev pub MayTake : Bool → DiskState → Type 0
MayTake overwrites disk = IsTrue disk.is_honest → (overwrites ≡ true) ⊎ IsFree (seen disk.cells)

-- An empty pool was made on a device that is as large as it is, which may be more than the image's size. Or that is less, and nothing was done; or the device is left as it is, where it was
-- not asked to overwrite it.
abbrev pub FormatsOver : Bool → Geometry → List StreamCall → List StreamCall → Result (Unit {0}) Refusal → DiskState → DiskState → Type 0
FormatsOver overwrites g calls calls' result before after =
    ((before.size < sectors_of_image g) × (result ≡ Err BadGeometry) × (after ≡ before) × (calls' ≡ calls))
    ⊎ ((sectors_of_image g ≤ before.size) × (overwrites ≡ false) × LeavesIt calls calls' result before after)
    ⊎ ((sectors_of_image g ≤ before.size) × MayTake overwrites before × FormatsOn g calls calls' result before after)

-- the image of a name was made, or a device that stands under it was opened
abbrev pub MakesPool : List ℕ → Bool → Geometry → List Deed → List Deed → List StreamCall → List StreamCall → Result (Unit {0}) Refusal → Type 0
MakesPool name overwrites g old new calls calls' result =
    OnName ToMake name old new calls calls' result (FormatsWhole g calls calls' result) ⊎ OnName ToWrite name old new calls calls' result (FormatsOver overwrites g calls calls' result)

-- Sizes that are out of their limits are refused before any image is asked for.
abbrev pub IsFormatted : List ℕ → Sizes → Bool → List Deed → List Deed → List StreamCall → List StreamCall → Result (Unit {0}) Refusal → Type 0
IsFormatted name sizes overwrites old new calls calls' result =
    ((IsWithinLimits (sizes_asked sizes) → ⊥) × (result ≡ Err BadGeometry) × (new ≡ old) × (calls' ≡ calls))
    ⊎ (IsWithinLimits (sizes_asked sizes) × MakesPool name overwrites (sizes_asked sizes) old new calls calls' result)

-- ---- checks

-- What a check of a disk answered: clean only where the image is clean, and each fault only where the image has it; nothing is written.
pub record Checks (old new : DiskState) (found : Result (Unit {0}) CheckError) : Type 0 where
  pub clean : OnOk found (IsTrue old.is_honest → IsClean (seen old.cells))
  pub fault : IfErr found (λ e. IsTrue old.is_honest → HasFault (seen old.cells) e)
  pub accepted : IfErr found (λ e. IsTrue old.is_honest → IsClean (seen old.cells) → (e ≡ errors.Fault) ⊎ (e ≡ errors.Memory))
  pub state : new ≡ after_read (not (is_fault found)) old
  pub cause : FaultHasCause (is_fault found) old new

-- One check: where the image is found clean, that is printed on a line; else what it answered is the refusal, and nothing is printed.
abbrev pub PrintsCheck : List StreamCall → List StreamCall → Result (Unit {0}) Refusal → DiskState → DiskState → Type 0
PrintsCheck calls calls' result before after =
    (Checks before after (Ok (tt {0})) × Prints calls calls' (codes "clean" ++ newline) result)
    ⊎ ((e : CheckError) × (result ≡ Err (refusal_of e)) × Checks before after (Err e) × (calls' ≡ calls))

abbrev pub IsChecked : List ℕ → List Deed → List Deed → List StreamCall → List StreamCall → Result (Unit {0}) Refusal → Type 0
IsChecked name old new calls calls' result = OnName ToRead name old new calls calls' result (PrintsCheck calls calls' result)

-- What clearing a clean image on a settled disk leaves of the pool that it stands for: that pool, which wants no check; at any moment with its flag or without it.
pub record Clears (old new : DiskState) (done : Result (Unit {0}) Refusal) : Type 0 where
  pub cleared_it : OnOk done (IsTrue old.is_honest → IsSettled old.cells
      → (g : Geometry) × ((s : PlainPool) → images.StandsFor (seen old.cells) s → IsPool g (seen new.cells) × images.StandsFor (seen new.cells) (cleared s)))
  pub kept : OnOk done (IsSettled new.cells)
  pub any_moment : IsTrue old.is_honest → IsSettled old.cells
      → (g : Geometry) × ((s : PlainPool) → images.StandsFor (seen old.cells) s → LeavesOnly old new (IsClearing g s))
  pub refused : IfErr done (λ reason. reason ≢ Fault → reason ≢ Memory → IsTrue old.is_honest → ⊥)
  pub untouched : IfErr done (λ reason. reason ≢ Fault → new ≡ old)
  pub same_disk : IsSameDisk old new
  pub cause : FaultHasCause (has_failed done) old new

-- One check: where the image is found clean, it is cleared, and that is printed on a line; else nothing is written, what was answered is the
-- refusal, and nothing is printed.
abbrev pub PrintsCleared : List StreamCall → List StreamCall → Result (Unit {0}) Refusal → DiskState → DiskState → Type 0
PrintsCleared calls calls' result before after =
    ((IsTrue before.is_honest → IsClean (seen before.cells)) × (done : Result (Unit {0}) Refusal) × Clears before after done
    × MatchResult done (λ _. Prints calls calls' (codes "clean" ++ newline) result) (λ reason. (result ≡ Err reason) × (calls' ≡ calls)))
    ⊎ ((e : CheckError) × (result ≡ Err (refusal_of e)) × Checks before after (Err e) × (calls' ≡ calls))

abbrev pub IsCleared : List ℕ → List Deed → List Deed → List StreamCall → List StreamCall → Result (Unit {0}) Refusal → Type 0
IsCleared name old new calls calls' result = OnName ToWrite name old new calls calls' result (PrintsCleared calls calls' result)
