-- Whether a device may be overwritten.
use Rattle.std.proofs.Common.{◌≡◌, inr, Bool, true, false, Result, Ok, Err, sym, true≢false}
use Rattle.std.specs.Prelude.{IfErr, IfOk, IsTrue, MatchBool}
use Rattle.tp_model.specs.Disk.{DiskState, seen}
use Rattle.tp_devices.specs.Heads.{IsForeign, IsFree}
use Rattle.tp_disk.specs.declared.disk.Fault.{Fault}
use Rattle.tp_commands.specs.Images.{MayTake}

-- it is looked at, since it is not to be overwritten whatever it holds
pub looked_at : (overwrites : Bool) (disk : DiskState) (result : Result Bool Fault) → overwrites ≡ false
    → IfOk result (λ free. IsTrue disk.is_honest → MatchBool free (IsFree (seen disk.cells)) (IsForeign (seen disk.cells)))
    → IfOk result (λ may. MatchBool may (MayTake overwrites disk) ((overwrites ≡ false) × (IsTrue disk.is_honest → IsForeign (seen disk.cells))))
looked_at overwrites disk (Ok true) not found = λ honest. inr (found honest)
looked_at overwrites disk (Ok false) not found = (not, found)
looked_at overwrites disk (Err e) not found = tt

pub if_failed : {P : Type 0} (result : Result Bool Fault) → P → IfErr result (λ e. P)
if_failed (Ok x) p = tt
if_failed (Err e) p = p

-- what a test has found
pub is_so : (A B : Type 0) (b : Bool) → b ≡ true → MatchBool b A B → A
is_so A B true e a = a
is_so A B false e b = absurd (true≢false (sym e))
