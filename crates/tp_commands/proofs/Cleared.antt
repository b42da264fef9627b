-- Clearing the flag of a clean image, in words of what the program prints.
use Rattle.std.proofs.Common.{◌≡◌, ◌≢◌, List, Result, subst}
use Rattle.std.specs.Prelude.{IfErr, IsTrue, OnOk}
use Rattle.std.proofs.lemmas.Result.{IfErr-weaker, on_ok_weaker}
use Rattle.tp_model.specs.declared.refusal.Refusal.{Refusal}
use Rattle.tp_model.specs.declared.refusal.Refusal.TheVariants.{Fault, Memory}
use Rattle.tp_model.specs.Geometry.{Geometry}
use Rattle.tp_model.specs.Pool.{PlainPool}
use Rattle.tp_model.specs.Refusals.{is_fault}
use Rattle.tp_model.specs.Disk.{DiskState, FaultHasCause, IsSameDisk, IsSettled, seen}
use Rattle.tp_model.specs.DiskStops.{LeavesOnly}
use Rattle.tp_hub.specs.Streams.{StreamCall}
use Rattle.tp_image.specs.Clean.{IsClean}
use Rattle.tp_image.specs.Stands.{StandsFor}
use Rattle.tp_stored.specs.Contents.{Contents, HoldsContents}
use Rattle.tp_stored.specs.Laws.{CleanStandForOpened}
use Rattle.tp_meta.specs.Opening.{IsUnopened}
use Rattle.tp_pool.specs.Checked.{IsClearing, cleared}
use Rattle.tp_pool.specs.Held.{IsPool}
use Rattle.tp_commands.specs.Images.{Clears, PrintsCleared}

-- The pool's call, of an image that is clean where the disk is honest.
module _ (law : CleanStandForOpened) (old new : DiskState) (done : Result (Unit {0}) Refusal) (clean : IsTrue old.is_honest → IsClean (seen old.cells)) where
  abbrev Known : Type 0 → Type 0
  Known P = IsTrue old.is_honest → IsSettled old.cells → P

  abbrev OfPool : (Geometry → PlainPool → Type 0) → Type 0
  OfPool P = Known ((g : Geometry) (s : PlainPool) → IsPool g (seen old.cells) → StandsFor (seen old.cells) s → P g s)

  abbrev Refused : Refusal → Type 0
  Refused reason = reason ≢ Fault → reason ≢ Memory → IsTrue old.is_honest
      → IsUnopened (seen old.cells) reason × ((g : Geometry) (c : Contents) → HoldsContents g c (seen old.cells) → ⊥)

  pub clears : OnOk done (OfPool (λ g s. IsPool g (seen new.cells) × StandsFor (seen new.cells) (cleared s))) → OnOk done (IsSettled new.cells)
      → OfPool (λ g s. LeavesOnly old new (IsClearing g s)) → IfErr done Refused → IfErr done (λ reason. reason ≢ Fault → new ≡ old)
      → IsSameDisk old new → FaultHasCause (is_fault done) old new → Clears old new done
  clears done_it kept moments refused untouched same_disk cause = record {
    cleared_it = on_ok_weaker done (λ h honest settled.
        let is = law (seen old.cells) (clean honest) in
        (is.0, λ s stands. h honest settled is.0 s (is.1, is.2) stands)) done_it;
    kept = kept;
    any_moment = λ honest settled. let is = law (seen old.cells) (clean honest) in (is.0, λ s stands. moments honest settled is.0 s (is.1, is.2) stands);
    refused = IfErr-weaker done _ _ (λ reason h no_fault some honest. let is = law (seen old.cells) (clean honest) in (h no_fault some honest).1 is.0 is.1 is.2) refused;
    untouched = untouched;
    same_disk = same_disk;
    cause = cause;
  }

-- A check in front of it changes nothing.
pub checked_first : (checked old new : DiskState) (calls calls' : List StreamCall) (result : Result (Unit {0}) Refusal) → checked ≡ old → (IsTrue old.is_honest → IsClean (seen old.cells))
    → ((IsTrue checked.is_honest → IsClean (seen checked.cells)) → PrintsCleared calls calls' result checked new) → PrintsCleared calls calls' result old new
checked_first checked old new calls calls' result same clean rest =
    subst (λ (d : DiskState). (IsTrue d.is_honest → IsClean (seen d.cells)) → PrintsCleared calls calls' result d new) same rest clean
