-- Internal: what a call does that only looks something up (own).
use Rattle.std.specs.Prelude.{◌≡◌, Result, Err, IfOk, not}
use Rattle.tp_model.specs.Disk.{DiskState, after_read}
use Rattle.tp_counts.specs.declared.error.StoreError.{StoreError}
use Rattle.tp_counts.specs.declared.error.StoreError.TheVariants.{Damaged}
use Rattle.tp_counts.specs.StoreErrors.{is_fault}

-- A call looked something up. `OfAll P` says P of all that may stand on the disk, by two values of it. Of all that stands the call told what it is to tell, and where
-- anything stands it found nothing damaged. The disk is as before, but for a failure of it.
pub record IsLookedUp {A V W : Type 0} (OfAll : (V → W → Type 0) → Type 0) (before after : DiskState) (result : Result A StoreError) (Told : A → V → W → Type 0) : Type 0 where
  pub told : IfOk result (λ answer. OfAll (Told answer))
  pub damaged : result ≡ Err Damaged → OfAll (λ v w. ⊥)
  pub state : after ≡ after_read (not (is_fault result)) before
