-- Calls that write, of a pool that is not written to.
use Rattle.std.proofs.Common.{◌≡◌, ◌≢◌, Result, Ok, Err, false, true, refl, sym, ap, subst, ◌∙◌}
use Rattle.std.specs.Prelude.{IfErr}
use Rattle.std.proofs.lemmas.Bool.{false≢true}
use Rattle.tp_model.specs.declared.mode.Mode.{Mode}
use Rattle.tp_model.specs.declared.mode.Mode.TheVariants as mode
use Rattle.tp_model.specs.declared.refusal.Refusal.{Refusal}
use Rattle.tp_model.specs.Calls.{is_failed, is_read_only}
use Rattle.tp_pool.specs.Checked.{HasOnlyRead, IsOnlyRead}
use Rattle.tp_pool.specs.Held.{Held, failed_by}

pub read_only_is : (m : Mode) → is_failed m ≡ false → m ≢ mode.Writable → is_read_only m ≡ true
read_only_is mode.Writable works no_writes = absurd (no_writes refl)
read_only_is mode.ReadOnly works no_writes = refl
read_only_is mode.Failed works no_writes = absurd (false≢true (sym works))

-- the pool is settled behind that part
pub settled_read : {M : Type 0} (old mid new : Held M) (answer result : Result (Unit {0}) Refusal) → result ≡ answer → IfErr answer (λ reason. new ≡ failed_by reason mid)
    → HasOnlyRead old mid answer → IsOnlyRead old new result
settled_read old mid new (Ok x) result same failed reads = absurd reads
settled_read old mid new (Err reason) result same failed reads =
    subst (λ (r : Result (Unit {0}) Refusal). IsOnlyRead old new r) (sym same) (failed ∙ ap (failed_by reason) reads)
