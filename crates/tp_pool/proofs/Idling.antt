-- The transaction id is set to what it is, and nothing has changed: one flush.
use Rattle.std.proofs.Common.{◌≡◌, inl, inr, ℕ, ◌+◌, ◌==◌, ◌||◌, Bool, true, false, not, Option, None, Some, Result, Ok, Err, sym, ◌∙◌, ap, subst, arith}
use Rattle.std.specs.Prelude.{IsTrue, MatchOption, OnOk, is_err}
use Rattle.std.proofs.lemmas.Bool.{false≢true}
use Rattle.tp_model.specs.declared.mode.Mode.TheVariants as mode
use Rattle.tp_model.specs.declared.refusal.Refusal.{Refusal}
use Rattle.tp_model.specs.Geometry.{Geometry}
use Rattle.tp_model.specs.Pool.{PlainPool}
use Rattle.tp_model.specs.Calls.{is_failed}
use Rattle.tp_model.specs.Disk.{DiskState}
use Rattle.tp_stored.specs.Contents.{Contents}
use Rattle.tp_pool.specs.Held.{Held, shows}
use Rattle.tp_pool.specs.Unkept.{HasRested}

module _ {M : Type 0} (geometry : M → Geometry) (stands : M → DiskState → Contents → Contents → Type 0) (changed : M → Bool) (current next : ℕ) (old : Held M)
    (works : old.mode ≡ mode.Writable) (told : (now kept : Contents) → stands old.metadata old.disk now kept → (current == now.transaction_id) ≡ true)
    (same : current ≡ next) (unchanged : changed old.metadata ≡ false) (metadata : M)
    (set : (disk : DiskState) (now kept : Contents) → stands old.metadata disk now kept → changed metadata ≡ (changed old.metadata || not (next == now.transaction_id))) where
  -- of a pool that is shown nothing has changed then
  pub still : (s : PlainPool) → shows geometry stands old s → changed metadata ≡ false
  still s (inl w) =
      let stays : (next == w.0.transaction_id) ≡ true = subst (λ (n : ℕ). (n == w.0.transaction_id) ≡ true) same (told w.0 w.1 w.2.standing) in
      set old.disk w.0 w.1 w.2.standing ∙ (λ i. unchanged i || not (stays i))
  still s (inr f) = absurd (false≢true (sym (ap is_failed works) ∙ ap is_failed f.failed))

-- and then a flush behind it is one
pub idle_kept : {M : Type 0} (changed : M → Bool) (old mid new : Held M) (begun : Option (Result (Unit {0}) Refusal)) (result : Result (Unit {0}) Refusal)
    → MatchOption begun (HasRested changed old mid) (λ answer. IsTrue (is_err answer))
    → MatchOption begun (mid.mode ≡ mode.Writable → changed mid.metadata ≡ false → OnOk result (new.disk.flushes ≡ mid.disk.flushes + 1)) (λ answer. result ≡ answer)
    → OnOk result (new.disk.flushes ≡ old.disk.flushes + 1)
idle_kept changed old mid new None (Ok x) rested flushed = omega (arith, flushed rested.2 rested.0, rested.1)
idle_kept changed old mid new None (Err reason) rested flushed = tt
idle_kept changed old mid new (Some (Ok x)) result refused same = absurd (false≢true refused)
idle_kept changed old mid new (Some (Err reason)) result refused same = subst (λ (r : Result (Unit {0}) Refusal). OnOk r (new.disk.flushes ≡ old.disk.flushes + 1)) (sym same) tt
