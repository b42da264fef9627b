-- What the exit of a `?` says of the call's error.
use Rattle.std.proofs.Common.{◌≡◌, ◌<◌, ◌⊎◌, ℕ, arith, inl, inr, ap, sym, ◌∙◌, refl, false}
use Rattle.std.specs.Prelude.{Err, IfErr, Ok, Result, is_err}
use Rattle.std.proofs.lemmas.Bool.{false≢true}
use Rattle.tp_model.specs.declared.refusal.Refusal.TheVariants as refusals
use Rattle.tp_model.specs.Refusals.{is_fault_refusal, refusal_number}
use Rattle.tp_counts.specs.declared.error.StoreError.{StoreError}
use Rattle.tp_counts.specs.declared.error.StoreError.TheVariants.{Damaged, Fault}
use Rattle.tp_counts.specs.StoreErrors.{is_fault, refusal_of}

-- whether it is a fault
pub fault_is : {T : Type 0} (r : Result T StoreError) (x y : StoreError) → r ≡ Err x → x ≡ y → is_fault r ≡ is_fault {T = T} (Err y)
fault_is {T} r x y e f = ap is_fault e ∙ ap (λ z. is_fault {T = T} (Err z)) f

-- which one it is
abbrev error_or : {T E : Type 0} → E → Result T E → E
error_or x (Ok y) = x
error_or x (Err e) = e

pub err_is : {T E : Type 0} (x z : E) → ◌≡◌ {A = Result T E} (Err x) (Err z) → x ≡ z
err_is {T} {E} x z e = ap (error_or {T = T} {E = E} x) e

pub refusal_is : {T E : Type 0} (r : Result T E) (x y z : E) → r ≡ Err x → x ≡ y → r ≡ Err z → y ≡ z
refusal_is r x y z e f h = sym f ∙ err_is x z (sym e ∙ h)

-- a call that refuses nothing for a fault
pub not_fault : {T : Type 0} (r : Result T StoreError) → IfErr r (λ (x : StoreError). x ≡ Damaged) → is_fault r ≡ false
not_fault (Ok x) h = refl
not_fault {T} (Err x) h = ap (λ z. is_fault {T = T} (Err z)) h

-- a call that refuses for nothing but a fault
pub err_is_fault : {T : Type 0} (r : Result T StoreError) → IfErr r (λ (x : StoreError). x ≡ Fault) → is_err r ≡ is_fault r
err_is_fault (Ok x) h = refl
err_is_fault {T} (Err x) h = sym (ap (λ z. is_fault {T = T} (Err z)) h)

-- the refusal that a pool answers
pub refused_so : (error : StoreError) → (refusal_of error ≡ refusals.Fault) ⊎ (refusal_of error ≡ refusals.Damaged)
refused_so Fault = inl refl
refused_so Damaged = inr refl

-- and it tells which error it was
pub damaged_so : (error : StoreError) → refusal_of error ≡ refusals.Damaged → error ≡ Damaged
damaged_so Fault e = absurd (false≢true (sym (ap is_fault_refusal e)))
damaged_so Damaged e = refl

-- and that it is no other one, by its number
pub no_other : (error : StoreError) (n : ℕ) → 5 < n → refusal_number (refusal_of error) ≡ n → ⊥
no_other Fault n more e = omega (arith, more, e)
no_other Damaged n more e = omega (arith, more, e)
