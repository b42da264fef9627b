-- What the exit of a `?` says of the call's error.
use Rattle.std.proofs.Common.{◌≡◌, ◌∙◌, ◌⊎◌, ℕ, inl, inr, Err, false, rules, sym, ap, subst}
use Rattle.std.specs.Prelude.{IfErr, Result}
use Rattle.tp_check.specs.Errors.{is_fault, is_fault_error}
use Rattle.tp_model.specs.Geometry.{Geometry}
use Rattle.tp_layout.specs.declared.superblock.Version.{Version}
use Rattle.tp_check.specs.Walk.{IsMissized}
use Rattle.tp_check.specs.declared.error.CheckError.{CheckError}
use Rattle.tp_check.specs.declared.error.CheckError.TheVariants.{BadNode, BadOrder, BadRecordSize, OutOfPlace}

-- what is so of the error is so of the answer
pub err_passed : {T : Type 0} (P : CheckError → Type 0) (r : Result T CheckError) (x y : CheckError) → r ≡ Err x → x ≡ y → P y → IfErr r P
err_passed {T} P r x y e f h = subst (λ (q : Result T CheckError). IfErr q P) (sym e) (subst P (sym f) h)

pub no_fault : {T : Type 0} (r : Result T CheckError) (x y : CheckError) → r ≡ Err x → x ≡ y → (y ≡ BadNode) ⊎ (y ≡ BadOrder) ⊎ (y ≡ OutOfPlace) ⊎ (y ≡ BadRecordSize) → is_fault r ≡ false
no_fault {T} r x y e f (inl h) = ap is_fault e ∙ ap is_fault_error (f ∙ h)
no_fault {T} r x y e f (inr (inl h)) = ap is_fault e ∙ ap is_fault_error (f ∙ h)
no_fault {T} r x y e f (inr (inr (inl h))) = ap is_fault e ∙ ap is_fault_error (f ∙ h)
no_fault {T} r x y e f (inr (inr (inr h))) = ap is_fault e ∙ ap is_fault_error (f ∙ h)

pub one_of_four : (y : CheckError) → (y ≡ BadNode) ⊎ (y ≡ BadOrder) → (y ≡ BadNode) ⊎ (y ≡ BadOrder) ⊎ (y ≡ OutOfPlace) ⊎ (y ≡ BadRecordSize)
one_of_four y (inl h) = inl h
one_of_four y (inr h) = inr (inl h)

pub missized_is : (version : Version) (g : Geometry) (size : ℕ) (y : CheckError) → IsMissized version g size y → (y ≡ BadNode) ⊎ (y ≡ BadOrder) ⊎ (y ≡ OutOfPlace) ⊎ (y ≡ BadRecordSize)
missized_is version g size y (inl h) = inl h.0
missized_is version g size y (inr h) = inr (inr (inr h.0))

pub error_is : {T : Type 0} (r : Result T CheckError) (x y z : CheckError) → r ≡ Err x → x ≡ y → r ≡ Err z → y ≡ z
error_is r x y z e f h = search (rules, e, f, h)
