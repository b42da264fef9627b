-- Internal: the refusal of each error of the store (own).
use Rattle.std.specs.Prelude.{Bool, false, Result, Ok, Err}
use Rattle.tp_model.specs.declared.refusal.Refusal.{Refusal}
use Rattle.tp_model.specs.declared.refusal.Refusal.TheVariants as refusals
use Rattle.tp_model.specs.Refusals.{is_fault_refusal}
use Rattle.tp_counts.specs.declared.error.StoreError.{StoreError}
use Rattle.tp_counts.specs.declared.error.StoreError.TheVariants.{Fault, Damaged}

abbrev pub refusal_of : StoreError → Refusal
refusal_of Fault = refusals.Fault
refusal_of Damaged = refusals.Damaged

-- whether a call was refused because the disk failed
abbrev pub is_fault : {T : Type 0} → Result T StoreError → Bool
is_fault (Ok x) = false
is_fault (Err error) = is_fault_refusal (refusal_of error)
