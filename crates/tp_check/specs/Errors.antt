-- Trusted reading: the refusal of each error of a check (own).
use Rattle.std.specs.Prelude.{Bool, true, false, Result, Ok, Err}
use Rattle.tp_model.specs.declared.refusal.Refusal.{Refusal}
use Rattle.tp_model.specs.declared.refusal.Refusal.TheVariants as refusals
use Rattle.tp_check.specs.declared.error.CheckError.{CheckError}
use Rattle.tp_check.specs.declared.error.CheckError.TheVariants.{Fault, Memory, BadSuper, BadNode, BadOrder, BadCount, OutOfPlace, HalfEmpty, BadMapped, BadRecordSize}

abbrev pub refusal_of : CheckError → Refusal
refusal_of Fault = refusals.Fault
refusal_of Memory = refusals.Memory
refusal_of BadSuper = refusals.BadSuper
refusal_of BadNode = refusals.BadNode
refusal_of BadOrder = refusals.BadOrder
refusal_of BadCount = refusals.BadCount
refusal_of OutOfPlace = refusals.OutOfPlace
refusal_of HalfEmpty = refusals.HalfEmpty
refusal_of BadMapped = refusals.BadMapped
refusal_of BadRecordSize = refusals.BadRecordSize

abbrev pub is_fault_error : CheckError → Bool
is_fault_error Fault = true
is_fault_error e = false

-- whether the disk failed
abbrev pub is_fault : {T : Type 0} → Result T CheckError → Bool
is_fault (Ok x) = false
is_fault (Err e) = is_fault_error e
