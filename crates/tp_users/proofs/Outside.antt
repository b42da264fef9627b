-- A refusal that is none but want of memory or a fault.
use Rattle.std.proofs.Common.{◌≢◌, inl, inr, refl, ap, arith}
use Rattle.tp_model.specs.declared.refusal.Refusal.{Refusal}
use Rattle.tp_model.specs.declared.refusal.Refusal.TheVariants.{BadCount, BadDeviceId, BadGeometry, BadMapped, BadNode, BadOrder, BadRecordSize, BadSize, BadSuper, BadSyntax, BadVersion, Busy, Damaged, Exists, Failed, Fault, HalfEmpty, HeldRootExists, Memory, NoDataSpace, NoHeldRoot, NoMetadataSpace, NoSession, NoSuchDevice, NotAPool, OutOfPlace, ReadOnly, SessionInUse, StaleTransactionId, TooManyDevices, UnknownMessage}
use Rattle.tp_model.specs.Refusals.{refusal_number}
use Rattle.tp_users.specs.Users.{IsOutside}

abbrev IsNeither : Refusal → Type 0
IsNeither r = r ≢ Fault → r ≢ Memory → ⊥

pub outside : (r : Refusal) → IsNeither r → IsOutside r
outside BadGeometry h = absurd (h (λ e. absurd (omega (arith, ap refusal_number e))) (λ e. absurd (omega (arith, ap refusal_number e))))
outside Damaged h = absurd (h (λ e. absurd (omega (arith, ap refusal_number e))) (λ e. absurd (omega (arith, ap refusal_number e))))
outside NotAPool h = absurd (h (λ e. absurd (omega (arith, ap refusal_number e))) (λ e. absurd (omega (arith, ap refusal_number e))))
outside BadVersion h = absurd (h (λ e. absurd (omega (arith, ap refusal_number e))) (λ e. absurd (omega (arith, ap refusal_number e))))
outside Fault h = inr refl
outside Memory h = inl refl
outside BadSyntax h = absurd (h (λ e. absurd (omega (arith, ap refusal_number e))) (λ e. absurd (omega (arith, ap refusal_number e))))
outside UnknownMessage h = absurd (h (λ e. absurd (omega (arith, ap refusal_number e))) (λ e. absurd (omega (arith, ap refusal_number e))))
outside BadDeviceId h = absurd (h (λ e. absurd (omega (arith, ap refusal_number e))) (λ e. absurd (omega (arith, ap refusal_number e))))
outside Exists h = absurd (h (λ e. absurd (omega (arith, ap refusal_number e))) (λ e. absurd (omega (arith, ap refusal_number e))))
outside NoSuchDevice h = absurd (h (λ e. absurd (omega (arith, ap refusal_number e))) (λ e. absurd (omega (arith, ap refusal_number e))))
outside Busy h = absurd (h (λ e. absurd (omega (arith, ap refusal_number e))) (λ e. absurd (omega (arith, ap refusal_number e))))
outside StaleTransactionId h = absurd (h (λ e. absurd (omega (arith, ap refusal_number e))) (λ e. absurd (omega (arith, ap refusal_number e))))
outside NoMetadataSpace h = absurd (h (λ e. absurd (omega (arith, ap refusal_number e))) (λ e. absurd (omega (arith, ap refusal_number e))))
outside TooManyDevices h = absurd (h (λ e. absurd (omega (arith, ap refusal_number e))) (λ e. absurd (omega (arith, ap refusal_number e))))
outside ReadOnly h = absurd (h (λ e. absurd (omega (arith, ap refusal_number e))) (λ e. absurd (omega (arith, ap refusal_number e))))
outside Failed h = absurd (h (λ e. absurd (omega (arith, ap refusal_number e))) (λ e. absurd (omega (arith, ap refusal_number e))))
outside SessionInUse h = absurd (h (λ e. absurd (omega (arith, ap refusal_number e))) (λ e. absurd (omega (arith, ap refusal_number e))))
outside NoSession h = absurd (h (λ e. absurd (omega (arith, ap refusal_number e))) (λ e. absurd (omega (arith, ap refusal_number e))))
outside NoDataSpace h = absurd (h (λ e. absurd (omega (arith, ap refusal_number e))) (λ e. absurd (omega (arith, ap refusal_number e))))
outside BadSize h = absurd (h (λ e. absurd (omega (arith, ap refusal_number e))) (λ e. absurd (omega (arith, ap refusal_number e))))
outside HeldRootExists h = absurd (h (λ e. absurd (omega (arith, ap refusal_number e))) (λ e. absurd (omega (arith, ap refusal_number e))))
outside NoHeldRoot h = absurd (h (λ e. absurd (omega (arith, ap refusal_number e))) (λ e. absurd (omega (arith, ap refusal_number e))))
outside BadSuper h = absurd (h (λ e. absurd (omega (arith, ap refusal_number e))) (λ e. absurd (omega (arith, ap refusal_number e))))
outside BadNode h = absurd (h (λ e. absurd (omega (arith, ap refusal_number e))) (λ e. absurd (omega (arith, ap refusal_number e))))
outside BadOrder h = absurd (h (λ e. absurd (omega (arith, ap refusal_number e))) (λ e. absurd (omega (arith, ap refusal_number e))))
outside BadCount h = absurd (h (λ e. absurd (omega (arith, ap refusal_number e))) (λ e. absurd (omega (arith, ap refusal_number e))))
outside OutOfPlace h = absurd (h (λ e. absurd (omega (arith, ap refusal_number e))) (λ e. absurd (omega (arith, ap refusal_number e))))
outside HalfEmpty h = absurd (h (λ e. absurd (omega (arith, ap refusal_number e))) (λ e. absurd (omega (arith, ap refusal_number e))))
outside BadMapped h = absurd (h (λ e. absurd (omega (arith, ap refusal_number e))) (λ e. absurd (omega (arith, ap refusal_number e))))
outside BadRecordSize h = absurd (h (λ e. absurd (omega (arith, ap refusal_number e))) (λ e. absurd (omega (arith, ap refusal_number e))))
