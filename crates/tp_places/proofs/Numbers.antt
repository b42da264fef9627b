-- A refusal is found by its number.
use Rattle.std.proofs.Common.{◌≡◌, ℕ, refl, subst}
use Rattle.tp_model.specs.declared.refusal.Refusal.{Refusal}
use Rattle.tp_model.specs.declared.refusal.Refusal.TheVariants.{BadGeometry, Damaged, NotAPool, BadVersion, Fault, Memory, BadSyntax, UnknownMessage, BadDeviceId, Exists, NoSuchDevice, Busy, StaleTransactionId, NoMetadataSpace, TooManyDevices, ReadOnly, Failed, SessionInUse, NoSession, NoDataSpace, BadSize, HeldRootExists, NoHeldRoot, BadSuper, BadNode, BadOrder, BadCount, OutOfPlace, HalfEmpty, BadMapped, BadRecordSize}
use Rattle.tp_model.specs.Refusals.{refusal_number}
use Rattle.tp_places.specs.Answered.{all_refusals, numbered}

is_found : (refusal : Refusal) → numbered all_refusals (refusal_number refusal) ≡ refusal
is_found BadGeometry = refl
is_found Damaged = refl
is_found NotAPool = refl
is_found BadVersion = refl
is_found Fault = refl
is_found Memory = refl
is_found BadSyntax = refl
is_found UnknownMessage = refl
is_found BadDeviceId = refl
is_found Exists = refl
is_found NoSuchDevice = refl
is_found Busy = refl
is_found StaleTransactionId = refl
is_found NoMetadataSpace = refl
is_found TooManyDevices = refl
is_found ReadOnly = refl
is_found Failed = refl
is_found SessionInUse = refl
is_found NoSession = refl
is_found NoDataSpace = refl
is_found BadSize = refl
is_found HeldRootExists = refl
is_found NoHeldRoot = refl
is_found BadSuper = refl
is_found BadNode = refl
is_found BadOrder = refl
is_found BadCount = refl
is_found OutOfPlace = refl
is_found HalfEmpty = refl
is_found BadMapped = refl
is_found BadRecordSize = refl

pub found_by_number : (refusal : Refusal) (number : ℕ) → refusal_number refusal ≡ number → numbered all_refusals number ≡ refusal
found_by_number refusal number e = subst (λ (n : ℕ). numbered all_refusals n ≡ refusal) e (is_found refusal)
