-- Internal: which refusal a server's answer tells by its number (own).
use Rattle.std.specs.Prelude.{ℕ, List, [], ◌∷◌, nat_eq, if◌then◌else◌}
use Rattle.tp_model.specs.declared.refusal.Refusal.{Refusal}
use Rattle.tp_model.specs.declared.refusal.Refusal.TheVariants.{BadGeometry, Damaged, NotAPool, BadVersion, Fault, Memory, BadSyntax, UnknownMessage, BadDeviceId, Exists, NoSuchDevice, Busy, StaleTransactionId, NoMetadataSpace, TooManyDevices, ReadOnly, Failed, SessionInUse, NoSession, NoDataSpace, BadSize, HeldRootExists, NoHeldRoot, BadSuper, BadNode, BadOrder, BadCount, OutOfPlace, HalfEmpty, BadMapped, BadRecordSize}
use Rattle.tp_model.specs.Refusals.{refusal_number}

abbrev pub all_refusals : List Refusal
all_refusals =
    BadGeometry ∷ Damaged ∷ NotAPool ∷ BadVersion ∷ Fault ∷ Memory ∷ BadSyntax ∷ UnknownMessage ∷ BadDeviceId ∷ Exists ∷ NoSuchDevice ∷ Busy ∷ StaleTransactionId ∷ NoMetadataSpace ∷ TooManyDevices ∷ ReadOnly ∷ Failed ∷ SessionInUse ∷ NoSession ∷ NoDataSpace ∷ BadSize ∷ HeldRootExists ∷ NoHeldRoot ∷ BadSuper ∷ BadNode ∷ BadOrder ∷ BadCount ∷ OutOfPlace ∷ HalfEmpty ∷ BadMapped ∷ BadRecordSize ∷ []

-- the first of some refusals that has a number; a fault where none has it
abbrev pub numbered : List Refusal → ℕ → Refusal
numbered [] number = Fault
numbered (refusal ∷ rest) number = if nat_eq (refusal_number refusal) number then refusal else numbered rest number
