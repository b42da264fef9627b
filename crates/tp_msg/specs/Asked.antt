-- Trusted reading: the call of a pool that a message asks for, and what it is to have made it but for its commit (own).
use Rattle.std.specs.Prelude.{MatchOption, MatchResult, Option, Result}
use Rattle.tp_model.specs.declared.refusal.Refusal.{Refusal}
use Rattle.tp_model.specs.Calls.{Call}
use Rattle.tp_model.specs.Calls as calls
use Rattle.tp_model.specs.Clauses.{Meets, Unkept, View}
use Rattle.tp_msg.specs.declared.message.Message.{Message}
use Rattle.tp_msg.specs.declared.message.Message.TheVariants as orders

abbrev pub call_of : Message → Call
call_of (orders.CreateThin id) = calls.CreateThin id
call_of (orders.CreateSnap id origin) = calls.CreateSnap id origin
call_of (orders.Delete id) = calls.Delete id
call_of (orders.SetTransactionId current next) = calls.SetTransactionId current next
call_of (orders.Grow id blocks) = calls.Grow id blocks
call_of orders.ReserveMetadataSnap = calls.ReserveMetadataSnap
call_of orders.ReleaseMetadataSnap = calls.ReleaseMetadataSnap

-- it is answered, or made but for its commit
abbrev pub IsMessageBegun : {D : Type 0} → View D → D → D → Message → Option (Result (Unit {0}) Refusal) → Type 0
IsMessageBegun v old new message begun =
    MatchOption begun (Unkept v old new (call_of message))
    (λ answer. MatchResult answer (λ _. Meets v old new (call_of message) calls.Done) (λ reason. Meets v old new (call_of message) (calls.Refused reason)))
