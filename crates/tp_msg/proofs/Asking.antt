-- What each message's call is: one that ends in a commit, and that changes no holds. Made but for its commit, it is the whole with the flush behind it.
use Rattle.std.proofs.Common.{◌≡◌, ℕ, true, false, refl}
use Rattle.std.specs.Ordering.{nat_cmp}
use Rattle.std.specs.FinMap.{FinMap}
use Rattle.std.specs.Prelude.{Err, MatchResult, Ok, Result}
use Rattle.tp_model.specs.declared.refusal.Refusal.{Refusal}
use Rattle.tp_model.specs.Calls as calls
use Rattle.tp_model.specs.Calls.{Answer, ends_in_commit, holds_after, is_flush, is_message}
use Rattle.tp_model.specs.Clauses.{Meets, Unkept, View, ViewLaws}
use Rattle.tp_model.specs.Flushing.{IsFlushed}
use Rattle.tp_model.proofs.Unkept.{flush_failed, flushed}
use Rattle.tp_msg.specs.declared.message.Message.{Message}
use Rattle.tp_msg.specs.declared.message.Message.TheVariants.{CreateThin, CreateSnap, Delete, SetTransactionId, Grow, ReserveMetadataSnap, ReleaseMetadataSnap}
use Rattle.tp_msg.specs.Asked.{call_of}

pub message_is : (m : Message) → is_message (call_of m) ≡ true
message_is (CreateThin id) = refl
message_is (CreateSnap id origin) = refl
message_is (Delete id) = refl
message_is (SetTransactionId current next) = refl
message_is (Grow id blocks) = refl
message_is ReserveMetadataSnap = refl
message_is ReleaseMetadataSnap = refl

pub message_ends : (m : Message) → ends_in_commit (call_of m) ≡ true
message_ends (CreateThin id) = refl
message_ends (CreateSnap id origin) = refl
message_ends (Delete id) = refl
message_ends (SetTransactionId current next) = refl
message_ends (Grow id blocks) = refl
message_ends ReserveMetadataSnap = refl
message_ends ReleaseMetadataSnap = refl

pub message_other : (m : Message) → is_flush (call_of m) ≡ false
message_other (CreateThin id) = refl
message_other (CreateSnap id origin) = refl
message_other (Delete id) = refl
message_other (SetTransactionId current next) = refl
message_other (Grow id blocks) = refl
message_other ReserveMetadataSnap = refl
message_other ReleaseMetadataSnap = refl

pub message_holds : (m : Message) (holds : FinMap nat_cmp ℕ) (answer : Answer) → holds_after holds (call_of m) answer ≡ holds
message_holds (CreateThin id) holds answer = refl
message_holds (CreateSnap id origin) holds answer = refl
message_holds (Delete id) holds answer = refl
message_holds (SetTransactionId current next) holds answer = refl
message_holds (Grow id blocks) holds answer = refl
message_holds ReserveMetadataSnap holds answer = refl
message_holds ReleaseMetadataSnap holds answer = refl

module _ {D : Type 0} (view : View D) where
  -- the call was made, with this answer
  abbrev pub IsMessageMade : D → D → Message → Result (Unit {0}) Refusal → Type 0
  IsMessageMade p p' m result = MatchResult result (λ _. Meets view p p' (call_of m) calls.Done) (λ reason. Meets view p p' (call_of m) (calls.Refused reason))

  -- the flush behind the change is the message
  pub message_kept : ViewLaws view → (p mid p' : D) (m : Message) (result : Result (Unit {0}) Refusal) → Unkept view p mid (call_of m) → IsFlushed view mid p' result → IsMessageMade p p' m result
  message_kept laws p mid p' m (Ok done) u f = flushed view laws p mid p' (call_of m) (message_ends m) (message_other m) u f
  message_kept laws p mid p' m (Err reason) u f = flush_failed view laws p mid p' (call_of m) (message_ends m) (message_other m) u reason f
