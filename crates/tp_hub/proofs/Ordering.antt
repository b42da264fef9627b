-- A message that a hub keeps in parts: one run of it, whose sessions stay as they are.
use Rattle.std.proofs.Common.{◌≡◌, ℕ, true, List, [], ◌∷◌, refl, sym, ap, subst, ◌∙◌, arith}
use Rattle.std.specs.Prelude.{Err, Ok, Result}
use Rattle.tp_model.specs.declared.refusal.Refusal.{Refusal}
use Rattle.tp_model.specs.Pool.{Outline}
use Rattle.tp_model.specs.Calls as calls
use Rattle.tp_model.specs.Clauses.{Unkept, View}
use Rattle.tp_msg.specs.declared.message.Message.{Message}
use Rattle.tp_msg.specs.Asked.{call_of}
use Rattle.tp_msg.specs.Messages.{reading}
use Rattle.tp_msg.proofs.Asking.{IsMessageMade, message_holds}
use Rattle.tp_hub.specs.Told.{Accepts, Refuses}
use Rattle.tp_hub.specs.Runs.{Orders}
use Rattle.tp_hub.specs.Desks.{RunsSo}
use Rattle.tp_hub.specs.Flushes.{flush_told}
use Rattle.tp_hub.specs.Places.{PoolTakes}
use Rattle.tp_hub.specs.Serving.{HubState, Serves, Slots, sessions_of}
use Rattle.tp_hub.specs.Unkept.{IsHubOrdered}
use Rattle.tp_hub.proofs.Asking.{message_so}
use Rattle.tp_hub.proofs.Flushing.{one_told, told_to}
use Rattle.tp_hub.proofs.Placing.{serves_kept}

module _ {D : Type 0} (view : View D) where
  message_taken : (line : List ℕ) (m : Message) (p p' : D) (result : Result (Unit {0}) Refusal) → reading line ≡ Ok m → IsMessageMade view p p' m result
      → PoolTakes view (Orders line) p true 0 (told_to []) (told_to (flush_told result ∷ [])) p'
  message_taken line m p p' (Ok done) is met =
      message_so view line m p p' (told_to []) (told_to []) (told_to (Accepts ∷ [])) is refl (omega arith) (omega arith) (calls.Done, Accepts ∷ [], met, refl, one_told Accepts)
  message_taken line m p p' (Err reason) is met =
      message_so view line m p p' (told_to []) (told_to []) (told_to (Refuses reason ∷ [])) is refl (omega arith) (omega arith) (calls.Refused reason, Refuses reason ∷ [], met, refl, one_told (Refuses reason))

  -- the hub that it came of, and the one behind it
  pub hub_ordered : (old new : HubState D) (p p' : D) (slots : Slots) (m : Message) (result : Result (Unit {0}) Refusal) → p ≡ old.pool → slots ≡ old.slots → new.pool ≡ p' → new.slots ≡ slots
      → IsMessageMade view p p' m result → IsHubOrdered view old m new result
  hub_ordered old new p p' slots m result pool_is slots_are new_is same met line is =
      let took = Orders line ∷ [] in
      let answers = flush_told result ∷ [] in
      let ran : RunsSo view (sessions_of slots) p took answers (sessions_of slots) p' =
      (told_to [], told_to answers, (message_taken line m p p' result is met).runs (sessions_of slots), one_told (flush_told result)) in
      subst (λ (q : D). RunsSo view (sessions_of old.slots) q took answers (sessions_of new.slots) new.pool) pool_is
      (subst (λ (l : Slots). RunsSo view (sessions_of l) p took answers (sessions_of new.slots) new.pool) slots_are
      (subst (λ (q : D). RunsSo view (sessions_of slots) p took answers (sessions_of new.slots) q) (sym new_is)
      (subst (λ (l : Slots). RunsSo view (sessions_of slots) p took answers (sessions_of l) p') (sym same) ran)))

  pub serves_ordered : (p p' : D) (slots : Slots) (m : Message) (result : Result (Unit {0}) Refusal) → IsMessageMade view p p' m result → Serves (view.outline p) (view.more p) slots → Serves (view.outline p') (view.more p') slots
  serves_ordered p p' slots m (Ok done) met serves =
      serves_kept (view.outline p) (view.outline p') (view.more p) (view.more p') slots met.geometry (met.holds ∙ message_holds m (view.outline p).holds calls.Done) met.more serves
  serves_ordered p p' slots m (Err reason) met serves =
      serves_kept (view.outline p) (view.outline p') (view.more p) (view.more p') slots met.geometry (met.holds ∙ message_holds m (view.outline p).holds (calls.Refused reason)) met.more serves

  -- before its commit
  pub serves_unkept : (p p' : D) (slots : Slots) (m : Message) → Unkept view p p' (call_of m) → Serves (view.outline p) (view.more p) slots → Serves (view.outline p') (view.more p') slots
  serves_unkept p p' slots m u serves =
      serves_kept (view.outline p) (view.outline p') (view.more p) (view.more p') slots (ap (λ (o : Outline). o.geometry) u.outline) (ap (λ (o : Outline). o.holds) u.outline) (λ id before after. u.more id before) serves
