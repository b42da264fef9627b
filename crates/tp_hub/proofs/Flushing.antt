-- A flush that a hub makes: one run of it, whose sessions stay as they are.
use Rattle.std.proofs.Common.{◌≡◌, ◌∙◌, true, List, [], ◌∷◌, refl, sym, subst, arith}
use Rattle.std.specs.Prelude.{Err, Ok, Result}
use Rattle.tp_model.specs.declared.refusal.Refusal.{Refusal}
use Rattle.tp_model.specs.Calls as calls
use Rattle.tp_model.specs.Clauses.{View}
use Rattle.tp_model.specs.Flushing.{IsFlushed}
use Rattle.tp_hub.specs.Told.{Accepts, Answer, Grows, Refuses, Told}
use Rattle.tp_hub.specs.Runs.{AsksFlush}
use Rattle.tp_hub.specs.Desks.{RunsSo}
use Rattle.tp_hub.specs.Flushes.{IsHubFlushed, flush_told}
use Rattle.tp_hub.specs.Places.{PoolTakes}
use Rattle.tp_hub.specs.Serving.{HubState, Serves, Slots, sessions_of}
use Rattle.tp_hub.proofs.Asking.{flush_so}

-- a buffer that has these answers
abbrev pub told_to : List Answer → Told
told_to answers = record { list = answers; room = 0; marks = 0; most = 0 }

pub one_told : (answer : Answer) → Grows (told_to []) (told_to (answer ∷ [])) (answer ∷ [])
one_told answer = record { list = refl; room = record { room = omega arith; most = refl }; marks = omega arith }

module _ {D : Type 0} (view : View D) where
  pub flush_taken : (p p' : D) (result : Result (Unit {0}) Refusal) → IsFlushed view p p' result → PoolTakes view AsksFlush p true 0 (told_to []) (told_to (flush_told result ∷ [])) p'
  flush_taken p p' (Ok done) met =
      flush_so view p p' (told_to []) (told_to []) (told_to (Accepts ∷ [])) refl (omega arith) (omega arith) (calls.Done, Accepts ∷ [], met, refl, one_told Accepts)
  flush_taken p p' (Err reason) met =
      flush_so view p p' (told_to []) (told_to []) (told_to (Refuses reason ∷ [])) refl (omega arith) (omega arith) (calls.Refused reason, Refuses reason ∷ [], met, refl, one_told (Refuses reason))

  -- the hub that it came of, and the one behind it
  pub hub_flushed : (old new : HubState D) (p p' : D) (slots : Slots) (result : Result (Unit {0}) Refusal) → p ≡ old.pool → slots ≡ old.slots → new.pool ≡ p' → new.slots ≡ slots → IsFlushed view p p' result → IsHubFlushed view old new result
  hub_flushed old new p p' slots result pool_is slots_are new_is same met =
      let took = AsksFlush ∷ [] in
      let answers = flush_told result ∷ [] in
      let ran : RunsSo view (sessions_of slots) p took answers (sessions_of slots) p' =
      (told_to [], told_to answers, (flush_taken p p' result met).runs (sessions_of slots), one_told (flush_told result)) in
      record {
        run = subst (λ (q : D). RunsSo view (sessions_of old.slots) q took answers (sessions_of new.slots) new.pool) pool_is
            (subst (λ (l : Slots). RunsSo view (sessions_of l) p took answers (sessions_of new.slots) new.pool) slots_are
            (subst (λ (q : D). RunsSo view (sessions_of slots) p took answers (sessions_of new.slots) q) (sym new_is)
            (subst (λ (l : Slots). RunsSo view (sessions_of slots) p took answers (sessions_of l) p') (sym same) ran)));
        pool = subst (λ (q : D). IsFlushed view q new.pool result) pool_is (subst (λ (q : D). IsFlushed view p q result) (sym new_is) met);
        slots = same ∙ slots_are;
      }

  pub serves_behind : (p p' : D) (slots : Slots) (result : Result (Unit {0}) Refusal) → IsFlushed view p p' result → Serves (view.outline p) (view.more p) slots → Serves (view.outline p') (view.more p') slots
  serves_behind p p' slots result met serves = (flush_taken p p' result met).keeps slots serves

  -- the hub that it still is
  pub still_hub : (old now : HubState D) → now.pool ≡ old.pool → now.slots ≡ old.slots → now ≡ old
  still_hub old now pool_is slots_are = λ i. record { pool = pool_is i; slots = slots_are i }
