-- What the first slot of a walk says of the block that it begins with.
use Rattle.std.proofs.Common.{◌≡◌, inl, inr, ℕ, Bool, true, false, Option, None, Some, is_some, List, [], ◌∷◌, ap}
use Rattle.std.specs.Prelude.{MatchOption}
use Rattle.std.specs.FinMap.{entries}
use Rattle.std.proofs.lemmas.Bool.{false≢true}
use Rattle.tp_model.specs.declared.refusal.Refusal.{Refusal}
use Rattle.tp_model.specs.Pool.{PlainPool, slot_at, volume_slots}
use Rattle.tp_model.specs.Calls.{Answer, Listed, Makes, Refused, Takes, Walk, after_refusal, piece_from, refusal_of, reply}
use Rattle.tp_model.specs.Clauses.{Meets, View}
use Rattle.tp_model.proofs.Walking.{first_is}
use Rattle.tp_model.specs.Slots.{BlockSlot, listed}
use Rattle.tp_users.specs.Walked.{begins_at}

is_refused : Answer → Bool
is_refused (Refused reason) = true
is_refused answer = false

slots_in : Answer → List (ℕ × ℕ)
slots_in (Listed slots) = slots
slots_in answer = []

gives : (s after : PlainPool) (id from : ℕ) (xs : List (ℕ × ℕ)) (o : Option Refusal)
    → MatchOption o ((Listed xs ≡ reply s (Walk id from)) × Makes s (Walk id from) after) (λ r. (Listed xs ≡ Refused r) × (after ≡ after_refusal r s)) → xs ≡ piece_from from (entries (volume_slots s id))
unfolding is_refused slots_in
gives s after id from xs None h = ap slots_in h.0
gives s after id from xs (Some r) h = absurd (false≢true (ap is_refused h.0))

-- what is listed is what the plain pool lists
plainly : (s made after : PlainPool) (id from : ℕ) (xs : List (ℕ × ℕ)) → Takes s (Walk id from) (Listed xs) made after → xs ≡ piece_from from (entries (volume_slots s id))
unfolding is_refused
plainly s made after id from xs (inl step) = gives s after id from xs (refusal_of s (Walk id from)) step.0
plainly s made after id from xs (inr fault) = absurd (false≢true (ap is_refused fault.0))

begins : (s : PlainPool) (id block : ℕ) (xs : List BlockSlot) → listed xs ≡ piece_from block (entries (volume_slots s id)) → begins_at block xs ≡ is_some (slot_at s id block)
begins s id block [] is = first_is s id block [] is
begins s id block (x ∷ xs) is = first_is s id block (listed (x ∷ xs)) is

pub has : {D : Type 0} (view : View D) (old new : D) (s : PlainPool) (id block : ℕ) (xs : List BlockSlot) → view.shows old s → Meets view old new (Walk id block) (Listed (listed xs))
    → begins_at block xs ≡ is_some (slot_at s id block)
has view old new s id block xs shown met =
    let m = met.called.meets s shown in begins s id block xs (plainly s m.0 m.1 id block (listed xs) m.2)
