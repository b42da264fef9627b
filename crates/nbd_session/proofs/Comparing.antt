-- An older volume that a session compares with is held, and what is held is neither deleted nor grown.
use Rattle.std.proofs.Common.{◌≡◌, ℕ, ◌<◌, Option, Some, None, inl, inr, refl, arith}
use Rattle.std.specs.Prelude.{MatchOption}
use Rattle.tp_model.specs.declared.refusal.Refusal.{Refusal}
use Rattle.tp_model.specs.declared.refusal.Refusal.TheVariants.{Fault}
use Rattle.tp_model.specs.Pool.{PlainPool, hold_count}
use Rattle.tp_model.specs.Calls.{Delete, Done, Grow, Refused, Takes, after_refusal, refusal_of}
use Rattle.tp_model.proofs.Holds.{not_held}
use Rattle.tp_model.proofs.HeldSizes.{not_busy}

done_not_refused : (reason : Refusal) → Done ≡ Refused reason → ⊥
done_not_refused reason e = absurd cc

-- what is done was not refused by a test
accepted : (o : Option Refusal) (A : Type 0) (s after : PlainPool) → MatchOption o A (λ reason. (Done ≡ Refused reason) × (after ≡ after_refusal reason s)) → o ≡ None
accepted None A s after h = refl
accepted (Some reason) A s after h = absurd (done_not_refused reason h.0)

pub held_not_deleted : (s made after : PlainPool) (id : ℕ) → 0 < hold_count s.holds id → Takes s (Delete id) Done made after → ⊥
held_not_deleted s made after id some (inl h) = let free = not_held s id (accepted (refusal_of s (Delete id)) _ s after h.0) in absurd (omega (arith, some, free))
held_not_deleted s made after id some (inr h) = done_not_refused Fault h.0

pub held_not_grown : (s made after : PlainPool) (id blocks : ℕ) → 0 < hold_count s.holds id → Takes s (Grow id blocks) Done made after → ⊥
held_not_grown s made after id blocks some (inl h) = let free = not_busy s id blocks (accepted (refusal_of s (Grow id blocks)) _ s after h.0) in absurd (omega (arith, some, free))
held_not_grown s made after id blocks some (inr h) = done_not_refused Fault h.0
