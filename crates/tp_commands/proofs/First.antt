-- The first pool.
use Rattle.std.proofs.Common.{◌≡◌, inl, inr, ℕ, Bool, true, false, List, [], Option, Some, None, sym, ap, sum_by, ◌∙◌}
use Rattle.std.specs.Prelude.{MatchOption}
use Rattle.std.proofs.lemmas.Bool.{false≢true}
use Rattle.std.specs.FinMap.{empty, entries}
use Rattle.tp_model.specs.declared.refusal.Refusal.{Refusal}
use Rattle.tp_model.specs.Pool.{PlainPool, hold_total}
use Rattle.tp_model.specs.Calls.{Answer, Call, Done, Makes, Refused, Takes, after_refusal, refusal_of, reply}
use Rattle.tp_model.proofs.Maps.{entries_empty}
use Rattle.tp_holders.specs.Holders.{Holding, counts_of, holds_of}

abbrev is_done : Answer → Bool
is_done Done = true
is_done answer = false

not_refused : (reason : Refusal) → Done ≡ Refused reason → ⊥
not_refused reason e = false≢true (sym (ap is_done e))

made_of : (p : PlainPool) (call : Call) (q : PlainPool) (o : Option Refusal)
    → MatchOption o ((Done ≡ reply p call) × Makes p call q) (λ reason. (Done ≡ Refused reason) × (q ≡ after_refusal reason p)) → Makes p call q
made_of p call q None h = h.1
made_of p call q (Some reason) h = absurd (not_refused reason h.0)

-- a call that is done makes the state after it
pub done_makes : (s : PlainPool) (call : Call) (made after : PlainPool) → Takes s call Done made after → Makes s call after
done_makes s call made after (inl step) = made_of s call after (refusal_of s call) step.0
done_makes s call made after (inr fault) = absurd (not_refused _ fault.0)

-- where the list of those who hold volumes is empty, there are no holds
pub no_holds : (holders : List Holding) → holders ≡ [] → hold_total (holds_of holders) ≡ 0
unfolding counts_of
no_holds holders none =
    ap (λ (l : List Holding). sum_by (λ (e : ℕ × ℕ). e.1) (entries (holds_of l))) none ∙ ap (λ (l : List (ℕ × ℕ)). sum_by (λ e. e.1) l) entries_empty

pub unheld : (holders : List Holding) → holders ≡ [] → holds_of holders ≡ empty
unfolding counts_of
unheld holders none = ap holds_of none
