-- How a trace ends that a pool has, where the pool is closed.
use Rattle.std.proofs.Common.{◌≡◌, ℕ, ◌+◌, ◌-◌, ◌≤◌, Bool, true, false, List, [], ◌∷◌, ◌++◌, ◌⊎◌, inl, inr, Some, refl, sym, ap, subst, ◌∙◌, arith}
use Rattle.tp_model.specs.declared.refusal.Refusal.{Refusal}
use Rattle.tp_model.specs.declared.refusal.Refusal.TheVariants.{Failed, Fault}
use Rattle.tp_model.specs.Pool.{Outline, PlainPool}
use Rattle.tp_model.specs.Calls.{Answer, Call, Done, Refused, HasCause, MayAnswer}
use Rattle.std.specs.Prelude.{Err, IfErr, IsTrue, MatchResult, Ok, OnOk, Result}
use Rattle.std.proofs.lemmas.Bool.{false≢true}
use Rattle.std.proofs.lemmas.Option.{same_Some}
use Rattle.tp_model.specs.PoolStops.{Event, MayBeLeft, Nothing, keeps, reopened, state_after}
use Rattle.tp_model.proofs.Found.{MayReopen-nothing}
use Rattle.tp_model.specs.Clauses.{Called, Continues, Entry, HasTrace, IsAnswered, IsTrace, Traced, TracedCall, View, ViewLaws, events_of, failed_in, found_now, found_since, traced}
use Rattle.tp_failures.specs.declared.failure.Failure.{Failure}
use Rattle.tp_failures.specs.Failures.{number_of}
use Rattle.tp_commands.specs.Lives.{closing_of}
use Rattle.tp_model.proofs.PoolStopLaws.{call_leaves, call_left}
use Rattle.tp_model.proofs.Running.{IsTrace-append, events-append, reopened_after, trace_state}

-- the answers of closing
abbrev IsOfClosing : Answer → Type 0
IsOfClosing answer = (answer ≡ Done) ⊎ (answer ≡ Refused Failed) ⊎ (answer ≡ Refused Fault)

failed_since : (xs ys : List Entry) → failed_in (xs ++ ys) ≡ failed_in xs + failed_in ys
failed_since [] ys = omega arith
failed_since (x ∷ xs) ys = let e = failed_since xs ys in omega (arith, e)

-- the number of failures that closing added
cause_alone : (n : ℕ) (answer : Answer) (m : ℕ) → IsOfClosing answer → HasCause n answer m → (n ≤ m) × HasCause 0 answer (m - n)
cause_alone n Done m is h = (omega (arith, h), omega (arith, h))
cause_alone n (Refused Failed) m is h = (omega (arith, h), omega (arith, h))
cause_alone n (Refused Fault) m is h = (omega (arith, h), omega (arith, h))
cause_alone n answer m (inl is) h = subst (λ (a : Answer). HasCause n a m → (n ≤ m) × HasCause 0 a (m - n)) (sym is) (λ k. (omega (arith, k), omega (arith, k))) h
cause_alone n answer m (inr (inl is)) h = subst (λ (a : Answer). HasCause n a m → (n ≤ m) × HasCause 0 a (m - n)) (sym is) (λ k. (omega (arith, k), omega (arith, k))) h
cause_alone n answer m (inr (inr is)) h = subst (λ (a : Answer). HasCause n a m → (n ≤ m) × HasCause 0 a (m - n)) (sym is) (λ k. (omega (arith, k), omega (arith, k))) h

module _ {D : Type 0} (v : View D) (laws : ViewLaws v) (from : D) (s : PlainPool) where
  -- what is left after a call is left in it
  left_in_call : (old new : D) (image : v.Image) → v.moment old ≤ v.moment new → v.left_since new (v.moment new) image → v.left_since new (v.moment old) image
  left_in_call old new image later l = laws.wider new (v.moment old) (v.moment new) image later l

  -- one call more, of which no more is known than what is known of closing
  pub close_traced : (old new : D) (t : Traced) (call : Call) (answer : Answer) → IsOfClosing answer → HasTrace v from s old t → Called v old new call answer → IsAnswered v old new call answer
      → (t' : Traced) × TracedCall v.has_use t call answer t' × HasTrace v from s new t' × Continues v from s old t new t'
      × (IsTrue (keeps call answer) → (P : PlainPool) → found_now v new P → P ≡ reopened t'.pool)
  close_traced old new t call answer is has called answered =
      let may : MayAnswer t.pool.mode call answer = subst (λ (o : Outline). MayAnswer o.mode call answer) (sym (laws.shown old t.pool has.shown)) answered.may in
      let m = called.meets t.pool has.shown in
      let e : Event = record { before = t.pool; call = call; answer = answer; made = m.0 } in
      let c = cause_alone (v.failures old) answer (v.failures new) is called.cause in
      let x : Entry = record { event = e; failed = v.failures new - v.failures old } in
      let one : IsTrace v.has_use t.pool (x ∷ []) m.1 = (m.1, refl, m.2, c.1, may, laws.used new m.1 m.3, refl) in
      let at : reopened t.pool ≡ reopened (state_after s (events_of t.trace)) = trace_state v.has_use s t.trace t.pool has.is_trace in
      let events : events_of (t.trace ++ x ∷ []) ≡ events_of t.trace ++ e ∷ [] = events-append t.trace (x ∷ []) in
      let sum : failed_in (t.trace ++ x ∷ []) ≡ failed_in t.trace + (v.failures new - v.failures old + 0) = failed_since t.trace (x ∷ []) in
      let was : v.failures old ≡ v.failures from + failed_in t.trace = has.failures_are in
      let rise : v.failures old ≤ v.failures new = c.0 in
      let opens = called.opens t.pool has.shown in (
        traced m.1 (t.trace ++ x ∷ []),
        record { entry = x; call_is = refl; answer_is = refl; trace_is = refl; is_trace = one },
        record {
          shown = m.3;
          is_trace = IsTrace-append v.has_use s t.trace t.pool (x ∷ []) m.1 has.is_trace one;
          failures_are = omega (arith, sum, was, rise);
          opens = λ image l. opens image (left_in_call old new image called.time.later l);
          left = λ P l. subst (λ es. MayBeLeft (found_now v from) s es Nothing P) (sym events)
              (call_left (found_now v from) s (events_of t.trace) (found_now v old) has.left e at (found_since v new (v.moment old)) (found_now v new) m.4 P l);
        },
        record {
          since = x ∷ [];
          trace_is = refl;
          time = called.time;
          opens = opens;
          left = call_leaves (found_now v from) s (events_of t.trace) (found_now v old) has.left e at (found_since v new (v.moment old)) (found_now v new) m.4;
        },
        λ k P found. let stops = m.4 in MayReopen-nothing m.0 P (stops.kept k P found) ∙ sym (reopened_after t.pool call answer m.0 m.1 m.2),
      )

-- ---- what is known of closing

abbrev is_done : Answer → Bool
is_done Done = true
is_done answer = false

refused_is_not_done : (reason : Refusal) → Refused reason ≡ Done → ⊥
refused_is_not_done reason e = false≢true (ap is_done e)

-- what a result tells of closing
pub closing_so : (P : Answer → Type 0) (r : Result (Unit {0}) Refusal) → MatchResult r (λ _. P Done) (λ reason. P (Refused reason)) → P (closing_of r)
closing_so P (Ok done) h = h
closing_so P (Err reason) h = h

pub closing_known : (r : Result (Unit {0}) Refusal) → IfErr r (λ reason. (reason ≡ Failed) ⊎ (reason ≡ Fault)) → IsOfClosing (closing_of r)
closing_known (Ok done) h = inl refl
closing_known (Err reason) (inl e) = inr (inl (ap Refused e))
closing_known (Err reason) (inr e) = inr (inr (ap Refused e))

-- what is known where closing was done
pub where_done : (P : Type 0) (r : Result (Unit {0}) Failure) → OnOk r P → Some (closing_of (number_of r)) ≡ Some Done → P
where_done P (Ok done) h same = h
where_done P (Err why) h same = absurd (refused_is_not_done why.refusal (same_Some (Refused why.refusal) Done same))
