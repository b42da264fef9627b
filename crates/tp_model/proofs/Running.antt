-- Calls one after another, and their trace.
use Rattle.std.proofs.Common.{◌≡◌, ℕ, ◌+◌, ◌-◌, ◌≤◌, Bool, true, false, List, [], ◌∷◌, ◌++◌, ◌⊎◌, inl, inr, refl, sym, ap, subst, ◌∙◌, arith, append_assoc, append-nil}
use Rattle.std.specs.Prelude.{Result, Ok, Err, MatchResult}
use Rattle.std.specs.Bool.{MatchBool}
use Rattle.tp_model.specs.declared.refusal.Refusal.{Refusal}
use Rattle.tp_model.specs.declared.refusal.Refusal.TheVariants as refusals
use Rattle.std.proofs.lemmas.List.{map-append}
use Rattle.tp_model.specs.declared.mode.Mode.TheVariants as mode
use Rattle.tp_model.specs.Pool.{Outline, PlainPool}
use Rattle.tp_model.specs.Calls.{Call, Answer, Done, Gave, Line, Found, Sized, Listed, Refused, Takes, Step, is_writing, HasCause, MayAnswer}
use Rattle.tp_model.specs.PoolStops.{Event, Nothing, MayBeLeft, MayBeLeftSince, reopened, state_after}
use Rattle.tp_model.specs.Clauses.{Entry, Traced, TracedCall, IsTrace, events_of, failed_in, traced, GoesOn, Meets, OpensSince, found_now, found_since, HasTrace, Continues, Asked, AreCalls, AreTraced, PoolCall, View, ViewLaws, last_of}
use Rattle.tp_model.proofs.PoolStopLaws.{call_leaves, call_left, MayBeLeft-none, MayBeLeftSince-none, MayBeLeftSince-more, MayBeLeftSince-later, state_from}

after_fault : (s made after : PlainPool) (call : Call) (b : Bool) → MatchBool b (((meant : Answer) × Step s call meant made) × (after ≡ record made { mode = mode.Failed })) ((made ≡ s) × (after ≡ s)) → reopened after ≡ reopened made
after_fault s made after call true h = ap reopened h.1
after_fault s made after call false h = ap reopened (h.1 ∙ sym h.0)

-- after a call there is what it made, but for the mode and the holds
pub reopened_after : (s : PlainPool) (call : Call) (answer : Answer) (made after : PlainPool) → Takes s call answer made after → reopened after ≡ reopened made
reopened_after s call answer made after (inl h) = ap reopened (sym h.1)
reopened_after s call answer made after (inr h) = after_fault s made after call (is_writing call) h.1

-- ---- traces

failed_in-append : (xs ys : List Entry) → failed_in (xs ++ ys) ≡ failed_in xs + failed_in ys
failed_in-append [] ys = omega arith
failed_in-append (x ∷ xs) ys = let e = failed_in-append xs ys in omega (arith, e)

pub events-append : (xs ys : List Entry) → events_of (xs ++ ys) ≡ events_of xs ++ events_of ys
events-append xs ys = map-append (λ (x : Entry). x.event) xs ys

-- the number of failures that a call added
cause_of_refusal : (n : ℕ) (reason : Refusal) (m : ℕ) → HasCause n (Refused reason) m → (n ≤ m) × HasCause 0 (Refused reason) (m - n)
cause_of_refusal n refusals.BadGeometry m h = (omega (arith, h), omega (arith, h))
cause_of_refusal n refusals.Damaged m h = (omega (arith, h), omega (arith, h))
cause_of_refusal n refusals.NotAPool m h = (omega (arith, h), omega (arith, h))
cause_of_refusal n refusals.BadVersion m h = (omega (arith, h), omega (arith, h))
cause_of_refusal n refusals.Fault m h = (omega (arith, h), omega (arith, h))
cause_of_refusal n refusals.Memory m h = (omega (arith, h), omega (arith, h))
cause_of_refusal n refusals.BadSyntax m h = (omega (arith, h), omega (arith, h))
cause_of_refusal n refusals.UnknownMessage m h = (omega (arith, h), omega (arith, h))
cause_of_refusal n refusals.BadDeviceId m h = (omega (arith, h), omega (arith, h))
cause_of_refusal n refusals.Exists m h = (omega (arith, h), omega (arith, h))
cause_of_refusal n refusals.NoSuchDevice m h = (omega (arith, h), omega (arith, h))
cause_of_refusal n refusals.Busy m h = (omega (arith, h), omega (arith, h))
cause_of_refusal n refusals.StaleTransactionId m h = (omega (arith, h), omega (arith, h))
cause_of_refusal n refusals.NoMetadataSpace m h = (omega (arith, h), omega (arith, h))
cause_of_refusal n refusals.TooManyDevices m h = (omega (arith, h), omega (arith, h))
cause_of_refusal n refusals.ReadOnly m h = (omega (arith, h), omega (arith, h))
cause_of_refusal n refusals.Failed m h = (omega (arith, h), omega (arith, h))
cause_of_refusal n refusals.SessionInUse m h = (omega (arith, h), omega (arith, h))
cause_of_refusal n refusals.NoSession m h = (omega (arith, h), omega (arith, h))
cause_of_refusal n refusals.NoDataSpace m h = (omega (arith, h), omega (arith, h))
cause_of_refusal n refusals.BadSize m h = (omega (arith, h), omega (arith, h))
cause_of_refusal n refusals.HeldRootExists m h = (omega (arith, h), omega (arith, h))
cause_of_refusal n refusals.NoHeldRoot m h = (omega (arith, h), omega (arith, h))
cause_of_refusal n refusals.BadSuper m h = (omega (arith, h), omega (arith, h))
cause_of_refusal n refusals.BadNode m h = (omega (arith, h), omega (arith, h))
cause_of_refusal n refusals.BadOrder m h = (omega (arith, h), omega (arith, h))
cause_of_refusal n refusals.BadCount m h = (omega (arith, h), omega (arith, h))
cause_of_refusal n refusals.OutOfPlace m h = (omega (arith, h), omega (arith, h))
cause_of_refusal n refusals.HalfEmpty m h = (omega (arith, h), omega (arith, h))
cause_of_refusal n refusals.BadMapped m h = (omega (arith, h), omega (arith, h))
cause_of_refusal n refusals.BadRecordSize m h = (omega (arith, h), omega (arith, h))

cause_alone : (n : ℕ) (answer : Answer) (m : ℕ) → HasCause n answer m → (n ≤ m) × HasCause 0 answer (m - n)
cause_alone n Done m h = (omega (arith, h), omega (arith, h))
cause_alone n (Gave xs) m h = (omega (arith, h), omega (arith, h))
cause_alone n (Line xs) m h = (omega (arith, h), omega (arith, h))
cause_alone n (Found xs) m h = (omega (arith, h), omega (arith, h))
cause_alone n (Sized blocks) m h = (omega (arith, h), omega (arith, h))
cause_alone n (Listed slots) m h = (omega (arith, h), omega (arith, h))
cause_alone n (Refused reason) m h = cause_of_refusal n reason m h

module _ (HasUse : PlainPool → Type 0) where
  pub IsTrace-append : (s : PlainPool) (first : List Entry) (mid : PlainPool) (second : List Entry) (after : PlainPool) → IsTrace HasUse s first mid → IsTrace HasUse mid second after → IsTrace HasUse s (first ++ second) after
  IsTrace-append s [] mid second after a b = subst (λ (x : PlainPool). IsTrace HasUse x second after) a b
  IsTrace-append s (e ∷ es) mid second after a b = (a.0, a.1, a.2, a.3, a.4, a.5, IsTrace-append a.0 es mid second after a.6 b)

  -- the state after the events of a trace, but for the mode and the holds
  pub trace_state : (s : PlainPool) (trace : List Entry) (after : PlainPool) → IsTrace HasUse s trace after → reopened after ≡ reopened (state_after s (events_of trace))
  trace_state s [] after h = ap reopened h
  trace_state s (x ∷ xs) after h =
      trace_state h.0 xs after h.6 ∙ state_from h.0 x.event.made (reopened_after s x.event.call x.event.answer x.event.made h.0 h.2) (events_of xs)

module _ {D : Type 0} (v : View D) (laws : ViewLaws v) where
  -- ---- time

  pub no_time : (d : D) → GoesOn v d d
  no_time d = record { later = omega arith; still = λ t image l h. h; earlier = λ t image l h. inl h }

  pub more_time : (a b c : D) → GoesOn v a b → GoesOn v b c → GoesOn v a c
  more_time a b c one two =
      let l1 : v.moment a ≤ v.moment b = one.later in
      let l2 : v.moment b ≤ v.moment c = two.later in
      record {
        later = omega arith;
        still = λ t image l h. let m : t ≤ v.moment b = omega arith in two.still t image m (one.still t image l h);
        earlier = λ t image l h.
            let m : t ≤ v.moment b = omega arith in
            elim (two.earlier t image m h) [
              | inl x ↦ elim (one.earlier t image l x) [ inl y ↦ inl y | inr y ↦ inr (two.still (v.moment a) image l1 y) ]
              | inr x ↦ inr (laws.wider c (v.moment a) (v.moment b) image l1 x)
            ];
      }

  -- what is left since a moment was left by then, or since another one
  left_by_then : (a b c : D) (image : v.Image) → GoesOn v a b → GoesOn v b c → v.left_since c (v.moment a) image → v.left_since b (v.moment a) image ⊎ v.left_since c (v.moment b) image
  left_by_then a b c image one two l = two.earlier (v.moment a) image one.later l

  -- what is left after a call is left in it
  left_in_call : (old new : D) (image : v.Image) → GoesOn v old new → v.left_since new (v.moment new) image → v.left_since new (v.moment old) image
  left_in_call old new image time l = laws.wider new (v.moment old) (v.moment new) image time.later l

  module _ (from : D) (s : PlainPool) where
    abbrev Has : D → Traced → Type 0
    Has d t = HasTrace v from s d t

    abbrev Goes : D → Traced → D → Traced → Type 0
    Goes d t d' t' = Continues v from s d t d' t'

    -- nothing was done
    pub starts : v.shows from s → OpensSince v from (v.moment from) → Has from (traced s [])
    starts shown opens = record {
      shown = shown;
      is_trace = refl;
      failures_are = omega arith;
      opens = opens;
      left = MayBeLeft-none (found_now v from) s (λ P o. laws.at_rest o.0 P o.2);
    }

    pub stays : (d : D) (t : Traced) → Has d t → Goes d t d t
    stays d t has = record {
      since = [];
      trace_is = sym (append-nil t.trace);
      time = no_time d;
      opens = has.opens;
      left = λ P l. MayBeLeftSince-none (found_now v from) s (events_of t.trace) P (has.left P (l.0, laws.only_now d l.0 l.1, l.2));
    }

    -- one call more
    pub call_traced : (old new : D) (t : Traced) (call : Call) (answer : Answer) → Has old t → Meets v old new call answer
        → (t' : Traced) × (is : TracedCall v.has_use t call answer t') × Has new t' × (goes : Goes old t new t') × (goes.since ≡ is.entry ∷ [])
    call_traced old new t call answer has meets =
        let called = meets.called in
        let may : MayAnswer t.pool.mode call answer = subst (λ (o : Outline). MayAnswer o.mode call answer) (sym (laws.shown old t.pool has.shown)) meets.answered.may in
        let m = called.meets t.pool has.shown in
        let e : Event = record { before = t.pool; call = call; answer = answer; made = m.0 } in
        let c = cause_alone (v.failures old) answer (v.failures new) called.cause in
        let x : Entry = record { event = e; failed = v.failures new - v.failures old } in
        let one : IsTrace v.has_use t.pool (x ∷ []) m.1 = (m.1, refl, m.2, c.1, may, laws.used new m.1 m.3, refl) in
        let at : reopened t.pool ≡ reopened (state_after s (events_of t.trace)) = trace_state v.has_use s t.trace t.pool has.is_trace in
        let events : events_of (t.trace ++ x ∷ []) ≡ events_of t.trace ++ e ∷ [] = events-append t.trace (x ∷ []) in
        let sum : failed_in (t.trace ++ x ∷ []) ≡ failed_in t.trace + (v.failures new - v.failures old + 0) = failed_in-append t.trace (x ∷ []) in
        let was : v.failures old ≡ v.failures from + failed_in t.trace = has.failures_are in
        let rise : v.failures old ≤ v.failures new = c.0 in
        let opens = called.opens t.pool has.shown in (
          traced m.1 (t.trace ++ x ∷ []),
          record { entry = x; call_is = refl; answer_is = refl; trace_is = refl; is_trace = one },
          record {
            shown = m.3;
            is_trace = IsTrace-append v.has_use s t.trace t.pool (x ∷ []) m.1 has.is_trace one;
            failures_are = omega (arith, sum, was, rise);
            opens = λ image l. opens image (left_in_call old new image called.time l);
            left = λ P l. subst (λ es. MayBeLeft (found_now v from) s es Nothing P) (sym events)
                (call_left (found_now v from) s (events_of t.trace) (found_now v old) has.left e at (found_since v new (v.moment old)) (found_now v new) m.4 P l);
          },
          record {
            since = x ∷ [];
            trace_is = refl;
            time = called.time;
            opens = opens;
            left = call_leaves (found_now v from) s (events_of t.trace) (found_now v old) has.left e at (found_since v new (v.moment old)) (found_now v new) m.4;
          },
          refl,
        )

    -- one after another
    pub goes_on : (a b c : D) (t u w : Traced) → Goes a t b u → Goes b u c w → Goes a t c w
    goes_on a b c t u w one two =
        let events : events_of u.trace ≡ events_of t.trace ++ events_of one.since = ap events_of one.trace_is ∙ events-append t.trace one.since in
        let all : events_of (one.since ++ two.since) ≡ events_of one.since ++ events_of two.since = events-append one.since two.since in
        record {
          since = one.since ++ two.since;
          trace_is = two.trace_is ∙ ap (λ xs. xs ++ two.since) one.trace_is ∙ append_assoc t.trace one.since two.since;
          time = more_time a b c one.time two.time;
          opens = λ image l. elim (left_by_then a b c image one.time two.time l) [ inl x ↦ one.opens image x | inr x ↦ two.opens image x ];
          left = λ P l. subst (λ es. MayBeLeftSince (found_now v from) s (events_of t.trace) es P) (sym all)
              (elim (left_by_then a b c l.0 one.time two.time l.1) [
                | inl x ↦ MayBeLeftSince-more (found_now v from) s (events_of t.trace) (events_of one.since) (events_of two.since) P (one.left P (l.0, x, l.2))
                | inr x ↦ MayBeLeftSince-later (found_now v from) s (events_of t.trace) (events_of one.since) (events_of two.since) P
                    (subst (λ es. MayBeLeftSince (found_now v from) s es (events_of two.since) P) events (two.left P (l.0, x, l.2)))
              ]);
        }

    -- a list of calls
    pub calls_traced : (d : D) (t : Traced) (calls : List (Asked D)) → Has d t → AreCalls (PoolCall v) d calls
        → (ks : List (Asked Traced)) × AreTraced v from s d t calls ks
    calls_traced d t [] has are = ([], tt)
    calls_traced d t (c ∷ cs) has are =
        let m = call_traced d c.after t c.call c.answer has are.0 in
        let rest = calls_traced c.after m.0 cs m.2 are.1 in
        (record { call = c.call; answer = c.answer; after = m.0 } ∷ rest.0, (refl, refl, m.1, m.2, m.3, rest.1))

    -- after the last of them
    pub last_traced : (d : D) (t : Traced) (calls : List (Asked D)) (ks : List (Asked Traced)) → Has d t → AreTraced v from s d t calls ks → Has (last_of d calls) (last_of t ks)
    last_traced d t [] [] has are = has
    last_traced d t (c ∷ cs) (k ∷ ks) has are = last_traced c.after k.after cs ks are.3 are.5
    last_traced d t [] (k ∷ ks) has are = absurd are
    last_traced d t (c ∷ cs) [] has are = absurd are

-- the answer that a result tells
pub answer_of : {A : Type 0} (r : Result A Refusal) (P : Answer → Type 0) → MatchResult r (λ _. P Done) (λ reason. P (Refused reason)) → (answer : Answer) × P answer
answer_of (Ok x) P h = (Done, h)
answer_of (Err reason) P h = (Refused reason, h)
