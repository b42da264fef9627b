-- An event that is answered by a flush which was made for it.
use Rattle.std.proofs.Common.{◌≡◌, ℕ, zero, suc, ◌+◌, ◌<◌, ◌≤◌, Bool, true, false, true≢false, List, [], ◌∷◌, ◌++◌, drop, length, length-append, length-drop, length-take, take, Option, Some, None, get_or, inl, inr, refl, sym, ap, subst, ◌∙◌, arith}
use Rattle.std.specs.Prelude.{Err, IfSome, Ok, Result, slice_set}
use Rattle.std.proofs.lemmas.List.{get_or_read, take_all}
use Rattle.tp_model.specs.declared.refusal.Refusal.{Refusal}
use Rattle.tp_model.specs.Geometry.{Geometry}
use Rattle.tp_model.specs.Clauses.{PoolCall, View}
use Rattle.tp_model.specs.Flushing.{IsFlushed}
use Rattle.nbd_session.specs.declared.session.Answered.{Answered}
use Rattle.nbd_session.specs.declared.phase.Phase.{Phase}
use Rattle.nbd_session.specs.declared.phase.Phase.TheVariants.{Ended}
use Rattle.nbd_session.specs.Flushes.{IsAtFlush}
use Rattle.nbd_session.specs.Session.{State, state, has_ended, is_at_work, is_to_flush}
use Rattle.nbd_session.specs.Clauses.{Advances, IsReady}
use Rattle.nbd_session.specs.Turns.{Sessions}
use Rattle.tp_hub.specs.Told.{Grows, Told}
use Rattle.tp_hub.specs.Runs.{AsksFlush, Brings, Incoming, Runs, answered_in, closed_if, is_busy, said, taken_of}
use Rattle.tp_hub.specs.Desks.{IsAsked, IsCut, RunsSo}
use Rattle.tp_hub.specs.Flushed.{EndsFlush, TakesFlushed}
use Rattle.tp_hub.specs.Flushes.{flush_told}
use Rattle.tp_hub.specs.Places.{HearsAnywhere, IsRan, IsReadySlot, put}
use Rattle.tp_hub.specs.Serving.{Serves, Slots, sessions_of, shown, slot_at}
use Rattle.tp_hub.specs.Staged.{MakesFlush}
use Rattle.tp_hub.proofs.Flushing.{flush_taken, one_told, told_to}
use Rattle.tp_hub.proofs.Placing.{sessions_set, serves_kept}
use Rattle.tp_hub.proofs.Telling.{put_there}
use Rattle.tp_hub.proofs.Hearing.{hears_more, hears_none, hears_part, keeps_more, keeps_none, told_end}
use Rattle.tp_hub.proofs.Taking.{brings_all, idle_is_free, no_text_is_free, ready_slot}

-- a session that has parts of a request left takes no text
busy_none : (phase : Phase) (piece : List ℕ) → is_busy phase piece ≡ false → is_at_work phase ≡ true → piece ≡ []
busy_none phase [] free work = refl
busy_none phase (byte ∷ bytes) free work = absurd (true≢false (sym work ∙ free))

-- ---- a session that makes a FLUSH next

pub makes_none : (s : State) (piece : List ℕ) → (IsAtFlush s piece → ⊥) → is_to_flush s.phase ≡ false → MakesFlush s piece → ⊥
makes_none s piece at left (inl is) = at is
makes_none s piece at left (inr is) = true≢false (sym is.1 ∙ left)

pub makes_free : (s : State) (piece : List ℕ) → MakesFlush s piece → is_busy s.phase piece ≡ false
makes_free s piece (inl is) = idle_is_free s.phase piece (ap is_at_work is.phase_is)
makes_free s piece (inr is) = no_text_is_free s.phase piece is.0

-- so there is one
pub makes_some : (slot : Option State) (piece : List ℕ) → slot ≡ None → MakesFlush (shown slot) piece → ⊥
makes_some slot piece none makes = by_none (subst (λ (o : Option State). MakesFlush (shown o) piece) none makes)
  where
    by_none : MakesFlush (state Ended []) piece → ⊥
    by_none (inl is) = let phase = is.phase_is in absurd cc
    by_none (inr is) = let left = is.1 in absurd cc

-- ---- a buffer that is written over

take_short : (n : ℕ) (xs : List ℕ) → length (take n xs) ≤ length xs
take_short zero xs = omega arith
take_short (suc n) [] = omega arith
take_short (suc n) (x ∷ xs) = let few = take_short n xs in omega (arith, few)

pub still_few : (n : ℕ) (new old : List ℕ) (most : ℕ) → length new ≡ length old → length old ≤ most → length (take n (new ++ drop (length new) old)) ≤ most
still_few n new old most same few =
    let all = length-append new (drop (length new) old) in
    let behind = length-drop (length new) old in
    let short = take_short n (new ++ drop (length new) old) in
    omega (arith, all, behind, short, same, few)

ran_some : (work : Bool) (piece : List ℕ) (taken events bytes : ℕ) → (work ≡ false → 0 < taken) → (work ≡ true → piece ≡ []) → IsRan taken (length piece) events bytes → 0 < events + bytes
ran_some true piece taken events bytes some none (inl (lt, e, b)) = let len : length piece ≡ 0 = ap length (none refl) in absurd (omega (arith, len, lt))
ran_some false piece taken events bytes some none (inl (lt, e, b)) = let more = some refl in omega (arith, more, b)
ran_some work piece taken events bytes some none (inr (is, e, b)) = omega (arith, e)

module _ {D : Type 0} (view : View D) where
  -- an answer that was put at a place
  pub ended_there : (o : Option Answered) (s new : State) (sizes : Geometry) (answer : Result (Unit {0}) Refusal) (piece : List ℕ) (at : ℕ) (old part post : List ℕ) → at ≤ length old
      → IfSome o (λ a. (p q : D) → (view.outline p).geometry ≡ sizes → IsReady s.phase (view.outline p) (view.more p) → IsFlushed view p q answer → Advances view s p piece a.taken (take a.sent part) a.ended new q)
      → IfSome o (λ a. (a.ended ≡ false) × (a.taken ≤ length piece) × (is_at_work s.phase ≡ false → 0 < a.taken)) → IfSome o (λ a. a.sent ≤ length part)
      → IfSome o (λ a. (sent : List ℕ) × (length sent ≡ a.sent) × (take (at + a.sent) (take at old ++ (part ++ post)) ≡ take at old ++ sent) × EndsFlush view sizes answer s piece a.taken sent new)
  ended_there None s new sizes answer piece at old part post le steps goes fits = tt
  ended_there (Some a) s new sizes answer piece at old part post le steps goes fits = (
    take a.sent part,
    omega (arith, length-take a.sent part, fits),
    put_there at a.sent old part post le fits,
    λ p q same ready met. subst (λ (b : Bool). Advances view s p piece a.taken (take a.sent part) b new q) goes.0 (steps p q same ready met),
  )

  -- ---- one ask, by what was taken

  asked_by : (n : ℕ) (piece : List ℕ) (at at' : Sessions) (p p' : D) (events bytes : ℕ) (before after : Told) (took : List Incoming) → Runs view.outline (PoolCall view) at p took before after at' p'
      → took ≡ taken_of (Brings n piece ∷ []) events bytes → IsCut (Brings n piece) events bytes → 0 < events + bytes → IsAsked (λ took answers. RunsSo view at p took answers at' p') (Brings n piece) events bytes before after
  asked_by n piece at at' p p' events bytes before after took run is cut some =
      let r = subst (λ (l : List Incoming). Runs view.outline (PoolCall view) at p l before after at' p') is run in
      record {
        answers = answered_in r.served;
        did = (before, after, r, r.adds);
        adds = r.adds;
        cut = cut;
        silent = λ none nothing. absurd (omega (arith, some, none, nothing));
        begun = λ room. some;
      }

  abbrev RanFront : ℕ → List ℕ → Sessions → D → Sessions → D → ℕ → Told → Told → Type 0
  RanFront n piece at p at' p' a before after = Runs view.outline (PoolCall view) at p (Brings n (take a piece) ∷ []) before after at' p'

  asked_part : (n : ℕ) (piece : List ℕ) (at at' : Sessions) (p p' : D) (a : ℕ) (before after : Told) → RanFront n piece at p at' p' a before after → 0 < a → a < length piece
      → IsAsked (λ took answers. RunsSo view at p took answers at' p') (Brings n piece) 0 a before after
  asked_part n piece at at' p p' zero before after run some lt = absurd (omega (arith, some))
  asked_part n piece at at' p p' (suc a) before after run some lt = asked_by n piece at at' p p' 0 (suc a) before after (Brings n (take (suc a) piece) ∷ []) run refl (inr lt) (omega arith)

  asked_whole : (n : ℕ) (piece : List ℕ) (at at' : Sessions) (p p' : D) (a : ℕ) (before after : Told) → RanFront n piece at p at' p' a before after → a ≡ length piece
      → IsAsked (λ took answers. RunsSo view at p took answers at' p') (Brings n piece) 1 0 before after
  asked_whole n piece at at' p p' a before after run is =
      asked_by n piece at at' p p' 1 0 before after (Brings n (take a piece) ∷ []) run (ap (λ (l : List ℕ). Brings n l ∷ []) (take_all a piece (omega (arith, is)))) (refl, refl) (omega arith)

  asked_so : (n : ℕ) (piece : List ℕ) (at at' : Sessions) (p p' : D) (a events bytes : ℕ) (before after : Told) → RanFront n piece at p at' p' a before after → 0 < events + bytes → IsRan a (length piece) events bytes
      → IsAsked (λ took answers. RunsSo view at p took answers at' p') (Brings n piece) events bytes before after
  asked_so n piece at at' p p' a events bytes before after run some (inl (lt, e, b)) =
      let any : 0 < a = omega (arith, some, e, b) in
      subst (λ (k : ℕ). IsAsked (λ took answers. RunsSo view at p took answers at' p') (Brings n piece) k bytes before after) (sym e)
      (subst (λ (k : ℕ). IsAsked (λ took answers. RunsSo view at p took answers at' p') (Brings n piece) 0 k before after) (sym b) (asked_part n piece at at' p p' a before after run any lt))
  asked_so n piece at at' p p' a events bytes before after run some (inr (is, e, b)) =
      subst (λ (k : ℕ). IsAsked (λ took answers. RunsSo view at p took answers at' p') (Brings n piece) k bytes before after) (sym e)
      (subst (λ (k : ℕ). IsAsked (λ took answers. RunsSo view at p took answers at' p') (Brings n piece) 1 k before after) (sym b) (asked_whole n piece at at' p p' a before after run is))

  -- ---- the step of one session

  module _ (n : ℕ) (s new : State) (p p' : D) (piece sent : List ℕ) (taken : ℕ) (before after : Told) (is_open : has_ended s.phase ≡ false) (adv : Advances view s p piece taken sent false new p')
      (grows : Grows before after (said n sent ++ closed_if n false)) where
    -- one that had parts of a request left, and one that had none
    hears_left : is_at_work s.phase ≡ true → piece ≡ [] → HearsAnywhere view n s p (take taken piece) before after new p'
    hears_left work none =
        let text : [] ≡ take taken piece = sym (ap (take taken) none ∙ none_taken taken) in
        subst (λ (t : List ℕ). HearsAnywhere view n s p t before after new p') text (hears_part view n s new p p' piece sent taken false before after work is_open none adv grows)
      where
        none_taken : (k : ℕ) → take {A = ℕ} k [] ≡ []
        none_taken zero = refl
        none_taken (suc k) = refl

    hears_frame : is_at_work s.phase ≡ false → 0 < taken → HearsAnywhere view n s p (take taken piece) before after new p'
    hears_frame idle some =
        let inside = adv.inside in
        let any : 0 < length piece = omega (arith, inside, some) in
        let whole : 0 + taken ≡ taken = omega arith in
        subst (λ (k : ℕ). HearsAnywhere view n s p (take k piece) before after new p') whole
        (hears_more view n s s new p p p' piece piece sent 0 taken false before before before after (omega arith) any idle refl is_open (hears_none view n s p piece before) refl (omega arith) (omega arith) adv grows)

    hears_by : (work : Bool) → is_at_work s.phase ≡ work → (is_at_work s.phase ≡ false → 0 < taken) → is_busy s.phase piece ≡ false → HearsAnywhere view n s p (take taken piece) before after new p'
    hears_by true is some free = hears_left is (busy_none s.phase piece free is)
    hears_by false is some free = hears_frame is (some is)

    free_by : (work : Bool) → is_at_work s.phase ≡ work → is_busy s.phase piece ≡ false → is_busy s.phase (take taken piece) ≡ false
    free_by true is free =
        let none = busy_none s.phase piece free is in
        ap (is_busy s.phase) (ap (take taken) none ∙ none_taken taken)
      where
        none_taken : (k : ℕ) → take {A = ℕ} k [] ≡ []
        none_taken zero = refl
        none_taken (suc k) = refl
    free_by false is free = idle_is_free s.phase (take taken piece) is

    pub takes_flushed : (events bytes : ℕ) → is_busy s.phase piece ≡ false → (is_at_work s.phase ≡ false → 0 < taken) → IsRan taken (length piece) events bytes → TakesFlushed view n piece (Some s) p events bytes before after (Some new) p'
    takes_flushed events bytes free some ran =
        let goes = told_end view s new p p' piece sent taken false is_open adv in
        let hears = hears_by (is_at_work s.phase) refl some free in
        let keeps = keeps_more view n s s new p p p' piece sent taken false (keeps_none view n (Some s) p) adv goes in
        let slot = brings_all view n (Some s) s new (take taken piece) p p' before after refl is_open (free_by (is_at_work s.phase) refl free) hears keeps in
        record {
          asked = λ at is. asked_so n piece at (put at n new) p p' taken events bytes before after (slot.runs at is) (ran_some (is_at_work s.phase) piece taken events bytes some (λ work. busy_none s.phase piece free work) ran) ran;
          keeps = keeps;
        }

  -- ---- a flush before it

  serves_before : (p q : D) (slots : Slots) (answer : Result (Unit {0}) Refusal) → IsFlushed view p q answer → Serves (view.outline q) (view.more q) slots → Serves (view.outline p) (view.more p) slots
  serves_before p q slots (Ok done) met serves = serves_kept (view.outline q) (view.outline p) (view.more q) (view.more p) slots (sym met.geometry) (sym met.holds) (λ v after before. sym (met.more v before after)) serves
  serves_before p q slots (Err reason) met serves = serves_kept (view.outline q) (view.outline p) (view.more q) (view.more p) slots (sym met.geometry) (sym met.holds) (λ v after before. sym (met.more v before after)) serves

  same_sizes : (p q : D) (sizes : Geometry) (answer : Result (Unit {0}) Refusal) → sizes ≡ (view.outline q).geometry → IsFlushed view p q answer → (view.outline p).geometry ≡ sizes
  same_sizes p q sizes (Ok done) is met = sym met.geometry ∙ sym is
  same_sizes p q sizes (Err reason) is met = sym met.geometry ∙ sym is

  -- ---- an event

  -- the slot of its session was answered so, if it was
  abbrev pub SlotEnds : ℕ → List ℕ → Option State → D → Result (Unit {0}) Refusal → ℕ → ℕ → Told → Told → Option State → Type 0
  SlotEnds n piece old p' answer events bytes before after new =
      (p : D) → IsReadySlot old (view.outline p) (view.more p) → IsFlushed view p p' answer → TakesFlushed view n piece old p events bytes before after new p'

  module _ (n i : ℕ) (slots : Slots) (d old new : Option State) (p' : D) (piece : List ℕ) (answer : Result (Unit {0}) Refusal) (events bytes : ℕ) (before after : Told) (i_is : i ≡ n) (lt : n < 64) (serves : Serves (view.outline p') (view.more p') slots)
      (d_is : d ≡ get_or slots i d) (old_is : old ≡ d) (ends : SlotEnds n piece old p' answer events bytes before after new) where
    inside : n < length slots
    inside = omega (arith, lt, serves.count)

    here : slot_at slots n ≡ old
    here = ap (slot_at slots) (sym i_is) ∙ (sym (get_or_read slots i d (omega (arith, i_is, inside)) d_is None) ∙ sym old_is)

    ended_by : (p : D) → IsFlushed view p p' answer → TakesFlushed view n piece old p events bytes before after new p'
    ended_by p met = ends p (ready_slot view slots n old p lt (serves_before p p' slots answer met serves) here) met

    pub event_asked : (p : D) → IsFlushed view p p' answer → IsAsked (λ took answers. RunsSo view (sessions_of slots) p took answers (sessions_of (slice_set slots i new)) p') (Brings n piece) events bytes before after
    event_asked p met =
        subst (λ j. IsAsked (λ took answers. RunsSo view (sessions_of slots) p took answers (sessions_of (slice_set slots j new)) p') (Brings n piece) events bytes before after) (sym i_is)
        (subst (λ (r : Sessions). IsAsked (λ took answers. RunsSo view (sessions_of slots) p took answers r p') (Brings n piece) events bytes before after) (sym (sessions_set slots n new inside))
        ((ended_by p met).asked (sessions_of slots) (ap shown here)))

    pub event_serves : (p : D) → IsFlushed view p p' answer → Serves (view.outline p') (view.more p') (slice_set slots i new)
    event_serves p met =
        subst (λ j. Serves (view.outline p') (view.more p') (slice_set slots j new)) (sym i_is) ((ended_by p met).keeps slots inside here (serves_before p p' slots answer met serves))

  -- the event `Flush`, which its own flush answers
  pub flush_asked : (at : Sessions) (p p' : D) (answer : Result (Unit {0}) Refusal) (before after : Told) → IsFlushed view p p' answer → Grows before after (flush_told answer ∷ [])
      → IsAsked (λ took answers. RunsSo view at p took answers at p') AsksFlush 1 0 before after
  flush_asked at p p' answer before after met grows = record {
    answers = flush_told answer ∷ [];
    did = (told_to [], told_to (flush_told answer ∷ []), (flush_taken view p p' answer met).runs at, one_told (flush_told answer));
    adds = grows;
    cut = (refl, refl);
    silent = λ none nothing. absurd (omega (arith, none));
    begun = λ room. omega arith;
  }

  -- the session of a slot was answered so, where it has one
  pub session_ends : (n : ℕ) (s new : State) (p' : D) (sizes : Geometry) (piece : List ℕ) (answer : Result (Unit {0}) Refusal) (taken : ℕ) (before after : Told) → sizes ≡ (view.outline p').geometry → is_busy s.phase piece ≡ false
      → (is_at_work s.phase ≡ false → 0 < taken) → (sent : List ℕ) × EndsFlush view sizes answer s piece taken sent new × Grows before after (said n sent ++ closed_if n false)
      → (events bytes : ℕ) → IsRan taken (length piece) events bytes
      → (p : D) → IsReady s.phase (view.outline p) (view.more p) → has_ended s.phase ≡ false → IsFlushed view p p' answer → TakesFlushed view n piece (Some s) p events bytes before after (Some new) p'
  session_ends n s new p' sizes piece answer taken before after sizes_are free some did events bytes ran p ready is_open met =
      takes_flushed n s new p p' piece did.0 taken before after is_open (did.1 p p' (same_sizes p p' sizes answer sizes_are met) ready met) did.2 events bytes free some ran
