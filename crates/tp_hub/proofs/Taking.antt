-- One event at the place of its session.
use Rattle.std.proofs.Common.{◌⊎◌, ◌≢◌, ◌≤◌, ◌≡◌, ℕ, zero, suc, ◌+◌, ◌<◌, Bool, true, false, List, [], ◌∷◌, ◌++◌, length, take, drop, Option, Some, None, get_or, inl, inr, refl, sym, ap, subst, ◌∙◌, arith, append_assoc, append-nil}
use Rattle.std.specs.Prelude.{◌==◌, MatchBool, map, not, slice_set}
use Rattle.std.specs.FinMap.{empty}
use Rattle.std.proofs.Math.Seq.{drop-cons}
use Rattle.std.proofs.Math.ListN.{get_or-map}
use Rattle.std.proofs.lemmas.Bool.{cases_eq, eq-eqb, ne_eqb}
use Rattle.std.proofs.lemmas.List.{get_or-set_other, get_or-set_same, get_or_read, length-map, take-append-drop, take_all, take_more}
use Rattle.tp_model.specs.Pool.{Outline}
use Rattle.tp_model.specs.Calls.{Call}
use Rattle.tp_model.specs.Calls as calls
use Rattle.tp_model.specs.declared.refusal.Refusal.{Refusal}
use Rattle.tp_model.specs.declared.refusal.Refusal.TheVariants.{NoSession, SessionInUse}
use Rattle.tp_model.specs.Clauses.{PoolCall, View}
use Rattle.nbd_wire.specs.Replies.{greeting}
use Rattle.nbd_session.specs.declared.phase.Phase.TheVariants.{Flags, Ended}
use Rattle.nbd_session.specs.declared.phase.Phase.{Phase}
use Rattle.nbd_session.specs.declared.phase.Profile.{Profile}
use Rattle.nbd_session.specs.Session.{State, state, LetsGo, has_ended, is_at_work, volumes_in}
use Rattle.nbd_session.specs.Clauses.{IsCalm, Leaves}
use Rattle.nbd_session.specs.Turns.{AreTurns, Happened, Opens, Sessions, TakesTurn, Turn, closed, pool_after, sessions_after}
use Rattle.nbd_session.specs.Turns as turns
use Rattle.tp_hub.specs.Told.{Answer, Closes, Grows, IsFull, Refuses, Says, Told}
use Rattle.tp_hub.specs.declared.event.Event.{Event}
use Rattle.tp_pages.specs.Pages.{unit_of}
use Rattle.tp_hub.specs.Runs.{AreServed, AsksDeltaOf, AsksFlush, AsksLine, AsksLineOf, AsksMapOf, AsksSizeOf, Brings, Comes, Goes, Incoming, Orders, IsAnswered, is_busy, IsPart, IsPartOfNext, IsShort, IsShortOfNext, Runs, Served, answered_in, answers_in, events_in, front_of, front_of_next, incoming, session_in, taken_of, turns_in}
use Rattle.tp_hub.specs.Places.{HearsAnywhere, IsRest, IsTaken, KeepsServing, SlotTakes, put, taken_part, IsOpenSlot, IsReadySlot, TakesEvent}
use Rattle.tp_hub.specs.Serving.{AreLeaving, LeaveTo, Serves, Slots, sessions_of, shown, slot_at, volumes_at, GoesOn}
use Rattle.tp_hub.proofs.Placing.{HoldsMove, none_by, none_hold, none_open, open_at, put_is, put_other, put_same, ready_at, serves_set, sessions_set}
use Rattle.tp_hub.proofs.Turning.{grows_then, no_text, pool_join, sessions_join, turns_join}
use Rattle.tp_hub.proofs.Hearing.{keeps_none}

module _ {S : Type 0} (outline : S → Outline) (Calls : S → Call → calls.Answer → S → Type 0) where
  pub runs_none : (at at' : Sessions) (p p' : S) (before after : Told) → at ≡ at' → p ≡ p' → Grows before after [] → Runs outline Calls at p [] before after at' p'
  runs_none at at' p p' before after same pool grows = record { served = []; are = tt; events_are = refl; sessions_are = same; pool_is = pool; adds = grows }

  pub runs_one : (at at' : Sessions) (p p' : S) (event : Incoming) (hs : List (Happened S)) (answers : List Answer) (before after : Told) → IsAnswered (unit_of (outline p).geometry) at event hs answers → AreTurns outline Calls at p hs
      → sessions_after at hs ≡ at' → pool_after p hs ≡ p' → Grows before after answers → Runs outline Calls at p (event ∷ []) before after at' p'
  runs_one at at' p p' event hs answers before after answered are sessions pool grows = record {
    served = record { event = event; turns = hs; answers = answers } ∷ [];
    are = (answered, are, tt);
    events_are = refl;
    sessions_are = ap (sessions_after at) (append-nil hs) ∙ sessions;
    pool_is = ap (pool_after p) (append-nil hs) ∙ pool;
    adds = subst (Grows before after) (sym (append-nil answers)) grows;
  }

by_true : (b : Bool) (P Q : Type 0) → b ≡ true → P → MatchBool b P Q
by_true true P Q e p = p
by_true false P Q e p = absurd cc

by_false : (b : Bool) (P Q : Type 0) → b ≡ false → Q → MatchBool b P Q
by_false false P Q e q = q
by_false true P Q e q = absurd cc

ended_at : (at : Sessions) (n : ℕ) (slot : Option State) → at n ≡ shown slot → slot ≡ None → has_ended (at n).phase ≡ true
ended_at at n slot is none = ap (λ (s : State). has_ended s.phase) is ∙ ap (λ (o : Option State). has_ended (shown o).phase) none

open_there : (at : Sessions) (n : ℕ) (s : State) (slot : Option State) → at n ≡ shown slot → slot ≡ Some s → has_ended s.phase ≡ false → has_ended (at n).phase ≡ false
open_there at n s slot is some is_open = ap (λ (r : State). has_ended r.phase) is ∙ (ap (λ (o : Option State). has_ended (shown o).phase) some ∙ is_open)

-- whether a session takes text
busy_there : (at : Sessions) (n : ℕ) (s : State) (slot : Option State) (piece : List ℕ) (b : Bool) → at n ≡ shown slot → slot ≡ Some s → is_busy s.phase piece ≡ b → is_busy (at n).phase piece ≡ b
busy_there at n s slot piece b is some busy = ap (λ (r : State). is_busy r.phase piece) is ∙ (ap (λ (o : Option State). is_busy (shown o).phase piece) some ∙ busy)

free_there : (at : Sessions) (n : ℕ) (s : State) (slot : Option State) (piece : List ℕ) → at n ≡ shown slot → slot ≡ Some s → is_busy s.phase piece ≡ false → is_busy (at n).phase piece ≡ false
free_there at n s slot piece is some free = busy_there at n s slot piece false is some free

pub idle_is_free : (phase : Phase) (piece : List ℕ) → is_at_work phase ≡ false → is_busy phase piece ≡ false
idle_is_free phase [] idle = refl
idle_is_free phase (byte ∷ bytes) idle = idle

pub no_text_is_free : (phase : Phase) (piece : List ℕ) → piece ≡ [] → is_busy phase piece ≡ false
no_text_is_free phase piece none = ap (is_busy phase) none

pub no_bytes : (piece : List ℕ) → (length piece == 0) ≡ true → piece ≡ []
no_bytes [] e = refl
no_bytes (byte ∷ bytes) e = let some : length (byte ∷ bytes) ≢ 0 = λ none. absurd (omega (arith, none)) in let is : (length (byte ∷ bytes) == 0) ≡ false = ne_eqb (length (byte ∷ bytes)) 0 some in absurd cc

pub some_bytes : (piece : List ℕ) → (length piece == 0) ≡ false → 0 < length piece
some_bytes [] e = let is : (length {A = ℕ} [] == 0) ≡ true = eq-eqb 0 0 refl in absurd cc
some_bytes (byte ∷ bytes) e = omega arith

pub work_is_busy : (phase : Phase) (piece : List ℕ) → is_at_work phase ≡ true → 0 < length piece → is_busy phase piece ≡ true
work_is_busy phase [] work some = absurd (omega (arith, some))
work_is_busy phase (byte ∷ bytes) work some = work

module _ {D : Type 0} (view : View D) where
  -- nothing was taken
  pub takes_nothing : (event : Incoming) (slot : Option State) (p : D) (before after : Told) → Grows before after [] → front_of event 0 ≡ []
      → ((at : Sessions) → at (session_in event) ≡ shown slot → IsPart at event 0 × IsShort at event 0 after) → SlotTakes view event slot p false 0 before after slot p
  takes_nothing event slot p before after grows none part = record {
    runs = λ at is. subst (λ l. Runs view.outline (PoolCall view) at p l before after (put at (session_in event) (shown slot)) p) (sym none)
        (runs_none view.outline (PoolCall view) at (put at (session_in event) (shown slot)) p p before after (sym (put_is at (session_in event) (shown slot) is)) refl grows);
    part = part;
    keeps = keeps_none view (session_in event) slot p;
  }

  -- an event was refused
  pub takes_refused : (event : Incoming) (slot : Option State) (p : D) (reason : Refusal) (before after : Told) → Grows before after (Refuses reason ∷ [])
      → ((at : Sessions) → at (session_in event) ≡ shown slot → IsAnswered {S = D} (unit_of (view.outline p).geometry) at event [] (Refuses reason ∷ [])) → SlotTakes view event slot p true 0 before after slot p
  takes_refused event slot p reason before after grows refused = record {
    runs = λ at is. runs_one view.outline (PoolCall view) at (put at (session_in event) (shown slot)) p p event [] (Refuses reason ∷ []) before after (refused at is) tt (sym (put_is at (session_in event) (shown slot) is)) refl grows;
    part = λ at is. refl;
    keeps = keeps_none view (session_in event) slot p;
  }

  -- there was no room for its answer
  pub takes_no_room : (event : Incoming) (slot : Option State) (p : D) (before after : Told) → Grows before after [] → front_of event 0 ≡ [] → ((at : Sessions) → IsPart at event 0) → IsFull after → SlotTakes view event slot p false 0 before after slot p
  takes_no_room event slot p before after grows none part full = takes_nothing event slot p before after grows none (λ at is. (part at, short event at))
    where
      short : (event : Incoming) (at : Sessions) → IsShort at event 0 after
      short (Comes n a) at = inl full
      short (Brings n piece) at = inl full
      short (Goes n) at = full
      short (Orders line) at = full
      short AsksLine at = full
      short (AsksLineOf volume) at = full
      short (AsksSizeOf volume) at = full
      short (AsksMapOf volume from) at = full
      short (AsksDeltaOf old new from) at = full
      short AsksFlush at = full

  -- ---- a client comes

  -- there was no memory for its session
  pub comes_to_nothing : (n : ℕ) (a : Profile) (slot : Option State) (p : D) (before after : Told) → slot ≡ None → Grows before after [] → SlotTakes view (Comes n a) slot p false 0 before after slot p
  comes_to_nothing n a slot p before after none grows = takes_nothing (Comes n a) slot p before after grows refl (λ at is. (refl, inr (ended_at at n slot is none)))

  pub comes_to_open : (n : ℕ) (a : Profile) (slot : Option State) (s : State) (p : D) (before after : Told) → slot ≡ Some s → has_ended s.phase ≡ false → Grows before after (Refuses SessionInUse ∷ []) → SlotTakes view (Comes n a) slot p true 0 before after slot p
  comes_to_open n a slot s p before after some is_open grows =
      takes_refused (Comes n a) slot p SessionInUse before after grows (λ at is. by_false (has_ended (at n).phase) _ _ (open_there at n s slot is some is_open) (refl, refl))

  pub comes : (n : ℕ) (a : Profile) (slot : Option State) (s : State) (p : D) (before after : Told) → slot ≡ None → s ≡ state (Flags a) [] → IsCalm s → Grows before after (Says n greeting ∷ []) → SlotTakes view (Comes n a) slot p true 0 before after (Some s) p
  comes n a slot s p before after none fresh calm grows = record {
    runs = λ at is.
        let h : Happened D = record { turn = Opens n a greeting; sessions = put at n s; pool = p } in
        let was : at n ≡ state Ended [] = is ∙ ap shown none in
        let turn : TakesTurn view.outline (PoolCall view) at p (Opens n a greeting) (put at n s) p = (refl, (λ i ne. put_other at n s i ne), was, put_same at n s ∙ fresh, refl) in
        runs_one view.outline (PoolCall view) at (put at n s) p p (Comes n a) (h ∷ []) (Says n greeting ∷ []) before after
        (by_true (has_ended (at n).phase) _ _ (ended_at at n slot is none) (greeting, (h, refl, refl), refl)) (turn, tt) refl refl grows;
    part = λ at is. refl;
    keeps = λ slots lt is serves.
        serves_set (view.outline p) (view.outline p) (view.more p) (view.more p) slots n slot (Some s) lt is serves refl (λ v before after. refl) (subst (λ (r : State). GoesOn (view.outline p).geometry (view.more p) r.phase) (sym fresh) tt, calm)
        (subst (λ (o : Option State). HoldsMove (volumes_at o) (volumes_at (Some s)) (view.outline p).holds (view.outline p).holds) (sym none)
        (subst (λ (r : State). HoldsMove [] (volumes_in r.phase) (view.outline p).holds (view.outline p).holds) (sym fresh) (λ others all. all)));
  }

  -- ---- a client sends a piece

  -- there was no room, and the session has parts of a request left
  pub brings_nothing : (n : ℕ) (slot : Option State) (old : State) (piece : List ℕ) (p : D) (before after : Told) → slot ≡ Some old → Grows before after [] → IsFull after → SlotTakes view (Brings n piece) slot p false 0 before after slot p
  brings_nothing n slot old piece p before after some grows full = takes_nothing (Brings n piece) slot p before after grows refl (λ at here. (inl refl, inl full))

  -- while it has, it takes no text
  pub brings_to_busy : (n : ℕ) (slot : Option State) (old : State) (piece : List ℕ) (p : D) (before after : Told) → slot ≡ Some old → has_ended old.phase ≡ false → is_busy old.phase piece ≡ true → Grows before after (Refuses SessionInUse ∷ [])
      → SlotTakes view (Brings n piece) slot p true 0 before after slot p
  brings_to_busy n slot old piece p before after some is_open busy grows =
      takes_refused (Brings n piece) slot p SessionInUse before after grows (λ at is.
      by_false (has_ended (at n).phase) _ _ (open_there at n old slot is some is_open) (by_true (is_busy (at n).phase piece) _ _ (busy_there at n old slot piece true is some busy) (refl, refl)))

  pub brings_to_none : (n : ℕ) (slot : Option State) (piece : List ℕ) (p : D) (whole : Bool) (bytes : ℕ) (before after : Told) → slot ≡ None → (whole ≡ true → Grows before after (Refuses NoSession ∷ [])) → (whole ≡ false → Grows before after [])
      → (whole ≡ false → IsFull after) → bytes ≡ 0 → SlotTakes view (Brings n piece) slot p whole bytes before after slot p
  brings_to_none n slot piece p true bytes before after none spoke silent full is =
      subst (λ b. SlotTakes view (Brings n piece) slot p true b before after slot p) (sym is)
      (takes_refused (Brings n piece) slot p NoSession before after (spoke refl) (λ at here. by_true (has_ended (at n).phase) _ _ (ended_at at n slot here none) (refl, refl)))
  brings_to_none n slot piece p false bytes before after none spoke silent full is =
      subst (λ b. SlotTakes view (Brings n piece) slot p false b before after slot p) (sym is)
      (takes_nothing (Brings n piece) slot p before after (silent refl) refl (λ at here. (inl refl, inl (full refl))))

  pub brings_all : (n : ℕ) (slot : Option State) (old new : State) (piece : List ℕ) (p p' : D) (before after : Told) → slot ≡ Some old → has_ended old.phase ≡ false → is_busy old.phase piece ≡ false → HearsAnywhere view n old p piece before after new p'
      → KeepsServing view n (Some old) p (Some new) p' → SlotTakes view (Brings n piece) slot p true 0 before after (Some new) p'
  brings_all n slot old new piece p p' before after some is_open free hears keeps = record {
    runs = λ at is.
        let x = hears at (is ∙ ap shown some) in
        runs_one view.outline (PoolCall view) at (put at n new) p p' (Brings n piece) x.turns (answers_in x.turns) before after
        (by_false (has_ended (at n).phase) _ _ (open_there at n old slot is some is_open) (by_false (is_busy (at n).phase piece) _ _ (free_there at n old slot piece is some free) (record { text = piece; dropped = []; cut = sym (append-nil piece); takes = x.takes; all = inl refl }, refl)))
        x.are x.sessions_are x.pool_is x.adds;
    part = λ at is. refl;
    keeps = subst (λ (o : Option State). KeepsServing view n o p (Some new) p') (sym some) keeps;
  }

  pub brings_end : (n : ℕ) (slot : Option State) (old new : State) (piece : List ℕ) (a : ℕ) (p p' : D) (before after : Told) → slot ≡ Some old → has_ended old.phase ≡ false → is_busy old.phase piece ≡ false → HearsAnywhere view n old p (take a piece) before after new p'
      → new ≡ state Ended [] → KeepsServing view n (Some old) p None p' → SlotTakes view (Brings n piece) slot p true 0 before after None p'
  brings_end n slot old new piece a p p' before after some is_open free hears over keeps = record {
    runs = λ at is.
        let x = hears at (is ∙ ap shown some) in
        let gone : has_ended (sessions_after at x.turns n).phase ≡ true = ap (λ (r : Sessions). has_ended (r n).phase) x.sessions_are ∙ (ap (λ (r : State). has_ended r.phase) (put_same at n new) ∙ ap (λ (r : State). has_ended r.phase) over) in
        runs_one view.outline (PoolCall view) at (put at n (state Ended [])) p p' (Brings n piece) x.turns (answers_in x.turns) before after
        (by_false (has_ended (at n).phase) _ _ (open_there at n old slot is some is_open) (by_false (is_busy (at n).phase piece) _ _ (free_there at n old slot piece is some free) (record { text = take a piece; dropped = drop a piece; cut = sym (take-append-drop a piece); takes = x.takes; all = inr gone }, refl)))
        x.are (x.sessions_are ∙ ap (put at n) over) x.pool_is x.adds;
    part = λ at is. refl;
    keeps = subst (λ (o : Option State). KeepsServing view n o p None p') (sym some) keeps;
  }

  pub brings_part : (n : ℕ) (slot : Option State) (old new : State) (piece : List ℕ) (a : ℕ) (p p' : D) (before after : Told) → slot ≡ Some old → has_ended old.phase ≡ false → is_at_work old.phase ≡ false → a < length piece → HearsAnywhere view n old p (take a piece) before after new p'
      → has_ended new.phase ≡ false → KeepsServing view n (Some old) p (Some new) p' → IsFull after ⊎ ((0 < a) × (is_at_work new.phase ≡ true)) → SlotTakes view (Brings n piece) slot p false a before after (Some new) p'
  brings_part n slot old new piece zero p p' before after some is_open idle lt hears goes keeps (inr work) = let some = work.0 in absurd (omega (arith, some))
  brings_part n slot old new piece zero p p' before after some is_open idle lt hears goes keeps (inl full) = record {
    runs = λ at is.
        let x = hears at (is ∙ ap shown some) in
        let none = no_text at n x.turns (ap (λ (r : State). is_at_work r.phase) (is ∙ ap shown some) ∙ idle) x.takes in
        runs_none view.outline (PoolCall view) at (put at n new) p p' before after (sym (ap (sessions_after at) none) ∙ x.sessions_are) (sym (ap (pool_after p) none) ∙ x.pool_is) (subst (λ (l : List (Happened D)). Grows before after (answers_in l)) none x.adds);
    part = λ at is. (inl refl, inl full);
    keeps = subst (λ (o : Option State). KeepsServing view n o p (Some new) p') (sym some) keeps;
  }
  brings_part n slot old new piece (suc a) p p' before after some is_open idle lt hears goes keeps cause = record {
    runs = λ at is.
        let x = hears at (is ∙ ap shown some) in
        runs_one view.outline (PoolCall view) at (put at n new) p p' (Brings n (take (suc a) piece)) x.turns (answers_in x.turns) before after
        (by_false (has_ended (at n).phase) _ _ (open_there at n old slot is some is_open) (by_false (is_busy (at n).phase (take (suc a) piece)) _ _ (free_there at n old slot (take (suc a) piece) is some (idle_is_free old.phase (take (suc a) piece) idle)) (record { text = take (suc a) piece; dropped = []; cut = sym (append-nil (take (suc a) piece)); takes = x.takes; all = inl refl }, refl)))
        x.are x.sessions_are x.pool_is x.adds;
    part = λ at is. (inr (lt, ap (λ (r : State). has_ended r.phase) is ∙ goes), short at is cause);
    keeps = subst (λ (o : Option State). KeepsServing view n o p (Some new) p') (sym some) keeps;
  }
    where
      short : (at : Sessions) → at n ≡ shown (Some new) → IsFull after ⊎ ((0 < suc a) × (is_at_work new.phase ≡ true)) → IsFull after ⊎ ((0 < suc a) × (is_at_work (at n).phase ≡ true))
      short at is (inl full) = inl full
      short at is (inr work) = inr (work.0, ap (λ (r : State). is_at_work r.phase) is ∙ work.1)

  -- what was heard up to where a long request begins
  pub brings_parted : (n : ℕ) (slot : Option State) (old new : State) (piece : List ℕ) (whole : Bool) (left a : ℕ) (p p' : D) (before after : Told) → slot ≡ Some old → has_ended old.phase ≡ false → is_at_work old.phase ≡ false
      → IsRest whole left a (length piece) → 0 < a → a ≤ length piece → HearsAnywhere view n old p (take a piece) before after new p' → has_ended new.phase ≡ false → KeepsServing view n (Some old) p (Some new) p' → is_at_work new.phase ≡ true
      → SlotTakes view (Brings n piece) slot p whole left before after (Some new) p'
  brings_parted n slot old new piece true left a p p' before after some is_open idle rest pos le hears goes keeps work =
      let all : take a piece ≡ piece = take_all a piece (omega (arith, rest.0)) in
      subst (λ (k : ℕ). SlotTakes view (Brings n piece) slot p true k before after (Some new) p') (sym rest.1)
      (brings_all n slot old new piece p p' before after some is_open (idle_is_free old.phase piece idle) (subst (λ (t : List ℕ). HearsAnywhere view n old p t before after new p') all hears) keeps)
  brings_parted n slot old new piece false left a p p' before after some is_open idle rest pos le hears goes keeps work =
      let lt : a < length piece = omega (arith, le, less a (length piece) rest.0 le) in
      subst (λ (k : ℕ). SlotTakes view (Brings n piece) slot p false k before after (Some new) p') (sym rest.1)
      (brings_part n slot old new piece a p p' before after some is_open idle lt hears goes keeps (inr (pos, work)))
    where
      less : (i k : ℕ) → i ≢ k → i ≤ k → i < k
      less i k ne le = elim (cases_eq i k) [ inl e ↦ absurd (ne e) | inr _ ↦ omega (arith, le, ne) ]

  -- ---- a client goes

  pub keeps_left : (n : ℕ) (slot : Option State) (s : State) (p p' : D) → slot ≡ Some s → Leaves view s.phase p p' → KeepsServing view n slot p None p'
  keeps_left n slot s p p' some left slots lt is serves =
      serves_set (view.outline p) (view.outline p') (view.more p) (view.more p') slots n (Some s) None lt (is ∙ some) serves left.geometry left.more tt
      left.holds

  pub goes_from_none : (n : ℕ) (slot new : Option State) (p : D) (before after : Told) → slot ≡ None → new ≡ None → Grows before after (Refuses NoSession ∷ []) → SlotTakes view (Goes n) slot p true 0 before after new p
  goes_from_none n slot new p before after none gone grows =
      subst (λ (o : Option State). SlotTakes view (Goes n) slot p true 0 before after o p) (none ∙ sym gone) (takes_refused (Goes n) slot p NoSession before after grows (λ at is. by_true (has_ended (at n).phase) _ _ (ended_at at n slot is none) (refl, refl)))

  pub goes : (n : ℕ) (slot new : Option State) (s : State) (p p' : D) (before after : Told) → slot ≡ Some s → new ≡ None → has_ended s.phase ≡ false → Leaves view s.phase p p' → Grows before after (Closes n ∷ []) → SlotTakes view (Goes n) slot p true 0 before after new p'
  goes n slot new s p p' before after some gone is_open left grows = subst (λ (o : Option State). SlotTakes view (Goes n) slot p true 0 before after o p') (sym gone) (record {
    runs = λ at is.
        let h : Happened D = record { turn = turns.Leaves n; sessions = put at n (state Ended []); pool = p' } in
        let here : at n ≡ s = is ∙ ap shown some in
        let turn : TakesTurn view.outline (PoolCall view) at p (turns.Leaves n) (put at n (state Ended [])) p' = (
          subst (λ (r : State). LetsGo view.outline (PoolCall view) r.phase p p') (sym here) left.lets_go,
          (λ i ne. put_other at n (state Ended []) i ne),
          put_same at n (state Ended []),
        ) in
        runs_one view.outline (PoolCall view) at (put at n (state Ended [])) p p' (Goes n) (h ∷ []) (Closes n ∷ []) before after
        (by_false (has_ended (at n).phase) _ _ (open_there at n s slot is some is_open) ((h, refl, refl), refl)) (turn, tt) refl refl grows;
    part = λ at is. refl;
    keeps = keeps_left n slot s p p' some left;
  })

  -- ---- one event of all sessions

  pub takes_event : (event : Incoming) (slots : Slots) (i : ℕ) (d old new : Option State) (p p' : D) (whole : Bool) (bytes : ℕ) (before after : Told) → i ≡ session_in event → session_in event < 64 → Serves (view.outline p) (view.more p) slots
      → d ≡ get_or slots i d → old ≡ d → SlotTakes view event old p whole bytes before after new p' → TakesEvent view event slots p whole bytes before after (slice_set slots i new) p'
  takes_event event slots i d old new p p' whole bytes before after i_is lt serves d_is old_is takes =
      let n = session_in event in
      let inside : n < length slots = omega (arith, lt, serves.count) in
      let here : slot_at slots n ≡ old = ap (slot_at slots) (sym i_is) ∙ (sym (get_or_read slots i d (omega (arith, i_is, inside)) d_is None) ∙ sym old_is) in
      let at : sessions_of slots n ≡ shown old = ap shown here in
      let set = sessions_set slots n new inside in
      subst (λ j. TakesEvent view event slots p whole bytes before after (slice_set slots j new) p') (sym i_is) (record {
        runs = subst (λ (r : Sessions). Runs view.outline (PoolCall view) (sessions_of slots) p (taken_part event whole bytes) before after r p') (sym set) (takes.runs (sessions_of slots) at);
        part = takes.part (sessions_of (slice_set slots n new)) (ap (λ (r : Sessions). r n) set ∙ put_same (sessions_of slots) n (shown new));
        serves = takes.keeps slots inside here serves;
      })

  -- what stands at a place is ready
  pub ready_slot : (slots : Slots) (i : ℕ) (slot : Option State) (p : D) → i < 64 → Serves (view.outline p) (view.more p) slots → slot_at slots i ≡ slot → IsReadySlot slot (view.outline p) (view.more p)
  ready_slot slots i None p lt serves is = tt
  ready_slot slots i (Some s) p lt serves is = (ready_at (view.outline p) (view.more p) slots serves i (omega (arith, lt, serves.count)) s is, open_at (view.outline p) (view.more p) slots i s serves is)

  pub open_slot : (slots : Slots) (i : ℕ) (slot : Option State) (p : D) → Serves (view.outline p) (view.more p) slots → slot_at slots i ≡ slot → IsOpenSlot slot
  open_slot slots i None p serves is = tt
  open_slot slots i (Some s) p serves is = open_at (view.outline p) (view.more p) slots i s serves is

  -- the place that was read
  pub read_slot : (slots : Slots) (i : ℕ) (d : Option State) → i < 64 → length slots ≡ 64 → d ≡ get_or slots i d → slot_at slots i ≡ d
  read_slot slots i d lt count is = sym (get_or_read slots i d (omega (arith, lt, count)) is None)

  -- ---- all go

  pub leave_none : (at at' : Sessions) (p : D) → at ≡ at' → LeaveTo view at p at' p
  leave_none at at' p same = record { turns = []; are = tt; leaving = tt; sessions_are = same; pool_is = refl }

  leaving_join : (at : Sessions) (xs ys : List (Happened D)) → AreLeaving at xs → AreLeaving (sessions_after at xs) ys → AreLeaving at (xs ++ ys)
  leaving_join at [] ys a b = b
  leaving_join at (x ∷ xs) ys a b = (a.0, a.1, a.2, leaving_join x.sessions xs ys a.3 b)

  pub leave_join : (a b c : Sessions) (p q r : D) → LeaveTo view a p b q → LeaveTo view b q c r → LeaveTo view a p c r
  leave_join a b c p q r x y =
      let there : AreTurns view.outline (PoolCall view) (sessions_after a x.turns) (pool_after p x.turns) y.turns =
      subst (λ (d : D). AreTurns view.outline (PoolCall view) (sessions_after a x.turns) d y.turns) (sym x.pool_is) (subst (λ (s : Sessions). AreTurns view.outline (PoolCall view) s q y.turns) (sym x.sessions_are) y.are) in
      record {
        turns = x.turns ++ y.turns;
        are = turns_join view.outline (PoolCall view) a p x.turns y.turns x.are there;
        leaving = leaving_join a x.turns y.turns x.leaving (subst (λ (s : Sessions). AreLeaving s y.turns) (sym x.sessions_are) y.leaving);
        sessions_are = sessions_join a x.turns y.turns ∙ (ap (λ (s : Sessions). sessions_after s y.turns) x.sessions_are ∙ y.sessions_are);
        pool_is = pool_join p x.turns y.turns ∙ (ap (λ (d : D). pool_after d y.turns) x.pool_is ∙ y.pool_is);
      }

  pub leave_one : (n : ℕ) (slot : Option State) (s : State) (p p' : D) → slot ≡ Some s → has_ended s.phase ≡ false → Leaves view s.phase p p' → (at : Sessions) → at n ≡ shown slot → LeaveTo view at p (put at n (state Ended [])) p'
  leave_one n slot s p p' some is_open left at is =
      let h : Happened D = record { turn = turns.Leaves n; sessions = put at n (state Ended []); pool = p' } in
      let here : at n ≡ s = is ∙ ap shown some in
      let turn : TakesTurn view.outline (PoolCall view) at p (turns.Leaves n) (put at n (state Ended [])) p' = (
        subst (λ (r : State). LetsGo view.outline (PoolCall view) r.phase p p') (sym here) left.lets_go,
        (λ i ne. put_other at n (state Ended []) i ne),
        put_same at n (state Ended []),
      ) in
      record { turns = h ∷ []; are = (turn, tt); leaving = (n, open_there at n s slot is some is_open, refl, tt); sessions_are = refl; pool_is = refl }

  -- one place is left
  pub leave_place : (slots : Slots) (p0 p p' : D) (at0 : Sessions) (i : ℕ) (d : Option State) → i < 64 → Serves (view.outline p) (view.more p) slots → d ≡ get_or slots i d → LeaveTo view at0 p0 (sessions_of slots) p
      → ((at : Sessions) → at i ≡ shown (get_or slots i d) → LeaveTo view at p (put at i (state Ended [])) p') → LeaveTo view at0 p0 (sessions_of (slice_set slots i None)) p'
  leave_place slots p0 p p' at0 i d lt serves d_is before here =
      let inside : i < length slots = omega (arith, lt, serves.count) in
      let there : slot_at slots i ≡ get_or slots i d = sym (get_or_read slots i d inside d_is None) ∙ d_is in
      leave_join at0 (sessions_of slots) (sessions_of (slice_set slots i None)) p0 p p' before
      (subst (λ (s : Sessions). LeaveTo view (sessions_of slots) p s p') (sym (sessions_set slots i None inside)) (here (sessions_of slots) (ap shown there)))

  pub keep_place : (slots : Slots) (p p' : D) (i : ℕ) (d : Option State) → i < 64 → Serves (view.outline p) (view.more p) slots → d ≡ get_or slots i d → KeepsServing view i (get_or slots i d) p None p' → Serves (view.outline p') (view.more p') (slice_set slots i None)
  keep_place slots p p' i d lt serves d_is keeps =
      let inside : i < length slots = omega (arith, lt, serves.count) in
      keeps slots inside (sym (get_or_read slots i d inside d_is None) ∙ d_is) serves

  pub gone_place : (slots : Slots) (i : ℕ) → i < 64 → length slots ≡ 64 → ((n : ℕ) → n < i → slot_at slots n ≡ None) → (n : ℕ) → n < i + 1 → slot_at (slice_set slots i None) n ≡ None
  gone_place slots i lt count gone n below = elim (cases_eq n i) [
    | inl e ↦ ap (λ j. slot_at (slice_set slots i None) j) e ∙ get_or-set_same slots i None None (omega (arith, lt, count))
    | inr ne ↦ get_or-set_other slots i n None None ne ∙ gone n (omega (arith, below, ne))
  ]

  pub free_all : (slots : Slots) (p : D) → Serves (view.outline p) (view.more p) slots → ((n : ℕ) → n < 64 → slot_at slots n ≡ None) → (view.outline p).holds ≡ empty
  free_all slots p serves gone = serves.holds ∙ none_hold slots (none_by slots 64 serves.count gone)

  pub all_left : (slots : Slots) (p0 p : D) (at0 : Sessions) → Serves (view.outline p) (view.more p) slots → ((n : ℕ) → n < 64 → slot_at slots n ≡ None) → LeaveTo view at0 p0 (sessions_of slots) p → LeaveTo view at0 p0 closed p
  all_left slots p0 p at0 serves gone left = subst (λ (s : Sessions). LeaveTo view at0 p0 s p) (none_open slots (none_by slots 64 serves.count gone)) left

-- ---- events one after another

pub events_join : {S : Type 0} (xs ys : List (Served S)) → events_in (xs ++ ys) ≡ events_in xs ++ events_in ys
events_join [] ys = refl
events_join (x ∷ xs) ys = ap (λ (l : List Incoming). x.event ∷ l) (events_join xs ys)

pub all_turns_join : {S : Type 0} (xs ys : List (Served S)) → turns_in (xs ++ ys) ≡ turns_in xs ++ turns_in ys
all_turns_join [] ys = refl
all_turns_join {S} (x ∷ xs) ys = ap (λ (l : List (Happened S)). x.turns ++ l) (all_turns_join xs ys) ∙ sym (append_assoc x.turns (turns_in xs) (turns_in ys))

pub all_answers_join : {S : Type 0} (xs ys : List (Served S)) → answered_in (xs ++ ys) ≡ answered_in xs ++ answered_in ys
all_answers_join [] ys = refl
all_answers_join (x ∷ xs) ys = ap (λ (l : List Answer). x.answers ++ l) (all_answers_join xs ys) ∙ sym (append_assoc x.answers (answered_in xs) (answered_in ys))

module _ {S : Type 0} (outline : S → Outline) (Calls : S → Call → calls.Answer → S → Type 0) where
  pub served_join : (at : Sessions) (p : S) (xs ys : List (Served S)) → AreServed outline Calls at p xs → AreServed outline Calls (sessions_after at (turns_in xs)) (pool_after p (turns_in xs)) ys → AreServed outline Calls at p (xs ++ ys)
  served_join at p [] ys a b = b
  served_join at p (x ∷ xs) ys a b = (
    a.0,
    a.1,
    served_join (sessions_after at x.turns) (pool_after p x.turns) xs ys a.2
        (subst (λ (d : S). AreServed outline Calls (sessions_after (sessions_after at x.turns) (turns_in xs)) d ys) (pool_join p x.turns (turns_in xs))
        (subst (λ (s : Sessions). AreServed outline Calls s (pool_after p (x.turns ++ turns_in xs)) ys) (sessions_join at x.turns (turns_in xs)) b)),
  )

  pub runs_join : (at mid last : Sessions) (p q r : S) (xs ys : List Incoming) (before between after : Told) → Runs outline Calls at p xs before between mid q → Runs outline Calls mid q ys between after last r → Runs outline Calls at p (xs ++ ys) before after last r
  runs_join at mid last p q r xs ys before between after a b =
      let there : AreServed outline Calls (sessions_after at (turns_in a.served)) (pool_after p (turns_in a.served)) b.served =
      subst (λ (d : S). AreServed outline Calls (sessions_after at (turns_in a.served)) d b.served) (sym a.pool_is) (subst (λ (s : Sessions). AreServed outline Calls s q b.served) (sym a.sessions_are) b.are) in
      let all = all_turns_join a.served b.served in
      record {
        served = a.served ++ b.served;
        are = served_join at p a.served b.served a.are there;
        events_are = events_join a.served b.served ∙ (ap (λ (l : List Incoming). l ++ events_in b.served) a.events_are ∙ ap (λ (l : List Incoming). xs ++ l) b.events_are);
        sessions_are = ap (sessions_after at) all ∙ (sessions_join at (turns_in a.served) (turns_in b.served) ∙ (ap (λ (s : Sessions). sessions_after s (turns_in b.served)) a.sessions_are ∙ b.sessions_are));
        pool_is = ap (pool_after p) all ∙ (pool_join p (turns_in a.served) (turns_in b.served) ∙ (ap (λ (d : S). pool_after d (turns_in b.served)) a.pool_is ∙ b.pool_is));
        adds = subst (Grows before after) (sym (all_answers_join a.served b.served)) (grows_then before between after (answered_in a.served) (answered_in b.served) a.adds b.adds);
      }

  -- an event's turns are turns of the whole
  pub served_turns : (at : Sessions) (p : S) (xs : List (Served S)) → AreServed outline Calls at p xs → AreTurns outline Calls at p (turns_in xs)
  served_turns at p [] a = tt
  served_turns at p (x ∷ xs) a = turns_join outline Calls at p x.turns (turns_in xs) a.1 (served_turns (sessions_after at x.turns) (pool_after p x.turns) xs a.2)

-- ---- so many events, and a part of the next

next_is : (all : List Incoming) (i : ℕ) (d : Incoming) (bytes : ℕ) → i < length all → front_of_next (drop i all) bytes ≡ front_of (get_or all i d) bytes
next_is all i d bytes lt = ap (λ (l : List Incoming). front_of_next l bytes) (drop-cons all i d lt)

false_is : (b : Bool) → not b ≡ true → b ≡ false
false_is true e = absurd cc
false_is false e = refl

true_is : (b : Bool) → not b ≡ false → b ≡ true
true_is true e = refl
true_is false e = absurd cc

module _ {D : Type 0} (view : View D) where
  abbrev RunsHere : Sessions → D → List Incoming → Told → Told → Sessions → D → Type 0
  RunsHere at p xs before after at' p' = Runs view.outline (PoolCall view) at p xs before after at' p'

  pub run_stops : (at : Sessions) (p : D) (slots new : Slots) (q r : D) (events : List Event) (i : ℕ) (d : Event) (whole : Bool) (bytes : ℕ) (before between after : Told) → i < length events → not whole ≡ true
      → RunsHere at p (take i (map incoming events)) before between (sessions_of slots) q → TakesEvent view (incoming (get_or events i d)) slots q whole bytes between after new r
      → RunsHere at p (taken_of (map incoming events) i bytes) before after (sessions_of new) r × IsPartOfNext (sessions_of new) (drop i (map incoming events)) bytes × IsShortOfNext (sessions_of new) (drop i (map incoming events)) bytes after
  run_stops at p slots new q r events i d whole bytes before between after lt stops runs takes =
      let all : List Incoming = map incoming events in
      let long : i < length all = rw length-map lt in
      let e : Incoming = incoming (get_or events i d) in
      let e_is : get_or all i (incoming d) ≡ e = get_or-map incoming events i d in
      let part_is : front_of_next (drop i all) bytes ≡ front_of e bytes = next_is all i (incoming d) bytes long ∙ ap (λ (x : Incoming). front_of x bytes) e_is in
      let is_false = false_is whole stops in
      let runs_part : RunsHere (sessions_of slots) q (front_of e bytes) between after (sessions_of new) r =
      subst (λ b. RunsHere (sessions_of slots) q (taken_part e b bytes) between after (sessions_of new) r) is_false takes.runs in
      let part : IsPart (sessions_of new) e bytes × IsShort (sessions_of new) e bytes after = subst (λ b. IsTaken (sessions_of new) e b bytes after) is_false takes.part in (
        runs_join view.outline (PoolCall view) at (sessions_of slots) (sessions_of new) p q r (take i all) (front_of_next (drop i all) bytes) before between after runs
            (subst (λ l. RunsHere (sessions_of slots) q l between after (sessions_of new) r) (sym part_is) runs_part),
        subst (λ (l : List Incoming). IsPartOfNext (sessions_of new) l bytes) (sym (drop-cons all i (incoming d) long)) (subst (λ (x : Incoming). IsPart (sessions_of new) x bytes) (sym e_is) part.0),
        subst (λ (l : List Incoming). IsShortOfNext (sessions_of new) l bytes after) (sym (drop-cons all i (incoming d) long)) (subst (λ (x : Incoming). IsShort (sessions_of new) x bytes after) (sym e_is) part.1),
      )

  pub run_goes_on : (at : Sessions) (p : D) (slots new : Slots) (q r : D) (events : List Event) (i : ℕ) (d : Event) (whole : Bool) (bytes : ℕ) (before between after : Told) → i < length events → not whole ≡ false
      → RunsHere at p (take i (map incoming events)) before between (sessions_of slots) q → TakesEvent view (incoming (get_or events i d)) slots q whole bytes between after new r
      → RunsHere at p (take (i + 1) (map incoming events)) before after (sessions_of new) r
  run_goes_on at p slots new q r events i d whole bytes before between after lt goes runs takes =
      let all : List Incoming = map incoming events in
      let long : i < length all = rw length-map lt in
      let e : Incoming = incoming (get_or events i d) in
      let e_is : get_or all i (incoming d) ≡ e = get_or-map incoming events i d in
      let runs_whole : RunsHere (sessions_of slots) q (e ∷ []) between after (sessions_of new) r =
      subst (λ b. RunsHere (sessions_of slots) q (taken_part e b bytes) between after (sessions_of new) r) (true_is whole goes) takes.runs in
      rw (take_more all i (incoming d) long)
      (runs_join view.outline (PoolCall view) at (sessions_of slots) (sessions_of new) p q r (take i all) (get_or all i (incoming d) ∷ []) before between after runs
      (subst (λ (x : Incoming). RunsHere (sessions_of slots) q (x ∷ []) between after (sessions_of new) r) (sym e_is) runs_whole))
