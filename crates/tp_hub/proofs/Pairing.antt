-- Two clients in turn.
use Rattle.std.proofs.Common.{◌≡◌, ◌≢◌, ℕ, Bool, true, false, List, [], ◌∷◌, ◌++◌, length, refl, sym, ap, subst, ◌∙◌, arith, append-nil}
use Rattle.std.specs.Prelude.{MatchBool}
use Rattle.tp_model.specs.Pool.{Outline}
use Rattle.tp_model.specs.Calls.{Call}
use Rattle.tp_model.specs.Calls as calls
use Rattle.nbd_wire.specs.Replies.{greeting}
use Rattle.nbd_session.specs.declared.phase.Phase.TheVariants.{Flags}
use Rattle.nbd_session.specs.declared.phase.Phase.{Phase}
use Rattle.nbd_session.specs.declared.phase.Profile.{Profile}
use Rattle.nbd_session.specs.Session.{State, has_ended, is_at_work, state}
use Rattle.nbd_session.specs.Turns.{AreTurns, Happened, Sessions, TakesTurn, Turn, closed, pool_after, sessions_after}
use Rattle.tp_hub.specs.Told.{Answer, Grows, Says, Told}
use Rattle.tp_pages.specs.Pages.{unit_of}
use Rattle.tp_hub.specs.Runs.{AreServed, Brings, Comes, Incoming, IsAnswered, Runs, Served, TakesPiece, TakesText, answered_in, answers_in, answers_of, events_in, is_busy, taken_of, turns_in}
use Rattle.tp_hub.specs.Pairs.{InTurn}
use Rattle.tp_hub.proofs.Turning.{pool_join, sessions_join}

of_true : (b : Bool) (P Q : Type 0) → b ≡ true → MatchBool b P Q → P
of_true true P Q e h = h
of_true false P Q e h = absurd cc

of_false : (b : Bool) (P Q : Type 0) → b ≡ false → MatchBool b P Q → Q
of_false false P Q e h = h
of_false true P Q e h = absurd cc

abbrev first_event : Incoming → List Incoming → Incoming
first_event d [] = d
first_event d (e ∷ es) = e

abbrev later_events : List Incoming → List Incoming
later_events [] = []
later_events (e ∷ es) = es

-- what was served begins with the first event
served_first : {S : Type 0} (xs : List (Served S)) (event : Incoming) (events : List Incoming) → events_in xs ≡ event ∷ events
    → (x : Served S) × (ys : List (Served S)) × (xs ≡ x ∷ ys) × (x.event ≡ event) × (events_in ys ≡ events)
served_first [] event events e = let l = ap length e in absurd (omega (arith, l))
served_first (x ∷ xs) event events e = (x, xs, refl, ap (first_event event) e, ap later_events e)

served_none : {S : Type 0} (xs : List (Served S)) → events_in xs ≡ [] → xs ≡ []
served_none [] e = refl
served_none (x ∷ xs) e = let l = ap length e in absurd (omega (arith, l))

module _ {S : Type 0} (outline : S → Outline) (Calls : S → Call → calls.Answer → S → Type 0) where
  -- a session that hears changes no other
  pub others_stay : (n i : ℕ) → i ≢ n → (at : Sessions) (p : S) (text : List ℕ) (hs : List (Happened S)) → AreTurns outline Calls at p hs → TakesText at n text hs → sessions_after at hs i ≡ at i
  others_stay n i ne at p text [] are takes = refl
  others_stay n i ne at p text (h ∷ hs) are (piece, rest, sent, ended, is_open, is, some, cut, more) =
      let t = subst (λ (turn : Turn). TakesTurn outline Calls at p turn h.sessions h.pool) is are.0 in
      others_stay n i ne h.sessions h.pool rest hs are.1 more ∙ t.1 i ne

  record Came (n : ℕ) (a : Profile) (at : Sessions) (p : S) (hs : List (Happened S)) (answers : List Answer) : Type 0 where
    flags : sessions_after at hs n ≡ state (Flags a) []
    others : (i : ℕ) → i ≢ n → sessions_after at hs i ≡ at i
    pool : pool_after p hs ≡ p
    says : answers ≡ Says n greeting ∷ []

  -- a client comes where the session is not open
  came : (unit n : ℕ) (a : Profile) (at : Sessions) (p : S) (event : Incoming) (hs : List (Happened S)) (answers : List Answer) → event ≡ Comes n a → has_ended (at n).phase ≡ true → IsAnswered unit at event hs answers → AreTurns outline Calls at p hs → Came n a at p hs answers
  came unit n a at p event hs answers comes ended answered are =
      let b = of_true (has_ended (at n).phase) _ _ ended (subst (λ e. IsAnswered unit at e hs answers) comes answered) in
      let h = b.1.0 in
      let one = subst (λ l. AreTurns outline Calls at p l) b.1.1 are in
      let t = subst (λ (turn : Turn). TakesTurn outline Calls at p turn h.sessions h.pool) b.1.2 one.0 in
      record {
        flags = ap (λ (l : List (Happened S)). sessions_after at l n) b.1.1 ∙ t.3;
        others = λ i ne. ap (λ (l : List (Happened S)). sessions_after at l i) b.1.1 ∙ t.1 i ne;
        pool = ap (pool_after p) b.1.1 ∙ t.0;
        says = b.2 ∙ (ap answers_in b.1.1 ∙ (ap (λ (turn : Turn). answers_of turn ++ []) b.1.2 ∙ ap (λ s. Says n s ∷ []) t.4));
      }

  -- an open session is heard
  idle_flags : (phase : Phase) (a : Profile) (piece : List ℕ) → phase ≡ Flags a → is_busy phase piece ≡ false
  idle_flags phase a [] e = refl
  idle_flags phase a (byte ∷ bytes) e = ap is_at_work e

  heard : (unit n : ℕ) (a : Profile) (at : Sessions) (event : Incoming) (piece : List ℕ) (hs : List (Happened S)) (answers : List Answer) → event ≡ Brings n piece → at n ≡ state (Flags a) [] → IsAnswered unit at event hs answers → TakesPiece at n piece hs × (answers ≡ answers_in hs)
  heard unit n a at event piece hs answers brings flags answered =
      of_false (is_busy (at n).phase piece) _ _ (idle_flags (at n).phase a piece (ap (λ (s : State). s.phase) flags))
      (of_false (has_ended (at n).phase) _ _ (ap (λ (s : State). has_ended s.phase) flags) (subst (λ e. IsAnswered unit at e hs answers) brings answered))

  four_served : (a b : Profile) (p p' : S) (first second : List ℕ) (before after : Told) (at' : Sessions) (w x y z : Served S) → AreServed outline Calls closed p (w ∷ x ∷ y ∷ z ∷ [])
      → w.event ≡ Comes 0 a → x.event ≡ Comes 1 b → y.event ≡ Brings 0 first → z.event ≡ Brings 1 second
      → sessions_after closed (turns_in (w ∷ x ∷ y ∷ z ∷ [])) ≡ at' → pool_after p (turns_in (w ∷ x ∷ y ∷ z ∷ [])) ≡ p' → Grows before after (answered_in (w ∷ x ∷ y ∷ z ∷ []))
      → InTurn outline Calls a b p first second before after at' p'
  four_served a b p p' first second before after at' w x y z are ew ex ey ez sessions pool adds =
      let cw = came (unit_of (outline p).geometry) 0 a closed p w.event w.turns w.answers ew refl are.0 are.1 in
      let at1 = sessions_after closed w.turns in
      let p1 = pool_after p w.turns in
      let far : 1 ≢ 0 = λ e. absurd (omega (arith, e)) in
      let near : 0 ≢ 1 = λ e. absurd (omega (arith, e)) in
      let cx = came (unit_of (outline p1).geometry) 1 b at1 p1 x.event x.turns x.answers ex (ap (λ (s : State). has_ended s.phase) (cw.others 1 far)) are.2.0 are.2.1 in
      let greeted = sessions_after at1 x.turns in
      let p2 = pool_after p1 x.turns in
      let same : p2 ≡ p = cx.pool ∙ cw.pool in
      let flags0 : greeted 0 ≡ state (Flags a) [] = cx.others 0 near ∙ cw.flags in
      let hy = heard (unit_of (outline p2).geometry) 0 a greeted y.event first y.turns y.answers ey flags0 are.2.2.0 in
      let stays : sessions_after greeted y.turns 1 ≡ state (Flags b) [] = others_stay 0 1 far greeted p2 hy.0.text y.turns are.2.2.1 hy.0.takes ∙ cx.flags in
      let hz = heard (unit_of (outline (pool_after p2 y.turns)).geometry) 1 b (sessions_after greeted y.turns) z.event second z.turns z.answers ez stays are.2.2.2.0 in
      record {
        greeted = greeted;
        greets = (flags0, cx.flags);
        ones = y.turns;
        twos = z.turns;
        are_ones = subst (λ q. AreTurns outline Calls greeted q y.turns) same are.2.2.1;
        takes_first = hy.0;
        waits = stays;
        are_twos = subst (λ q. AreTurns outline Calls (sessions_after greeted y.turns) (pool_after q y.turns) z.turns) same are.2.2.2.1;
        takes_second = hz.0;
        sessions_are = sym (sessions_join closed w.turns (x.turns ++ (y.turns ++ (z.turns ++ []))) ∙ (sessions_join at1 x.turns (y.turns ++ (z.turns ++ [])) ∙ (sessions_join greeted y.turns (z.turns ++ []) ∙ ap (sessions_after (sessions_after greeted y.turns)) (append-nil z.turns)))) ∙ sessions;
        pool_is = ap (λ q. pool_after (pool_after q y.turns) z.turns) (sym same)
            ∙ (sym (pool_join p w.turns (x.turns ++ (y.turns ++ (z.turns ++ []))) ∙ (pool_join p1 x.turns (y.turns ++ (z.turns ++ [])) ∙ (pool_join p2 y.turns (z.turns ++ []) ∙ ap (pool_after (pool_after p2 y.turns)) (append-nil z.turns)))) ∙ pool);
        adds = subst (Grows before after) (ap (λ l. l ++ (x.answers ++ (y.answers ++ (z.answers ++ [])))) cw.says
            ∙ (ap (λ l. Says 0 greeting ∷ (l ++ (y.answers ++ (z.answers ++ [])))) cx.says
            ∙ (ap (λ l. Says 0 greeting ∷ Says 1 greeting ∷ (l ++ (z.answers ++ []))) hy.1
            ∙ ap (λ l. Says 0 greeting ∷ Says 1 greeting ∷ (answers_in y.turns ++ l)) (append-nil z.answers ∙ hz.1)))) adds;
      }

  -- a run of two clients
  pub two_in_turn : (a b : Profile) (p p' : S) (first second : List ℕ) (before after : Told) (at' : Sessions) → Runs outline Calls closed p (Comes 0 a ∷ Comes 1 b ∷ Brings 0 first ∷ Brings 1 second ∷ []) before after at' p'
      → InTurn outline Calls a b p first second before after at' p'
  two_in_turn a b p p' first second before after at' run =
      let v = served_first run.served _ _ run.events_are in
      let w = served_first v.1 _ _ v.4 in
      let c = served_first w.1 _ _ w.4 in
      let d = served_first c.1 _ _ c.4 in
      let none = served_none d.1 d.4 in
      let all : run.served ≡ v.0 ∷ w.0 ∷ c.0 ∷ d.0 ∷ [] =
      v.2 ∙ ap (λ l. v.0 ∷ l) (w.2 ∙ ap (λ l. w.0 ∷ l) (c.2 ∙ ap (λ l. c.0 ∷ l) (d.2 ∙ ap (λ l. d.0 ∷ l) none))) in
      four_served a b p p' first second before after at' v.0 w.0 c.0 d.0 (subst (AreServed outline Calls closed p) all run.are) v.3 w.3 c.3 d.3
      (subst (λ l. sessions_after closed (turns_in l) ≡ at') all run.sessions_are) (subst (λ l. pool_after p (turns_in l) ≡ p') all run.pool_is) (subst (λ l. Grows before after (answered_in l)) all run.adds)

  -- the same of a run that took all of the four events
  pub whole_pair : (a b : Profile) (p q p' : S) (first second : List ℕ) (before after : Told) (at at' : Sessions) (events : List Incoming) (n bytes : ℕ) → at ≡ closed → q ≡ p
      → events ≡ Comes 0 a ∷ Comes 1 b ∷ Brings 0 first ∷ Brings 1 second ∷ [] → n ≡ 4 → Runs outline Calls at q (taken_of events n bytes) before after at' p' → InTurn outline Calls a b p first second before after at' p'
  whole_pair a b p q p' first second before after at at' events n bytes none same are four run =
      let one = subst (λ l. Runs outline Calls at q (taken_of l n bytes) before after at' p') are run in
      let two = subst (λ k. Runs outline Calls at q (taken_of (Comes 0 a ∷ Comes 1 b ∷ Brings 0 first ∷ Brings 1 second ∷ []) k bytes) before after at' p') four one in
      let three = subst (λ (s : Sessions). Runs outline Calls s q (Comes 0 a ∷ Comes 1 b ∷ Brings 0 first ∷ Brings 1 second ∷ []) before after at' p') none two in
      two_in_turn a b p p' first second before after at' (subst (λ r. Runs outline Calls closed r (Comes 0 a ∷ Comes 1 b ∷ Brings 0 first ∷ Brings 1 second ∷ []) before after at' p') same three)
