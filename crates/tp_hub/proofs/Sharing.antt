-- READs and BLOCK_STATUSes that are answered while the sessions and the pool stay as they are.
use Rattle.std.proofs.Common.{◌≡◌, ℕ, zero, suc, ◌+◌, ◌<◌, ◌≤◌, false, List, [], ◌∷◌, ◌++◌, length, take, Option, Some, None, inl, inr, refl, sym, ap, subst, ◌∙◌, arith, append-nil, length-take}
use Rattle.std.specs.Prelude.{IfSome}
use Rattle.std.proofs.lemmas.List.{take_all}
use Rattle.tp_model.specs.Clauses.{PoolCall, View}
use Rattle.nbd_session.specs.declared.session.Answered.{Answered}
use Rattle.nbd_session.specs.Session.{State, has_ended, is_at_work}
use Rattle.nbd_session.specs.Clauses.{Advances}
use Rattle.nbd_session.specs.Turns.{Happened, Sessions}
use Rattle.tp_hub.specs.declared.hub.Ran.{Ran}
use Rattle.tp_hub.specs.Told.{Grows, IsWider, Told}
use Rattle.tp_hub.specs.Runs.{Brings, Incoming, Runs, answered_in, answers_in, taken_of}
use Rattle.tp_hub.specs.Desks.{IsCut}
use Rattle.tp_hub.specs.Places.{HearsAnywhere, IsAskedStill, IsRan, IsRead}
use Rattle.tp_hub.specs.Serving.{HubState, sessions_of, shown}
use Rattle.tp_hub.proofs.Placing.{put_is}
use Rattle.tp_hub.proofs.Telling.{put_there}
use Rattle.tp_hub.proofs.Turning.{no_text}
use Rattle.tp_hub.proofs.Hearing.{keeps_none}
use Rattle.tp_hub.proofs.Taking.{brings_all, idle_is_free}

module _ {D : Type 0} (view : View D) where
  -- a step whose answer was put at a place
  pub stepped_there : (o : Option Answered) (s new : State) (p q : D) (piece : List ℕ) (at : ℕ) (old part post : List ℕ) → at ≤ length old
      → IfSome o (λ a. Advances view s p piece a.taken (take a.sent part) a.ended new q) → IfSome o (λ a. a.sent ≤ length part)
      → IfSome o (λ a. (sent : List ℕ) × (length sent ≡ a.sent) × (take (at + a.sent) (take at old ++ (part ++ post)) ≡ take at old ++ sent) × Advances view s p piece a.taken sent a.ended new q)
  stepped_there None s new p q piece at old part post le steps fits = tt
  stepped_there (Some a) s new p q piece at old part post le steps fits = (take a.sent part, omega (arith, length-take a.sent part, fits), put_there at a.sent old part post le fits, steps)

  -- a READ or a BLOCK_STATUS whose answer was put at a place
  pub read_there : (o : Option Answered) (s : State) (p : D) (piece : List ℕ) (at : ℕ) (old part post : List ℕ) → at ≤ length old
      → IfSome o (λ a. Advances view s p piece a.taken (take a.sent part) a.ended s p) → IfSome o (λ a. (a.ended ≡ false) × (0 < a.taken) × (a.taken ≤ length piece)) → IfSome o (λ a. a.sent ≤ length part)
      → IfSome o (λ a. (sent : List ℕ) × (length sent ≡ a.sent) × (take (at + a.sent) (take at old ++ (part ++ post)) ≡ take at old ++ sent) × IsRead view s p piece a.taken sent)
  read_there None s p piece at old part post le steps goes fits = tt
  read_there (Some a) s p piece at old part post le steps goes fits = (
    take a.sent part,
    omega (arith, length-take a.sent part, fits),
    put_there at a.sent old part post le fits,
    (goes.1, subst (λ b. Advances view s p piece a.taken (take a.sent part) b s p) goes.0 steps),
  )

  -- a text that a session heard, as an event
  heard_runs : (n : ℕ) (s : State) (p : D) (text : List ℕ) (before after : Told) (slot : Option State) → slot ≡ Some s → has_ended s.phase ≡ false → is_at_work s.phase ≡ false → HearsAnywhere view n s p text before after s p
      → (at : Sessions) → at n ≡ shown slot → Runs view.outline (PoolCall view) at p (Brings n text ∷ []) before after at p
  heard_runs n s p text before after slot some is_open idle hears at is =
      let takes = brings_all view n slot s s text p p before after some is_open (idle_is_free s.phase text idle) hears (keeps_none view n (Some s) p) in
      subst (λ (r : Sessions). Runs view.outline (PoolCall view) at p (Brings n text ∷ []) before after r p) (put_is at n s (is ∙ ap shown some)) (takes.runs at is)

  asked_by : (n : ℕ) (piece : List ℕ) (at : Sessions) (p : D) (events bytes : ℕ) (before after : Told) (took : List Incoming) → Runs view.outline (PoolCall view) at p took before after at p
      → took ≡ taken_of (Brings n piece ∷ []) events bytes → IsCut (Brings n piece) events bytes → 0 < events + bytes → IsAskedStill view n piece at p events bytes before after
  asked_by n piece at p events bytes before after took run is cut some =
      let r = subst (λ (l : List Incoming). Runs view.outline (PoolCall view) at p l before after at p) is run in
      record {
        answers = answered_in r.served;
        did = (before, after, r, r.adds);
        adds = r.adds;
        cut = cut;
        silent = λ none nothing. absurd (omega (arith, some, none, nothing));
        begun = λ room. some;
      }

  asked_part : (n : ℕ) (piece : List ℕ) (at : Sessions) (p : D) (a : ℕ) (before after : Told) → Runs view.outline (PoolCall view) at p (Brings n (take a piece) ∷ []) before after at p → 0 < a → a < length piece
      → IsAskedStill view n piece at p 0 a before after
  asked_part n piece at p zero before after run some lt = absurd (omega (arith, some))
  asked_part n piece at p (suc a) before after run some lt = asked_by n piece at p 0 (suc a) before after (Brings n (take (suc a) piece) ∷ []) run refl (inr lt) (omega arith)

  asked_whole : (n : ℕ) (piece : List ℕ) (at : Sessions) (p : D) (a : ℕ) (before after : Told) → Runs view.outline (PoolCall view) at p (Brings n (take a piece) ∷ []) before after at p → a ≡ length piece
      → IsAskedStill view n piece at p 1 0 before after
  asked_whole n piece at p a before after run is =
      asked_by n piece at p 1 0 before after (Brings n (take a piece) ∷ []) run (ap (λ (l : List ℕ). Brings n l ∷ []) (take_all a piece (omega (arith, is)))) (refl, refl) (omega arith)

  asked_so : (n : ℕ) (piece : List ℕ) (at : Sessions) (p : D) (a events bytes : ℕ) (before after : Told) → Runs view.outline (PoolCall view) at p (Brings n (take a piece) ∷ []) before after at p → 0 < a
      → IsRan a (length piece) events bytes → IsAskedStill view n piece at p events bytes before after
  asked_so n piece at p a events bytes before after run some (inl (lt, e, b)) =
      subst (λ (k : ℕ). IsAskedStill view n piece at p k bytes before after) (sym e) (subst (λ (k : ℕ). IsAskedStill view n piece at p 0 k before after) (sym b) (asked_part n piece at p a before after run some lt))
  asked_so n piece at p a events bytes before after run some (inr (is, e, b)) =
      subst (λ (k : ℕ). IsAskedStill view n piece at p k bytes before after) (sym e) (subst (λ (k : ℕ). IsAskedStill view n piece at p 1 k before after) (sym b) (asked_whole n piece at p a before after run is))

  -- so much of a piece was heard, if anything was
  pub asked_slot : (o : Option Ran) (n : ℕ) (s : State) (p : D) (piece : List ℕ) (a : ℕ) (before after : Told) (slot : Option State) → slot ≡ Some s → has_ended s.phase ≡ false → is_at_work s.phase ≡ false
      → HearsAnywhere view n s p (take a piece) before after s p → IfSome o (λ r. (0 < a) × IsRan a (length piece) r.events r.bytes)
      → (at : Sessions) → at n ≡ shown slot → IfSome o (λ r. IsAskedStill view n piece at p r.events r.bytes before after)
  asked_slot None n s p piece a before after slot some is_open idle hears ran at is = tt
  asked_slot (Some r) n s p piece a before after slot some is_open idle hears ran at is =
      asked_so n piece at p a r.events r.bytes before after (heard_runs n s p (take a piece) before after slot some is_open idle hears at is) ran.0 ran.1

  -- and where nothing was
  pub heard_nothing : (n : ℕ) (s : State) (p : D) (piece : List ℕ) (a : ℕ) (before after : Told) → is_at_work s.phase ≡ false → HearsAnywhere view n s p (take a piece) before after s p → a ≡ 0 → IsWider before after
  heard_nothing n s p piece a before after idle hears none =
      let x = subst (λ (k : ℕ). HearsAnywhere view n s p (take k piece) before after s p) none hears (λ i. s) refl in
      let grows = subst (λ (l : List (Happened D)). Grows before after (answers_in l)) (no_text (λ i. s) n x.turns idle x.takes) x.adds in
      record { list = grows.list ∙ append-nil before.list; room = grows.room; marks = grows.marks }

  -- the same of a hub
  pub asked_hub : (o : Option Ran) (n : ℕ) (piece : List ℕ) (h now : HubState D) (before after : Told) → h ≡ now
      → IfSome o (λ r. IsAskedStill view n piece (sessions_of h.slots) h.pool r.events r.bytes before after) → IfSome o (λ r. IsAskedStill view n piece (sessions_of now.slots) now.pool r.events r.bytes before after)
  asked_hub o n piece h now before after is asked = subst (λ (k : HubState D). IfSome o (λ r. IsAskedStill view n piece (sessions_of k.slots) k.pool r.events r.bytes before after)) is asked
