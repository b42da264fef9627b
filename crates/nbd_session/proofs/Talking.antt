-- Steps one after another are one conversation.
use Rattle.std.proofs.Common.{◌≡◌, ℕ, ◌+◌, ◌≤◌, ◌⊎◌, Bool, List, [], ◌++◌, length, take, drop, Option, Some, None, refl, sym, ap, subst, ◌∙◌, append_assoc, arith, inl, inr}
use Rattle.std.specs.Prelude.{MatchOption}
use Rattle.std.proofs.lemmas.List.{append-nil, take_all, take-append-drop, length-take-le}
use Rattle.tp_model.specs.Pool.{Outline}
use Rattle.tp_model.specs.Calls.{Call, Answer}
use Rattle.nbd_wire.specs.declared.Kind.{Kind}
use Rattle.nbd_wire.specs.declared.Kind.TheVariants as kinds
use Rattle.nbd_wire.specs.Grammar.{IsPartial}
use Rattle.nbd_wire.proofs.Frames.{wants_more}
use Rattle.nbd_session.specs.declared.phase.Course.TheVariants.{Listens, Works}
use Rattle.nbd_session.specs.declared.phase.Phase.{Phase}
use Rattle.nbd_session.specs.declared.phase.Phase.TheVariants.{Flags, Options, Transmission, Ended}
use Rattle.nbd_session.specs.Session.{State, state, kind_of, Waits, TakesFrame, IsDeaf, Steps}
use Rattle.nbd_session.specs.Talk.{Talks, waits, over, stops, works, goes, Converses}
use Rattle.nbd_session.specs.Clauses.{IsCalm}
use Rattle.nbd_session.proofs.Gathering.{take_on}
use Rattle.nbd_session.proofs.Stepping.{wanted_is, wanted_at_start}

never_both : (phase : Phase) (kind : Kind) → kind_of phase ≡ Some kind → phase ≡ Ended → ⊥
never_both phase kind e h = let n : kind_of phase ≡ None = ap kind_of h in absurd cc

state_is : (s : State) (phase : Phase) (held : List ℕ) → s.phase ≡ phase → s.held ≡ held → s ≡ state phase held
state_is s phase held e h = ap (λ (x : Phase). state x s.held) e ∙ ap (state phase) h

take_add : (at n : ℕ) (xs : List ℕ) → at ≤ length xs → take (at + n) xs ≡ take at xs ++ take n (drop at xs)
take_add at n xs le =
    let l : length (take at xs) ≡ at = length-take-le at xs le in
    ap (take (at + n)) (sym (take-append-drop at xs)) ∙ take_on (take at xs) (drop at xs) (at + n) (omega arith) ∙ ap (λ (k : ℕ). take at xs ++ take k (drop at xs)) (omega arith)

module _ {A : Type 0} (outline : A → Outline) (Calls : A → Call → Answer → A → Type 0) where
  resting : (kind : Kind) (phase : Phase) (p : A) → kind_of phase ≡ Some kind → Talks outline Calls phase [] p [] (state phase []) p
  resting kind phase p e = waits kind e (wants_more kind [] (let w = wanted_at_start phase in let i = wanted_is phase kind [] e in omega arith))

  -- with nothing to read, nothing is sent
  pub rests : (phase : Phase) (p : A) → Talks outline Calls phase [] p [] (state phase []) p
  rests (Flags a) p = resting kinds.Flags (Flags a) p refl
  rests (Options z) p = resting kinds.Options (Options z) p refl
  rests (Transmission v n (Listens x)) p = resting kinds.Requests (Transmission v n (Listens x)) p refl
  rests (Transmission v n (Works m r)) p = stops
  rests Ended p = over

  -- after its end a session sends nothing
  ended_talks : {phase : Phase} {text sent : List ℕ} {p p' : A} {new : State} → Talks outline Calls phase text p sent new p' → phase ≡ Ended → (sent ≡ []) × (new ≡ state Ended []) × (p' ≡ p)
  ended_talks (waits kind speaks part) e = absurd (never_both _ kind speaks e)
  ended_talks over e = (refl, refl, refl)
  ended_talks stops e = absurd cc
  ended_talks (works v n m r first others mid q part talk sent_is) e = absurd cc
  ended_talks (goes kind message frame rest first others mid q speaks is_frame text_is answer talk sent_is) e = absurd (never_both _ kind speaks e)

  -- dropped, whatever it was
  dropped : (text others : List ℕ) (p p' : A) (new : State) → (others ≡ []) × (new ≡ state Ended []) × (p' ≡ p) → Talks outline Calls Ended text p others new p'
  dropped text others p p' new h =
      let P : List ℕ → Type 0 = λ s. Talks outline Calls Ended text p s new p' in
      let Q : State → Type 0 = λ n. Talks outline Calls Ended text p [] n p' in
      let R : A → Type 0 = λ x. Talks outline Calls Ended text p [] (state Ended []) x in
      subst P (sym h.0) (subst Q (sym h.1) (subst R (sym h.2) over))

  -- a step without a frame
  by_deaf : (phase : Phase) (old new : State) (p p' : A) (piece sent : List ℕ) (taken : ℕ) (b : Bool) → old.phase ≡ phase
      → IsDeaf outline Calls phase old p piece taken sent b new p' → Talks outline Calls phase (old.held ++ take taken piece) p sent new p'
  by_deaf Ended old new p p' piece sent taken b e h = dropped (old.held ++ take taken piece) sent p p' new (h.sent_is, state_is new Ended [] (h.phase_is ∙ e) h.held_is, h.pool_is)
  by_deaf (Transmission v n (Works m r)) old new p p' piece sent taken b e h =
      let text : old.held ++ take taken piece ≡ [] = ap (λ (x : List ℕ). x ++ take taken piece) h.none ∙ ap (λ (i : ℕ). take i piece) h.taken_is in
      let P : List ℕ → Type 0 = λ t. Talks outline Calls (Transmission v n (Works m r)) t p sent new p' in
      let R : State → Type 0 = λ s. Talks outline Calls new.phase [] p' [] s p' in
      let after : Talks outline Calls new.phase [] p' [] new p' = subst R (sym (state_is new new.phase [] refl h.held_is)) (rests new.phase p') in
      subst P (sym text) (works v n m r sent [] new.phase p' h.part after (sym (append-nil sent)))
  by_deaf (Flags a) old new p p' piece sent taken b e h = absurd h
  by_deaf (Options z) old new p p' piece sent taken b e h = absurd h
  by_deaf (Transmission v n (Listens x)) old new p p' piece sent taken b e h = absurd h

  by_case : (old new : State) (p p' : A) (piece sent : List ℕ) (taken : ℕ) (b : Bool) (o : Option Kind) → kind_of old.phase ≡ o
      → MatchOption o (IsDeaf outline Calls old.phase old p piece taken sent b new p') (λ kind. Waits outline Calls kind old p piece taken sent b new p' ⊎ TakesFrame outline Calls kind old p piece taken sent b new p')
      → Talks outline Calls old.phase (old.held ++ take taken piece) p sent new p'
  by_case old new p p' piece sent taken b None e h = by_deaf old.phase old new p p' piece sent taken b refl h
  by_case old new p p' piece sent taken b (Some kind) e (inl w) =
      let text : old.held ++ take taken piece ≡ old.held ++ piece = ap (λ (n : ℕ). old.held ++ take n piece) w.taken_is ∙ ap (λ (x : List ℕ). old.held ++ x) (take_all (length piece) piece (omega arith)) in
      let P : List ℕ → Type 0 = λ t. Talks outline Calls old.phase t p sent new p' in
      let Q : List ℕ → Type 0 = λ s. Talks outline Calls old.phase (old.held ++ piece) p s new p' in
      let R : State → Type 0 = λ n. Talks outline Calls old.phase (old.held ++ piece) p [] n p' in
      let S : A → Type 0 = λ x. Talks outline Calls old.phase (old.held ++ piece) p [] (state old.phase (old.held ++ piece)) x in
      subst P (sym text) (subst Q (sym w.sent_is) (subst R (sym (state_is new old.phase (old.held ++ piece) w.phase_is w.held_is)) (subst S (sym w.pool_is) (waits kind e w.partial))))
  by_case old new p p' piece sent taken b (Some kind) e (inr t) =
      let R : State → Type 0 = λ n. Talks outline Calls new.phase [] p' [] n p' in
      let after : Talks outline Calls new.phase [] p' [] new p' = subst R (sym (state_is new new.phase [] refl t.held_is)) (rests new.phase p') in
      goes kind t.message (old.held ++ take taken piece) [] sent [] new.phase p' e t.frame (sym (append-nil (old.held ++ take taken piece))) t.answer after (sym (append-nil sent))

  -- one step is a conversation of its own
  pub step_talks : (old new : State) (p p' : A) (piece sent : List ℕ) (taken : ℕ) (b : Bool) → Steps outline Calls old p piece taken sent b new p' → Talks outline Calls old.phase (old.held ++ take taken piece) p sent new p'
  step_talks old new p p' piece sent taken b h = by_case old new p p' piece sent taken b (kind_of old.phase) refl h

  -- a conversation goes on where it stopped
  pub goes_on : {phase : Phase} {text sent : List ℕ} {p q : A} {mid : State} → Talks outline Calls phase text p sent mid q
      → (more others : List ℕ) (new : State) (p' : A) → Talks outline Calls mid.phase (mid.held ++ more) q others new p' → Talks outline Calls phase (text ++ more) p (sent ++ others) new p'
  goes_on (waits kind speaks part) more others new p' h = h
  goes_on {text = text} {p = p} over more others new p' h = dropped (text ++ more) others p p' new (ended_talks h refl)
  goes_on stops more others new p' h = h
  goes_on (works v n m r first others' mid q part talk sent_is) more others new p' h =
      works v n m r first (others' ++ others) mid q part (goes_on talk more others new p' h) (ap (λ (x : List ℕ). x ++ others) sent_is ∙ append_assoc first others' others)
  goes_on (goes kind message frame rest first others' mid q speaks is_frame text_is answer talk sent_is) more others new p' h =
      goes kind message frame (rest ++ more) first (others' ++ others) mid q speaks is_frame (ap (λ (x : List ℕ). x ++ more) text_is ∙ append_assoc frame rest more) answer
      (goes_on talk more others new p' h) (ap (λ (x : List ℕ). x ++ others) sent_is ∙ append_assoc first others' others)

  -- a session that has not read anything is where it was
  calm_case : (s : State) (p : A) (o : Option Kind) → kind_of s.phase ≡ o → MatchOption o (s.held ≡ []) (λ kind. IsPartial kind s.held) → Talks outline Calls s.phase s.held p [] s p
  calm_case s p None e h =
      let P : List ℕ → Type 0 = λ t. Talks outline Calls s.phase t p [] s p in
      let R : State → Type 0 = λ x. Talks outline Calls s.phase [] p [] x p in
      subst P (sym h) (subst R (sym (state_is s s.phase [] refl h)) (rests s.phase p))
  calm_case s p (Some kind) e h = waits kind e h

  pub calm_talks : (s : State) (p : A) → IsCalm s → Talks outline Calls s.phase s.held p [] s p
  calm_talks s p h = calm_case s p (kind_of s.phase) refl h

  -- a conversation up to a place, and a step from there
  pub goes_by : (start old new : State) (p q p' : A) (piece rest before now sent : List ℕ) (at taken : ℕ) (b : Bool) → at ≤ length piece → rest ≡ drop at piece
      → Converses outline Calls start (take at piece) p before now old q → Steps outline Calls old q rest taken sent b new p' → Converses outline Calls start (take (at + taken) piece) p before (now ++ sent) new p'
  goes_by start old new p q p' piece rest before now sent at taken b le rest_is c s =
      let talk = step_talks old new q p' rest sent taken b s in
      let T : List ℕ → Type 0 = λ t. Talks outline Calls start.phase t p (c.0 ++ sent) new p' in
      let text : (start.held ++ take at piece) ++ take taken rest ≡ start.held ++ take (at + taken) piece =
      append_assoc start.held (take at piece) (take taken rest) ∙ ap (λ (x : List ℕ). start.held ++ (take at piece ++ take taken x)) rest_is ∙ ap (λ (x : List ℕ). start.held ++ x) (sym (take_add at taken piece le)) in
      (c.0 ++ sent, ap (λ (x : List ℕ). x ++ sent) c.1 ∙ append_assoc before c.0 sent, subst T text (goes_on c.2 (take taken rest) sent new p' talk))

  -- and one that has not begun
  pub begins : (start : State) (p : A) (piece before : List ℕ) → IsCalm start → Converses outline Calls start (take 0 piece) p before before start p
  begins start p piece before calm =
      let P : List ℕ → Type 0 = λ t. Talks outline Calls start.phase t p [] start p in
      ([], sym (append-nil before), subst P (sym (append-nil start.held)) (calm_talks start p calm))

  -- two conversations, one after the other
  pub joins : (start mid new : State) (p q p' : A) (one two before now after : List ℕ) → Converses outline Calls start one p before now mid q → Converses outline Calls mid two q now after new p' → Converses outline Calls start (one ++ two) p before after new p'
  joins start mid new p q p' one two before now after a b =
      let T : List ℕ → Type 0 = λ t. Talks outline Calls start.phase t p (a.0 ++ b.0) new p' in
      (a.0 ++ b.0, b.1 ∙ ap (λ (x : List ℕ). x ++ b.0) a.1 ∙ append_assoc before a.0 b.0, subst T (append_assoc start.held one two) (goes_on a.2 two b.0 new p' b.2))
