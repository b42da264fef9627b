-- A session hears a piece, step by step.
use Rattle.std.proofs.Common.{◌≡◌, ℕ, zero, suc, ◌+◌, ◌<◌, ◌≤◌, Bool, true, false, List, [], ◌∷◌, ◌++◌, length, take, drop, Option, Some, None, ◌⊎◌, inl, inr, refl, sym, ap, subst, ◌∙◌, arith, append-nil, length-drop}
use Rattle.tp_model.specs.Clauses.{PoolCall, View}
use Rattle.std.specs.Prelude.{MatchOption, slice_set}
use Rattle.nbd_wire.specs.declared.Kind.{Kind}
use Rattle.nbd_session.specs.declared.phase.Course.TheVariants.{Listens, Works}
use Rattle.nbd_session.specs.declared.phase.Phase.{Phase}
use Rattle.nbd_session.specs.declared.phase.Phase.TheVariants.{Flags, Options, Transmission, Ended}
use Rattle.nbd_session.specs.Session.{State, state, IsDeaf, Steps, TakesFrame, Waits, has_ended, is_at_work, kind_of, volumes_in}
use Rattle.nbd_session.specs.Clauses.{Advances}
use Rattle.nbd_session.specs.Turns.{AreTurns, Happened, Others, Sessions, TakesTurn, Turn, pool_after, sessions_after}
use Rattle.nbd_session.specs.Turns as turns
use Rattle.tp_hub.specs.Told.{Answer, HasRoom, KeepsRoom, Told, Grows, all_sent}
use Rattle.tp_hub.specs.Runs.{TakesText, answers_in, closed_if, said}
use Rattle.tp_hub.specs.Places.{HearsAnywhere, KeepsServing, put}
use Rattle.tp_hub.proofs.Placing.{HoldsMove, ended_is, goes_on, put_is, put_other, put_put, put_same, serves_same, serves_set, serves_twice, set_there}
use Rattle.tp_hub.proofs.Turning.{answers_join, exact_step, grows_behind, grows_none, grows_on, grows_then, length_front, pool_join, room_same, room_then, sessions_join, text_join, turns_join}

-- the front of a list, and what follows it
pub take_on : (a b : ℕ) (xs : List ℕ) → a ≤ length xs → take (a + b) xs ≡ take a xs ++ take b (drop a xs)
take_on zero b xs le = let none : zero + b ≡ b = omega arith in ap (λ n. take n xs) none
take_on (suc a) b [] le = absurd (omega arith)
take_on (suc a) b (x ∷ xs) le = let more : suc a + b ≡ suc (a + b) = omega arith in ap (λ n. take n (x ∷ xs)) more ∙ ap (λ l. x ∷ l) (take_on a b xs (omega arith))

-- something is left
pub left_some : (a : ℕ) (piece rest : List ℕ) → a < length piece → rest ≡ drop a piece → 0 < length rest
left_some a piece rest lt is = let l = length-drop a piece in let e = ap length is in omega (arith, l, e, lt)

at_work_goes : (phase : Phase) → is_at_work phase ≡ true → has_ended phase ≡ false
at_work_goes (Flags a) w = refl
at_work_goes (Options z) w = refl
at_work_goes (Transmission v size c) w = refl
at_work_goes Ended w = absurd cc

module _ {D : Type 0} (view : View D) where
  -- before the first step
  pub hears_none : (n : ℕ) (old : State) (p : D) (text : List ℕ) (t : Told) → HearsAnywhere view n old p (take 0 text) t t old p
  hears_none n old p text t at is = record { turns = []; are = tt; takes = refl; sessions_are = sym (put_is at n old is); pool_is = refl; adds = grows_none t t refl (room_same t) (omega arith) }

  -- and one step more
  pub hears_more : (n : ℕ) (old s new : State) (p q p' : D) (piece rest sent : List ℕ) (a taken : ℕ) (ended : Bool) (before mid wide after : Told)
      → a ≤ length piece → 0 < length rest → is_at_work s.phase ≡ false → rest ≡ drop a piece → has_ended s.phase ≡ false → HearsAnywhere view n old p (take a piece) before mid s q
      → wide.list ≡ mid.list → KeepsRoom mid wide → mid.marks ≤ wide.marks → Advances view s q rest taken sent ended new p'
      → Grows wide after (said n sent ++ closed_if n ended) → HearsAnywhere view n old p (take (a + taken) piece) before after new p'
  hears_more n old s new p q p' piece rest sent a taken ended before mid wide after le some idle rest_is is_open hears same room marks adv grows at is =
      let x = hears at is in
      let bytes : List ℕ = take taken rest in
      let turn : Turn = turns.Hears n bytes (length bytes) sent ended in
      let h : Happened D = record { turn = turn; sessions = put at n new; pool = p' } in
      let step = exact_step view.outline (PoolCall view) s new q p' rest sent taken ended adv.inside adv.steps in
      let here : TakesTurn view.outline (PoolCall view) (put at n s) q turn (put at n new) p' = (
        subst (λ r. Steps view.outline (PoolCall view) (put at n s n) q bytes (length bytes) sent ended r p') (sym (put_same at n new))
            (subst (λ r. Steps view.outline (PoolCall view) r q bytes (length bytes) sent ended new p') (sym (put_same at n s)) step),
        (λ i ne. put_other at n new i ne ∙ sym (put_other at n s i ne)),
      ) in
      let there : AreTurns view.outline (PoolCall view) (sessions_after at x.turns) (pool_after p x.turns) (h ∷ []) = (
        subst (λ (d : D). TakesTurn view.outline (PoolCall view) (sessions_after at x.turns) d turn (put at n new) p') (sym x.pool_is)
            (subst (λ (r : Sessions). TakesTurn view.outline (PoolCall view) r q turn (put at n new) p') (sym x.sessions_are) here),
        tt,
      ) in
      let goes : has_ended (sessions_after at x.turns n).phase ≡ false = ap (λ (r : Sessions). has_ended (r n).phase) x.sessions_are ∙ (ap (λ (r : State). has_ended r.phase) (put_same at n s) ∙ is_open) in
      let text : take a piece ++ bytes ≡ take (a + taken) piece = ap (λ l. take a piece ++ take taken l) rest_is ∙ sym (take_on a taken piece le) in
      let takes = text_join at n (take a piece) bytes x.turns (h ∷ []) x.takes (bytes, [], sent, ended, goes, refl, inl (let l = length_front taken rest adv.inside in let m = adv.moves some idle in omega (arith, l, m)), sym (append-nil bytes), refl) in
      record {
        turns = x.turns ++ h ∷ [];
        are = turns_join view.outline (PoolCall view) at p x.turns (h ∷ []) x.are there;
        takes = subst (λ t. TakesText at n t (x.turns ++ h ∷ [])) text takes;
        sessions_are = sessions_join at x.turns (h ∷ []);
        pool_is = pool_join p x.turns (h ∷ []);
        adds = subst (Grows before after) (sym (answers_join x.turns (h ∷ []) ∙ ap (λ (l : List Answer). answers_in x.turns ++ l) (append-nil (said n sent ++ closed_if n ended))))
            (grows_on before mid wide after (answers_in x.turns) (said n sent ++ closed_if n ended) x.adds same room marks grows);
      }

  -- only the room changed since
  pub hears_wide : (n : ℕ) (old new : State) (p p' : D) (text : List ℕ) (before after wide : Told) → HearsAnywhere view n old p text before after new p'
      → wide.list ≡ after.list → KeepsRoom after wide → after.marks ≤ wide.marks → HearsAnywhere view n old p text before wide new p'
  hears_wide n old new p p' text before after wide hears same room marks at is =
      let x = hears at is in
      record {
        turns = x.turns;
        are = x.are;
        takes = x.takes;
        sessions_are = x.sessions_are;
        pool_is = x.pool_is;
        adds = record { list = same ∙ x.adds.list; room = room_then x.adds.room room; marks = omega (arith, x.adds.marks, marks) };
      }

  -- what stands between the places and the pool
  pub keeps_none : (n : ℕ) (old : Option State) (p : D) → KeepsServing view n old p old p
  keeps_none n old p slots lt is serves = serves_same (view.outline p) (view.more p) slots n old is serves

  pub keeps_then : (n : ℕ) (old mid new : Option State) (p q p' : D) → KeepsServing view n old p mid q → KeepsServing view n mid q new p' → KeepsServing view n old p new p'
  keeps_then n old mid new p q p' one two slots lt is serves =
      let there = set_there slots n mid lt in
      serves_twice (view.outline p') (view.more p') slots n mid new (two (slice_set slots n mid) there.0 there.1 (one slots lt is serves))

  -- where a session goes on, and where it ends
  keeps_step : (n : ℕ) (s new : State) (q p' : D) (piece sent : List ℕ) (taken : ℕ) (ended : Bool) → Advances view s q piece taken sent ended new p' → has_ended new.phase ≡ false → KeepsServing view n (Some s) q (Some new) p'
  keeps_step n s new q p' piece sent taken ended adv is_open slots lt is serves =
      serves_set (view.outline q) (view.outline p') (view.more q) (view.more p') slots n (Some s) (Some new) lt is serves adv.geometry adv.more
      (goes_on (view.outline p') (view.more p') new.phase adv.ready is_open, adv.calm)
      adv.holds

  keeps_end : (n : ℕ) (s new : State) (q p' : D) (piece sent : List ℕ) (taken : ℕ) (ended : Bool) → Advances view s q piece taken sent ended new p' → has_ended new.phase ≡ true → KeepsServing view n (Some s) q None p'
  keeps_end n s new q p' piece sent taken ended adv over slots lt is serves =
      let end : new ≡ state Ended [] = ended_is new adv.calm over in
      serves_set (view.outline q) (view.outline p') (view.more q) (view.more p') slots n (Some s) None lt is serves adv.geometry adv.more tt
      (subst (λ (r : State). HoldsMove (volumes_in s.phase) (volumes_in r.phase) (view.outline q).holds (view.outline p').holds) end adv.holds)

  pub keeps_more : (n : ℕ) (old s new : State) (p q p' : D) (piece sent : List ℕ) (taken : ℕ) (ended : Bool) → KeepsServing view n (Some old) p (Some s) q
      → Advances view s q piece taken sent ended new p' → has_ended new.phase ≡ false → KeepsServing view n (Some old) p (Some new) p'
  keeps_more n old s new p q p' piece sent taken ended keeps adv is_open = keeps_then n (Some old) (Some s) (Some new) p q p' keeps (keeps_step n s new q p' piece sent taken ended adv is_open)

  pub keeps_over : (n : ℕ) (old s new : State) (p q p' : D) (piece sent : List ℕ) (taken : ℕ) (ended : Bool) → KeepsServing view n (Some old) p (Some s) q
      → Advances view s q piece taken sent ended new p' → has_ended new.phase ≡ true → KeepsServing view n (Some old) p None p'
  keeps_over n old s new p q p' piece sent taken ended keeps adv over = keeps_then n (Some old) (Some s) None p q p' keeps (keeps_end n s new q p' piece sent taken ended adv over)

  -- whether a session has ended is told
  pub told_end : (s new : State) (q p' : D) (piece sent : List ℕ) (taken : ℕ) (ended : Bool) → has_ended s.phase ≡ false → Advances view s q piece taken sent ended new p' → has_ended new.phase ≡ ended
  told_end s new q p' piece sent taken ended is_open adv = by_kind (kind_of s.phase) refl adv.steps
    where
      by_deaf : (phase : Phase) → s.phase ≡ phase → IsDeaf view.outline (PoolCall view) phase s q piece taken sent ended new p' → has_ended new.phase ≡ ended
      by_deaf (Transmission v size (Works x r)) is h = sym h.ended_is
      by_deaf Ended is h = let over : has_ended s.phase ≡ true = ap has_ended is in absurd cc
      by_deaf (Flags a) is h = absurd h
      by_deaf (Options z) is h = absurd h
      by_deaf (Transmission v size (Listens x)) is h = absurd h

      by_kind : (o : Option Kind) → kind_of s.phase ≡ o → MatchOption o (IsDeaf view.outline (PoolCall view) s.phase s q piece taken sent ended new p') (λ kind. Waits view.outline (PoolCall view) kind s q piece taken sent ended new p' ⊎ TakesFrame view.outline (PoolCall view) kind s q piece taken sent ended new p')
          → has_ended new.phase ≡ ended
      by_kind None is h = by_deaf s.phase refl h
      by_kind (Some kind) is (inl h) = ap has_ended h.phase_is ∙ (is_open ∙ sym h.ended_is)
      by_kind (Some kind) is (inr h) = sym h.ended_is

  -- ---- parts of a request

  -- what was heard, and what was heard then
  pub hears_join : (n : ℕ) (old s new : State) (p q p' : D) (one two : List ℕ) (before mid after : Told) → HearsAnywhere view n old p one before mid s q → HearsAnywhere view n s q two mid after new p' → HearsAnywhere view n old p (one ++ two) before after new p'
  hears_join n old s new p q p' one two before mid after first then_ at is =
      let x = first at is in
      let y = then_ (put at n s) (put_same at n s) in
      let are : AreTurns view.outline (PoolCall view) (sessions_after at x.turns) (pool_after p x.turns) y.turns =
      subst (λ (d : D). AreTurns view.outline (PoolCall view) (sessions_after at x.turns) d y.turns) (sym x.pool_is) (subst (λ (r : Sessions). AreTurns view.outline (PoolCall view) r q y.turns) (sym x.sessions_are) y.are) in
      record {
        turns = x.turns ++ y.turns;
        are = turns_join view.outline (PoolCall view) at p x.turns y.turns x.are are;
        takes = text_join at n one two x.turns y.turns x.takes (subst (λ (r : Sessions). TakesText r n two y.turns) (sym x.sessions_are) y.takes);
        sessions_are = sessions_join at x.turns y.turns ∙ (ap (λ (r : Sessions). sessions_after r y.turns) x.sessions_are ∙ (y.sessions_are ∙ put_put at n s new));
        pool_is = pool_join p x.turns y.turns ∙ (ap (λ (d : D). pool_after d y.turns) x.pool_is ∙ y.pool_is);
        adds = subst (Grows before after) (sym (answers_join x.turns y.turns)) (grows_then before mid after (answers_in x.turns) (answers_in y.turns) x.adds y.adds);
      }

  -- room was made before it
  pub hears_room : (n : ℕ) (old new : State) (p p' : D) (text : List ℕ) (before wide after : Told) → wide.list ≡ before.list → KeepsRoom before wide → before.marks ≤ wide.marks → HearsAnywhere view n old p text wide after new p'
      → HearsAnywhere view n old p text before after new p'
  hears_room n old new p p' text before wide after same room marks hears at is =
      let x = hears at is in
      record {
        turns = x.turns;
        are = x.are;
        takes = x.takes;
        sessions_are = x.sessions_are;
        pool_is = x.pool_is;
        adds = grows_behind before wide after (answers_in x.turns) same room marks x.adds;
      }

  -- one part, behind which there may be others
  pub hears_part : (n : ℕ) (s new : State) (q p' : D) (piece sent : List ℕ) (taken : ℕ) (ended : Bool) (mid after : Told) → is_at_work s.phase ≡ true → has_ended s.phase ≡ false → piece ≡ []
      → Advances view s q piece taken sent ended new p' → Grows mid after (said n sent ++ closed_if n ended) → HearsAnywhere view n s q [] mid after new p'
  hears_part n s new q p' piece sent taken ended mid after work is_open none adv grows at is =
      let len : length piece ≡ 0 = ap length none in
      let taken_is : taken ≡ 0 = omega (arith, len, adv.inside) in
      let turn : Turn = turns.Hears n [] 0 sent ended in
      let h : Happened D = record { turn = turn; sessions = put at n new; pool = p' } in
      let step = subst (λ (t : List ℕ). Steps view.outline (PoolCall view) s q t 0 sent ended new p') none (subst (λ (k : ℕ). Steps view.outline (PoolCall view) s q piece k sent ended new p') taken_is adv.steps) in
      let here : TakesTurn view.outline (PoolCall view) at q turn (put at n new) p' = (
        subst (λ r. Steps view.outline (PoolCall view) (at n) q [] 0 sent ended r p') (sym (put_same at n new)) (subst (λ r. Steps view.outline (PoolCall view) r q [] 0 sent ended new p') (sym is) step),
        (λ i ne. put_other at n new i ne),
      ) in
      let open_ : has_ended (at n).phase ≡ false = ap (λ (r : State). has_ended r.phase) is ∙ is_open in
      let busy : is_at_work (at n).phase ≡ true = ap (λ (r : State). is_at_work r.phase) is ∙ work in
      record {
        turns = h ∷ [];
        are = (here, tt);
        takes = ([], [], sent, ended, open_, refl, inr busy, refl, refl);
        sessions_are = refl;
        pool_is = refl;
        adds = subst (Grows mid after) (sym (append-nil (said n sent ++ closed_if n ended))) grows;
      }

  -- a part that is not the last says nothing
  pub part_is_silent : (n : ℕ) (s new : State) (q p' : D) (piece sent : List ℕ) (taken : ℕ) (ended : Bool) (mid after : Told) → has_ended s.phase ≡ false → Advances view s q piece taken sent ended new p'
      → Grows mid after (said n sent ++ closed_if n ended) → is_at_work new.phase ≡ true → HasRoom mid → HasRoom after
  part_is_silent n s new q p' piece sent taken ended mid after is_open adv grows work room =
      let goes : has_ended new.phase ≡ false = at_work_goes new.phase work in
      let end : ended ≡ false = sym (told_end s new q p' piece sent taken ended is_open adv) ∙ goes in
      let none : said n sent ++ closed_if n ended ≡ [] = ap (λ (t : List ℕ). said n t ++ closed_if n ended) (adv.silent work) ∙ ap (closed_if n) end in
      let same : after.list ≡ mid.list = grows.list ∙ (ap (λ (l : List Answer). mid.list ++ l) none ∙ append-nil mid.list) in
      let bytes : length (all_sent after.list) ≡ length (all_sent mid.list) = ap (λ (l : List Answer). length (all_sent l)) same in
      let count : length after.list ≡ length mid.list = ap length same in
      record { bytes = omega (arith, bytes, room.bytes, grows.room.room); marks = omega (arith, count, room.marks, grows.marks) }
