-- Turns one after another.
use Rattle.std.proofs.Common.{◌≡◌, ℕ, ◌≤◌, Bool, false, List, [], ◌∷◌, ◌++◌, length, take, Option, Some, None, ◌⊎◌, inl, inr, refl, sym, ap, subst, ◌∙◌, arith, append_assoc, append-nil, length-append, length-take}
use Rattle.std.specs.Prelude.{MatchOption}
use Rattle.std.proofs.lemmas.List.{take_all}
use Rattle.tp_model.specs.Pool.{Outline}
use Rattle.tp_model.specs.Calls.{Call}
use Rattle.tp_model.specs.Calls as calls
use Rattle.nbd_wire.specs.declared.Kind.{Kind}
use Rattle.nbd_wire.specs.Grammar.{IsFrame}
use Rattle.nbd_session.specs.declared.phase.Course.TheVariants.{Listens, Works}
use Rattle.nbd_session.specs.declared.phase.Phase.{Phase}
use Rattle.nbd_session.specs.declared.phase.Phase.TheVariants.{Flags, Options, Transmission, Ended}
use Rattle.nbd_session.specs.Session.{State, Steps, Waits, TakesFrame, IsDeaf, is_at_work, kind_of}
use Rattle.nbd_session.specs.Turns.{AreTurns, Happened, Sessions, pool_after, sessions_after}
use Rattle.tp_hub.specs.Told.{Answer, Told, Grows, KeepsRoom}
use Rattle.tp_hub.specs.Runs.{TakesText, answers_in, answers_of}

-- ---- room

pub room_same : (t : Told) → KeepsRoom t t
room_same t = record { room = omega arith; most = refl }

pub room_then : {a b c : Told} → KeepsRoom a b → KeepsRoom b c → KeepsRoom a c
room_then one two = record { room = let x = one.room in omega (arith, x, two.room); most = two.most ∙ one.most }

-- ---- what was added, one after another

pub grows_none : (t u : Told) → u.list ≡ t.list → KeepsRoom t u → t.marks ≤ u.marks → Grows t u []
grows_none t u same room marks = record { list = same ∙ sym (append-nil t.list); room = room; marks = marks }

pub grows_then : (a b c : Told) (first rest : List Answer) → Grows a b first → Grows b c rest → Grows a c (first ++ rest)
grows_then a b c first rest g h = record {
  list = h.list ∙ (ap (λ (l : List Answer). l ++ rest) g.list ∙ append_assoc a.list first rest);
  room = room_then g.room h.room;
  marks = omega (arith, g.marks, h.marks);
}

-- the same where nothing but the room changed in between
pub grows_on : (a b u c : Told) (first rest : List Answer) → Grows a b first → u.list ≡ b.list → KeepsRoom b u → b.marks ≤ u.marks → Grows u c rest → Grows a c (first ++ rest)
grows_on a b u c first rest g same room marks h = record {
  list = h.list ∙ (ap (λ (l : List Answer). l ++ rest) (same ∙ g.list) ∙ append_assoc a.list first rest);
  room = room_then g.room (room_then room h.room);
  marks = omega (arith, g.marks, marks, h.marks);
}

-- ---- turns one after another

pub sessions_join : {S : Type 0} (at : Sessions) (xs ys : List (Happened S)) → sessions_after at (xs ++ ys) ≡ sessions_after (sessions_after at xs) ys
sessions_join at [] ys = refl
sessions_join at (x ∷ xs) ys = sessions_join x.sessions xs ys

pub pool_join : {S : Type 0} (p : S) (xs ys : List (Happened S)) → pool_after p (xs ++ ys) ≡ pool_after (pool_after p xs) ys
pool_join p [] ys = refl
pool_join p (x ∷ xs) ys = pool_join x.pool xs ys

pub answers_join : {S : Type 0} (xs ys : List (Happened S)) → answers_in (xs ++ ys) ≡ answers_in xs ++ answers_in ys
answers_join [] ys = refl
answers_join (x ∷ xs) ys = ap (λ (l : List Answer). answers_of x.turn ++ l) (answers_join xs ys) ∙ sym (append_assoc (answers_of x.turn) (answers_in xs) (answers_in ys))

module _ {S : Type 0} (outline : S → Outline) (Calls : S → Call → calls.Answer → S → Type 0) where
  pub turns_join : (at : Sessions) (p : S) (xs ys : List (Happened S)) → AreTurns outline Calls at p xs → AreTurns outline Calls (sessions_after at xs) (pool_after p xs) ys → AreTurns outline Calls at p (xs ++ ys)
  turns_join at p [] ys a b = b
  turns_join at p (x ∷ xs) ys a b = (a.0, turns_join x.sessions x.pool xs ys a.1 b)

-- a text and the one behind it
pub text_join : {S : Type 0} (at : Sessions) (n : ℕ) (one two : List ℕ) (xs ys : List (Happened S)) → TakesText at n one xs → TakesText (sessions_after at xs) n two ys → TakesText at n (one ++ two) (xs ++ ys)
text_join at n one two [] ys a b = subst (λ t. TakesText at n (t ++ two) ys) (sym a) b
text_join at n one two (x ∷ xs) ys (piece, rest, sent, ended, is_open, is, some, text, more) b =
    (piece, rest ++ two, sent, ended, is_open, is, some, ap (λ t. t ++ two) text ∙ append_assoc piece rest two, text_join x.sessions n rest two xs ys more b)

-- no text, no turns, where no parts of a request are left
pub no_text : {S : Type 0} (at : Sessions) (n : ℕ) (xs : List (Happened S)) → is_at_work (at n).phase ≡ false → TakesText at n [] xs → xs ≡ []
no_text at n [] idle a = refl
no_text at n (x ∷ xs) idle (piece, rest, sent, ended, is_open, is, inr work, text, more) = absurd cc
no_text at n (x ∷ xs) idle (piece, rest, sent, ended, is_open, is, inl some, text, more) = let l = length-append piece rest in let e : 0 ≡ length (piece ++ rest) = ap length text in absurd (omega (arith, some, l, e))

-- ---- a step took no more than what it took

take_again : (n : ℕ) (xs : List ℕ) → n ≤ length xs → take (length (take n xs)) (take n xs) ≡ take n xs
take_again n xs le = take_all (length (take n xs)) (take n xs) (omega arith)

pub length_front : (n : ℕ) (xs : List ℕ) → n ≤ length xs → length (take n xs) ≡ n
length_front n xs le = omega (arith, length-take n xs, le)

module _ {S : Type 0} (outline : S → Outline) (Calls : S → Call → calls.Answer → S → Type 0) where
  -- a step on a piece is the same step on what it took of it
  pub exact_step : (old new : State) (p p' : S) (piece sent : List ℕ) (taken : ℕ) (ended : Bool) → taken ≤ length piece → Steps outline Calls old p piece taken sent ended new p'
      → Steps outline Calls old p (take taken piece) (length (take taken piece)) sent ended new p'
  exact_step old new p p' piece sent taken ended le h = by_kind (kind_of old.phase) h
    where
      len : length (take taken piece) ≡ taken
      len = length_front taken piece le

      all_of : taken ≡ length piece → take taken piece ≡ piece
      all_of e = take_all taken piece (omega (arith, e))

      by_deaf : (phase : Phase) → IsDeaf outline Calls phase old p piece taken sent ended new p' → IsDeaf outline Calls phase old p (take taken piece) (length (take taken piece)) sent ended new p'
      by_deaf (Transmission v size (Works x r)) h = record { part = h.part; none = h.none; taken_is = len ∙ h.taken_is; ended_is = h.ended_is; held_is = h.held_is }
      by_deaf Ended h = record { taken_is = refl; sent_is = h.sent_is; ended_is = h.ended_is; phase_is = h.phase_is; held_is = h.held_is; pool_is = h.pool_is }
      by_deaf (Flags a) h = absurd h
      by_deaf (Options z) h = absurd h
      by_deaf (Transmission v size (Listens x)) h = absurd h

      by_kind : (o : Option Kind) → MatchOption o (IsDeaf outline Calls old.phase old p piece taken sent ended new p') (λ kind. Waits outline Calls kind old p piece taken sent ended new p' ⊎ TakesFrame outline Calls kind old p piece taken sent ended new p')
          → MatchOption o (IsDeaf outline Calls old.phase old p (take taken piece) (length (take taken piece)) sent ended new p')
          (λ kind. Waits outline Calls kind old p (take taken piece) (length (take taken piece)) sent ended new p' ⊎ TakesFrame outline Calls kind old p (take taken piece) (length (take taken piece)) sent ended new p')
      by_kind None h = by_deaf old.phase h
      by_kind (Some kind) (inl h) = subst (λ t. Waits outline Calls kind old p t (length t) sent ended new p' ⊎ TakesFrame outline Calls kind old p t (length t) sent ended new p') (sym (all_of h.taken_is))
          (inl (record { partial = h.partial; taken_is = refl; sent_is = h.sent_is; ended_is = h.ended_is; phase_is = h.phase_is; held_is = h.held_is; pool_is = h.pool_is }))
      by_kind (Some kind) (inr h) = inr (record {
        message = h.message;
        some = let s = h.some in omega (arith, len, s);
        inside = omega arith;
        frame = subst (λ t. IsFrame kind h.message (old.held ++ t)) (sym (take_again taken piece le)) h.frame;
        answer = h.answer;
        ended_is = h.ended_is;
        held_is = h.held_is;
      })

-- room was made, and then these were added
pub grows_behind : (a u c : Told) (rest : List Answer) → u.list ≡ a.list → KeepsRoom a u → a.marks ≤ u.marks → Grows u c rest → Grows a c rest
grows_behind a u c rest same room marks h = record {
  list = h.list ∙ ap (λ (l : List Answer). l ++ rest) same;
  room = room_then room h.room;
  marks = omega (arith, marks, h.marks);
}
