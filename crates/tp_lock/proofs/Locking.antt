-- An ask of a hub, where others may have asked it before.
use Rattle.std.proofs.Common.{◌≡◌, ◌+◌, ◌<◌, ◌≤◌, ◌⊎◌, ◌++◌, ◌∙◌, ap, append_assoc, append-nil, inl, inr, ℕ, ⊎_elim, zero, suc, Bool, true, false, Option, Some, List, [], ◌∷◌, length, take, refl, sym, subst, arith}
use Rattle.std.specs.Prelude.{not}
use Rattle.std.proofs.lemmas.Bool.{cases_lt}
use Rattle.tp_model.specs.Clauses.{View}
use Rattle.nbd_session.specs.declared.answer.TheConstants.{MAX_ANSWER}
use Rattle.nbd_session.specs.Turns.{Sessions}
use Rattle.tp_hub.specs.Told.{Answer, Grows, IsFull, Told, all_sent}
use Rattle.tp_hub.proofs.Turning.{room_same, room_then}
use Rattle.tp_hub.specs.Runs.{Brings, Incoming, taken_of}
use Rattle.tp_hub.specs.Desks.{IsAsked, IsCut, RunsSo}
use Rattle.tp_lock.specs.Locked.{AreAllMade, ArePartRuns, AsksInParts, MakesParts, SomeRun, SomeRunTo, SomeRuns, all_of, has_left}

pub some_run : {D : Type 0} (view : View D) (at at' : Sessions) (p p' : D) (event : Incoming) (events bytes : ℕ) (before after : Told) → IsAsked (λ took answers. RunsSo view at p took answers at' p') event events bytes before after
    → IsAsked (λ took answers. SomeRun view took answers) event events bytes before after
some_run view at at' p p' event events bytes before after asked = record {
  answers = asked.answers;
  did = (at, p, at', p', asked.did);
  adds = asked.adds;
  cut = asked.cut;
  silent = asked.silent;
  begun = asked.begun;
}

-- and whether parts are left behind it
pub some_run_to : {D : Type 0} (view : View D) (session : Option ℕ) (left : Bool) (at at' : Sessions) (p p' : D) (event : Incoming) (events bytes : ℕ) (before after : Told) → IsAsked (λ took answers. RunsSo view at p took answers at' p') event events bytes before after
    → left ≡ has_left at' session → IsAsked (λ took answers. SomeRunTo view session left took answers) event events bytes before after
some_run_to view session left at at' p p' event events bytes before after asked is = record {
  answers = asked.answers;
  did = (at, p, at', p', asked.did, sym is);
  adds = asked.adds;
  cut = asked.cut;
  silent = asked.silent;
  begun = asked.begun;
}

-- one run is what is known of an ask
pub at_once : {D : Type 0} (view : View D) (event : Incoming) (events bytes : ℕ) (before after : Told) → IsAsked (λ took answers. SomeRun view took answers) event events bytes before after
    → IsAsked (λ took answers. SomeRuns view took answers) event events bytes before after
at_once view event events bytes before after asked = record {
  answers = asked.answers;
  did = inl asked.did;
  adds = asked.adds;
  cut = asked.cut;
  silent = asked.silent;
  begun = asked.begun;
}

-- ---- parts of a long request

all_behind : (xs : List (List Answer)) (a : List Answer) → all_of (xs ++ a ∷ []) ≡ all_of xs ++ a
all_behind [] a = append-nil a
all_behind (x ∷ xs) a = ap (λ (l : List Answer). x ++ l) (all_behind xs a) ∙ sym (append_assoc x (all_of xs) a)

its_own : (session : ℕ) (piece : List ℕ) (events bytes : ℕ) → IsCut (Brings session piece) events bytes
    → (taken_of (Brings session piece ∷ []) events bytes ≡ []) ⊎ ((front : List ℕ) × (taken_of (Brings session piece ∷ []) events bytes ≡ Brings session front ∷ []))
its_own session piece zero zero cut = inl refl
its_own session piece zero (suc n) cut = inr (take (suc n) piece, refl)
its_own session piece (suc zero) bytes cut = inr (piece, refl)
its_own session piece (suc (suc k)) bytes cut = absurd (omega (arith, cut.0))

pub not_so : (b : Bool) → not b ≡ true → b ≡ false
not_so true e = absurd cc
not_so false e = refl

pub so : (b : Bool) → not b ≡ false → b ≡ true
so true e = refl
so false e = absurd cc

no_bytes_cut : (bytes : ℕ) → (bytes ≡ 0) ⊎ (bytes < 0) → bytes ≡ 0
no_bytes_cut bytes (inl is) = is
no_bytes_cut bytes (inr lt) = absurd (omega (arith, lt))

grows_both : (a b c : Told) (first rest : List Answer) → Grows a b first → Grows b c rest → Grows a c (first ++ rest)
grows_both a b c first rest g h = record {
  list = h.list ∙ (ap (λ (l : List Answer). l ++ rest) g.list ∙ append_assoc a.list first rest);
  room = room_then g.room h.room;
  marks = omega (arith, g.marks, h.marks);
}

grows_none : (t : Told) → Grows t t []
grows_none t = record { list = sym (append-nil t.list); room = room_same t; marks = omega arith }

-- where not both fit, one of them does not
one_lacks : (bytes room count marks : ℕ) → (bytes ≤ room → count ≤ marks → ⊥) → (room < bytes) ⊎ (marks < count)
one_lacks bytes room count marks both = ⊎_elim (λ few. inl few) (λ fits. ⊎_elim (λ few. inr few) (λ has. absurd (both fits has)) (cases_lt marks count)) (cases_lt room bytes)

-- what does not fit in some room does not fit in less
full_in_less : (first now : Told) (answers : List Answer) → answers ≡ now.list → first.room ≤ now.room → first.marks ≤ now.marks → IsFull now → IsFull (record { list = answers; room = first.room; marks = first.marks; most = first.most })
full_in_less first now answers same room marks (inl few) =
    let sent : length (all_sent answers) ≡ length (all_sent now.list) = ap (λ (l : List Answer). length (all_sent l)) same in
    inl (omega (arith, sent, room, few))
full_in_less first now answers same room marks (inr few) =
    let count : length answers ≡ length now.list = ap (λ (l : List Answer). length l) same in
    inr (omega (arith, count, marks, few))

-- a piece of which nothing was taken wanted room
wants_room : (Did : List Incoming → List Answer → Type 0) (session : ℕ) (piece : List ℕ) (events bytes : ℕ) (before after : Told) → events ≡ 0 → bytes ≡ 0 → IsAsked Did (Brings session piece) events bytes before after → IsFull before
wants_room Did session piece events bytes before after none nothing asked =
    one_lacks (length (all_sent before.list) + MAX_ANSWER) before.room (length before.list + 2) before.marks
    (λ fits has. let some : 0 < events + bytes = asked.begun (record { bytes = fits; marks = has }) in absurd (omega (arith, some, none, nothing)))

-- parts were made, and then nothing was taken
made_to_full : (Did : List Incoming → List Answer → Type 0) (session : ℕ) (piece : List ℕ) (last : Bool) (events bytes : ℕ) (first before after : Told) (made : List Answer) → events ≡ 0 → bytes ≡ 0 → Grows first before made
    → IsAsked Did (Brings session piece) events bytes before after → AreAllMade first last after
made_to_full Did session piece last events bytes first before after made none nothing grows asked =
    let adds : Grows before after [] = subst (λ (l : List Answer). Grows before after l) (asked.silent none nothing) asked.adds in
    inr (full_in_less first before after.list (adds.list ∙ append-nil before.list) grows.room.room grows.marks (wants_room Did session piece events bytes before after none nothing asked))

-- answers were given before the parts
made_from : (first before after : Told) (last : Bool) (answers : List Answer) → Grows first before answers → AreAllMade before last after → AreAllMade first last after
made_from first before after last answers grows (inl none) = inl none
made_from first before after last answers grows (inr full) = inr (full_in_less first (record { list = after.list; room = before.room; marks = before.marks; most = before.most }) after.list refl grows.room.room grows.marks full)

module _ {D : Type 0} (view : View D) (session : ℕ) (left : Bool) where
  -- one ask, and whether parts are left behind it
  abbrev pub AskedTo : Bool → List ℕ → ℕ → ℕ → Told → Told → Type 0
  AskedTo more piece events bytes before after = IsAsked (λ took answers. SomeRunTo view (Some session) more took answers) (Brings session piece) events bytes before after

  -- the parts that were made so far, and whether there are more
  abbrev pub MadeSoFar : Bool → Told → Told → Type 0
  MadeSoFar more before after = (parts : List (List Answer)) × ArePartRuns view session left parts more × Grows before after (all_of parts)

  pub parts_none : (t : Told) → MadeSoFar left t t
  parts_none t = ([], refl, grows_none t)

  are_behind : (first : Bool) (xs : List (List Answer)) (more : Bool) (a : List Answer) (last : Bool) → ArePartRuns view session first xs more → more ≡ true → SomeRunTo view (Some session) last (Brings session [] ∷ []) a
      → ArePartRuns view session first (xs ++ a ∷ []) last
  are_behind first [] more a last are work run = (sym are ∙ work, last, run, refl)
  are_behind first (x ∷ xs) more a last are work run = (are.0, are.1, are.2, are_behind are.1 xs more a last are.3 work run)

  pub parts_more : (more last : Bool) (events bytes : ℕ) (before mid after : Told) → more ≡ true → 0 < events → MadeSoFar more before mid → AskedTo last [] events bytes mid after → MadeSoFar last before after
  parts_more more last zero bytes before mid after work some made asked = absurd (omega (arith, some))
  parts_more more last (suc zero) bytes before mid after work some made asked = (
    made.0 ++ asked.answers ∷ [],
    are_behind left made.0 more asked.answers last made.1 work asked.did,
    subst (λ (l : List Answer). Grows before after l) (sym (all_behind made.0 asked.answers)) (grows_both before mid after (all_of made.0) asked.answers made.2 asked.adds),
  )
  parts_more more last (suc (suc k)) bytes before mid after work some made asked = absurd (omega (arith, asked.cut.0))

  -- an ask that took nothing
  parts_still : (more last : Bool) (bytes : ℕ) (before mid after : Told) → bytes ≡ 0 → MadeSoFar more before mid → AskedTo last [] 0 bytes mid after → MadeSoFar more before after
  parts_still more last bytes before mid after none made asked =
      let adds = subst (λ (l : List Answer). Grows mid after l) (asked.silent refl none) asked.adds in
      (made.0, made.1, subst (λ (l : List Answer). Grows before after l) (append-nil (all_of made.0)) (grows_both before mid after (all_of made.0) [] made.2 adds))

  -- no part is left, or there is no room
  parts_end : (more : Bool) (before after : Told) → MadeSoFar more before after → AreAllMade before more after → MakesParts view session left before after
  parts_end more before after made ends = (made.0, more, made.1, made.2, ends)

  -- no part is left
  pub parts_done : (more : Bool) (before after : Told) → more ≡ false → MadeSoFar more before after → MakesParts view session left before after
  parts_done more before after none made = parts_end more before after made (inl none)

  -- the last ask took nothing
  pub parts_stop : (more last : Bool) (events bytes : ℕ) (before mid after : Told) → events ≡ 0 → MadeSoFar more before mid → AskedTo last [] events bytes mid after → MakesParts view session left before after
  parts_stop more last (suc n) bytes before mid after nothing made asked = absurd (omega (arith, nothing))
  parts_stop more last zero bytes before mid after nothing made asked =
      let none : bytes ≡ 0 = no_bytes_cut bytes asked.cut in
      parts_end more before after (parts_still more last bytes before mid after none made asked)
      (made_to_full (λ (took : List Incoming) (answers : List Answer). SomeRunTo view (Some session) last took answers) session [] more 0 bytes before mid after (all_of made.0) refl none made.2 asked)

  -- the last ask was one of all that is left
  pub parts_all : (more last : Bool) (events bytes : ℕ) (before mid after : Told) → more ≡ true → (0 < events → last ≡ false) → MadeSoFar more before mid → AskedTo last [] events bytes mid after → MakesParts view session left before after
  parts_all more last zero bytes before mid after work none made asked = parts_stop more last zero bytes before mid after refl made asked
  parts_all more last (suc n) bytes before mid after work none made asked =
      parts_end last before after (parts_more more last (suc n) bytes before mid after work (omega arith) made asked) (inl (none (omega arith)))

  pub in_parts : (piece : List ℕ) (events bytes : ℕ) (before mid after : Told) → 0 < events + bytes → AskedTo left piece events bytes before mid → MakesParts view session left mid after → AsksInParts view session piece events bytes before after
  in_parts piece events bytes before mid after some asked made = (
    made.1,
    record {
      answers = asked.answers ++ all_of made.0;
      did = record { session = session; first = asked.answers; left = left; run = asked.did; is_its = its_own session piece events bytes asked.cut; parts = made.0; are = made.2; answers_are = refl };
      adds = grows_both before mid after asked.answers (all_of made.0) asked.adds made.3;
      cut = asked.cut;
      silent = λ none nothing. absurd (omega (arith, some, none, nothing));
      begun = asked.begun;
    },
    made_from before mid after made.1 asked.answers asked.adds made.4,
  )

  -- nothing was taken
  pub in_no_parts : (piece : List ℕ) (events bytes : ℕ) (before after : Told) → events ≡ 0 → bytes ≡ 0 → AskedTo left piece events bytes before after → AsksInParts view session piece events bytes before after
  in_no_parts piece events bytes before after none nothing asked = (
    left,
    record {
      answers = asked.answers;
      did = record { session = session; first = asked.answers; left = left; run = asked.did; is_its = its_own session piece events bytes asked.cut; parts = []; are = refl; answers_are = sym (append-nil asked.answers) };
      adds = asked.adds;
      cut = asked.cut;
      silent = asked.silent;
      begun = asked.begun;
    },
    made_to_full (λ (took : List Incoming) (answers : List Answer). SomeRunTo view (Some session) left took answers) session piece left events bytes before before after [] none nothing (grows_none before) asked,
  )

-- what is known of an ask of a piece up to the last part
pub of_parts : {D : Type 0} (view : View D) (session : ℕ) (piece : List ℕ) (events bytes : ℕ) (before after : Told) → AsksInParts view session piece events bytes before after
    → IsAsked (λ took answers. SomeRuns view took answers) (Brings session piece) events bytes before after
of_parts view session piece events bytes before after asks = record {
  answers = asks.1.answers;
  did = inr (asks.0, asks.1.did);
  adds = asks.1.adds;
  cut = asks.1.cut;
  silent = asks.1.silent;
  begun = asks.1.begun;
}
