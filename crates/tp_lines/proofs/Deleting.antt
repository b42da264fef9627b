-- Deletes that are asked one after another, and how many were done.
use Rattle.std.proofs.Common.{◌≡◌, ℕ, zero, suc, ◌+◌, Bool, true, List, [], ◌∷◌, ◌++◌, drop, refl, sym, ap, subst, ◌∙◌, arith}
use Rattle.std.specs.Prelude.{Err, MatchBool, MatchResult, Ok, Result, if◌then◌else◌}
use Rattle.std.specs.List.{list_any}
use Rattle.tp_hub.specs.declared.answers.Mark.{Mark}
use Rattle.tp_hub.specs.declared.answers.Mark.TheVariants.{Sent, End, Refused, Done, Line}
use Rattle.tp_hub.specs.Told.{Answer, Grows, HasRoom, Told, all_sent, told}
use Rattle.tp_hub.specs.Runs.{Incoming, Orders, taken_of}
use Rattle.tp_hub.specs.Desks.{AreAsked, Exchange, IsAsked}
use Rattle.tp_lines.specs.Clearing.{AreDeletes, accepted_in, count_of, delete_line, is_accepted, is_done}

-- a message is taken whole where there is room for its answer
pub whole_order : (Did : List Incoming → List Answer → Type 0) (line : List ℕ) (events bytes : ℕ) (out after : Told) → IsAsked Did (Orders line) events bytes out after → HasRoom out
    → (answers : List Answer) × Did (Orders line ∷ []) answers × Grows out after answers
whole_order Did line zero bytes out after a has = let some = a.begun has in absurd (omega (arith, some))
whole_order Did line (suc n) bytes out after a has =
    let P : ℕ → Type 0 = λ m. Did (taken_of (Orders line ∷ []) (suc m) bytes) a.answers in
    let Q : ℕ → Type 0 = λ b. Did (taken_of (Orders line ∷ []) 1 b) a.answers in
    (a.answers, subst Q a.cut.1 (subst P a.cut.0 a.did), a.adds)

-- and whether it was accepted is what the marks say
done_told : (marks : List Mark) (bytes : List ℕ) → is_accepted (told marks bytes) ≡ list_any is_done marks
done_told [] bytes = refl
done_told (Sent session len ∷ marks) bytes = done_told marks (drop len bytes)
done_told (End session ∷ marks) bytes = done_told marks bytes
done_told (Refused reason ∷ marks) bytes = done_told marks bytes
done_told (Done ∷ marks) bytes = refl
done_told (Line len ∷ marks) bytes = done_told marks (drop len bytes)

pub accepted_so : (out after : Told) (answers : List Answer) (marks : List Mark) (done : Bool) (n : ℕ) → out.list ≡ [] → Grows out after answers → told marks (all_sent after.list) ≡ after.list
    → done ≡ list_any is_done marks → n ≡ (if done then 1 else 0) → n ≡ count_of answers
accepted_so out after answers marks done n none grows says is one =
    let all : after.list ≡ answers = grows.list ∙ ap (λ (l : List Answer). l ++ answers) none in
    let same : is_accepted answers ≡ done = ap (λ (l : List Answer). is_accepted l) (sym all) ∙ (ap (λ (l : List Answer). is_accepted l) (sym says) ∙ (done_told marks (all_sent after.list) ∙ sym is)) in
    let P : Bool → Type 0 = λ b. n ≡ (if b then 1 else 0) in
    subst P (sym same) one

-- one more is asked
deletes_next : (id at n : ℕ) (xs : List Exchange) (x : Exchange) → at ≡ id + n → AreDeletes id n xs → x.took ≡ Orders (delete_line at) ∷ [] → AreDeletes id (suc n) (xs ++ x ∷ [])
deletes_next id at zero [] x is are took =
    let here : at ≡ id = omega (arith, is) in
    let P : ℕ → Type 0 = λ i. x.took ≡ Orders (delete_line i) ∷ [] in
    (subst P here took, tt)
deletes_next id at zero (y ∷ ys) x is are took = absurd are
deletes_next id at (suc n) [] x is are took = absurd are
deletes_next id at (suc n) (y ∷ ys) x is are took =
    let further : at ≡ id + 1 + n = omega (arith, is) in
    (are.0, deletes_next (id + 1) at n ys x further are.1 took)

accepted_more : (xs : List Exchange) (x : Exchange) → accepted_in (xs ++ x ∷ []) ≡ accepted_in xs + count_of x.answers
accepted_more [] x = omega arith
accepted_more (y ∷ ys) x = let rest = accepted_more ys x in omega (arith, rest)

module _ {D : Type 0} (Did : D → List Incoming → List Answer → D → Type 0) where
  asked_more : (old mid new : D) (xs : List Exchange) (x : Exchange) → AreAsked Did old xs mid → Did mid x.took x.answers new → AreAsked Did old (xs ++ x ∷ []) new
  asked_more old mid new [] x asked did = (new, subst (λ (d : D). Did d x.took x.answers new) asked did, refl)
  asked_more old mid new (y ∷ ys) x asked did = (asked.0, asked.1, asked_more asked.0 mid new ys x asked.2 did)

  -- so many ids were asked to be deleted, of which so many were there
  pub record Cleared (old now : D) (count deleted : ℕ) : Type 0 where
    pub asks : List Exchange
    pub asked : AreAsked Did old asks now
    pub are : AreDeletes 8388608 count asks
    pub accepted : deleted ≡ accepted_in asks

  pub none_cleared : (d : D) → Cleared d d 0 0
  none_cleared d = record { asks = []; asked = refl; are = tt; accepted = refl }

  pub one_cleared : (old now new : D) (count deleted more : ℕ) (x : Exchange) → Cleared old now count deleted → Did now x.took x.answers new → x.took ≡ Orders (delete_line (8388608 + count)) ∷ []
      → more ≡ deleted + count_of x.answers → Cleared old new (count + 1) more
  one_cleared old now new count deleted more x h did took is =
      let grown = accepted_more h.asks x in
      let was = h.accepted in
      let next : suc count ≡ count + 1 = omega arith in
      let P : ℕ → Type 0 = λ n. AreDeletes 8388608 n (h.asks ++ x ∷ []) in
      record {
        asks = h.asks ++ x ∷ [];
        asked = asked_more old now new h.asks x h.asked did;
        are = subst P next (deletes_next 8388608 (8388608 + count) count h.asks x refl h.are took);
        accepted = omega (arith, is, grown, was);
      }

  pub all_cleared : (old now : D) (count deleted : ℕ) → count ≡ 64 → Cleared old now count deleted → (xs : List Exchange) × AreAsked Did old xs now × AreDeletes 8388608 64 xs × (deleted ≡ accepted_in xs)
  all_cleared old now count deleted is h = let P : ℕ → Type 0 = λ n. AreDeletes 8388608 n h.asks in (h.asks, h.asked, subst P is h.are, h.accepted)

-- the same where there are clones
pub cleared_where : {E : Type 0} (b : Bool) (r : Result ℕ E) (xs : List Exchange) → b ≡ true → MatchResult r (λ deleted. AreDeletes 8388608 64 xs × (deleted ≡ accepted_in xs)) (λ refused. xs ≡ [])
    → MatchResult r (λ deleted. MatchBool b (AreDeletes 8388608 64 xs) (xs ≡ []) × (deleted ≡ accepted_in xs)) (λ refused. xs ≡ [])
cleared_where b (Ok deleted) xs on h = let P : Bool → Type 0 = λ x. MatchBool x (AreDeletes 8388608 64 xs) (xs ≡ []) in (subst P (sym on) h.0, h.1)
cleared_where b (Err refused) xs on h = h
