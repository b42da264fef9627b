-- How often a volume is held, before and after a session begins to hold one, or ends.
use Rattle.std.proofs.Common.{◌≡◌, ◌≢◌, ℕ, ◌+◌, ◌-◌, ◌<◌, ◌≤◌, Bool, true, false, true≢false, cond, List, [], ◌∷◌, ◌++◌, length, Option, Some, None, inl, inr, refl, sym, ap, subst, ◌∙◌, append_assoc, arith}
use Rattle.std.specs.Prelude.{MatchBool, if◌then◌else◌}
use Rattle.std.specs.Option.{unwrap_or}
use Rattle.std.specs.Ordering.{nat_cmp}
use Rattle.std.specs.FinMap.{FinMap, empty, get, insert, remove}
use Rattle.std.proofs.lemmas.Bool.{cases_eq, cases_lt, eq-eqb, le-leb, lt-leb, ne_eqb}
use Rattle.tp_model.specs.Pool.{hold_count, hold_total}
use Rattle.tp_model.specs.Calls.{Done, Hold, LetGo, holds_after, released}
use Rattle.tp_model.proofs.Maps.{get_insert, get_remove}
use Rattle.tp_holders.specs.Holders.{counts_of}
use Rattle.tp_holders.proofs.Holding.{count_is, counts_none, counts_released, one_at, same_times, times, times-append, times_at}
use Rattle.tp_holders.proofs.Totals.{count_total}
use Rattle.nbd_session.specs.Clauses.{HoldsBeside}

-- ---- one volume more, or less

count_insert : (h : FinMap nat_cmp ℕ) (v n : ℕ) → hold_count (insert h v n) v ≡ n
count_insert h v n = ap (λ (o : Option ℕ). unwrap_or o 0) (get_insert h v n v ∙ ap (λ (b : Bool). cond b (Some n) (get h v)) (eq-eqb v v refl))

insert_other : (h : FinMap nat_cmp ℕ) (v n i : ℕ) → i ≢ v → hold_count (insert h v n) i ≡ hold_count h i
insert_other h v n i ne = ap (λ (o : Option ℕ). unwrap_or o 0) (get_insert h v n i ∙ ap (λ (b : Bool). cond b (Some n) (get h i)) (ne_eqb i v ne))

count_remove : (h : FinMap nat_cmp ℕ) (v : ℕ) → hold_count (remove h v) v ≡ 0
count_remove h v = ap (λ (o : Option ℕ). unwrap_or o 0) (get_remove h v v ∙ ap (λ (b : Bool). cond b None (get h v)) (eq-eqb v v refl))

remove_other : (h : FinMap nat_cmp ℕ) (v i : ℕ) → i ≢ v → hold_count (remove h v) i ≡ hold_count h i
remove_other h v i ne = ap (λ (o : Option ℕ). unwrap_or o 0) (get_remove h v i ∙ ap (λ (b : Bool). cond b None (get h i)) (ne_eqb i v ne))

pub one_more : (h : FinMap nat_cmp ℕ) (v : ℕ) → hold_count (holds_after h (Hold v) Done) v ≡ hold_count h v + 1
one_more h v = count_insert h v (hold_count h v + 1)

pub more_other : (h : FinMap nat_cmp ℕ) (v i : ℕ) → i ≢ v → hold_count (holds_after h (Hold v) Done) i ≡ hold_count h i
more_other h v i ne = insert_other h v (hold_count h v + 1) i ne

-- what is held stays held where one volume more is
pub still_held : (h : FinMap nat_cmp ℕ) (v i : ℕ) → 0 < hold_count h i → 0 < hold_count (holds_after h (Hold v) Done) i
still_held h v i some = elim (cases_eq i v) [
  | inl e ↦
      let P : ℕ → Type 0 = λ j. 0 < hold_count (holds_after h (Hold v) Done) j in
      subst P (sym e) (omega (arith, one_more h v))
  | inr ne ↦ omega (arith, some, more_other h v i ne)
]

abbrev picked : FinMap nat_cmp ℕ → ℕ → Bool → FinMap nat_cmp ℕ
picked h v b = if b then remove h v else insert h v (hold_count h v - 1)

pub one_less : (h : FinMap nat_cmp ℕ) (v : ℕ) → hold_count (holds_after h (LetGo v) Done) v ≡ hold_count h v - 1
one_less h v = elim (cases_lt 1 (hold_count h v)) [
  | inl many ↦ ap (λ (b : Bool). hold_count (picked h v b) v) (lt-leb (hold_count h v) 1 many) ∙ count_insert h v (hold_count h v - 1)
  | inr few ↦
      let none : hold_count (holds_after h (LetGo v) Done) v ≡ 0 = ap (λ (b : Bool). hold_count (picked h v b) v) (le-leb (hold_count h v) 1 (omega (arith, few))) ∙ count_remove h v in
      omega (arith, none, few)
]

pub less_other : (h : FinMap nat_cmp ℕ) (v i : ℕ) → i ≢ v → hold_count (holds_after h (LetGo v) Done) i ≡ hold_count h i
less_other h v i ne = elim (cases_lt 1 (hold_count h v)) [
  | inl many ↦ ap (λ (b : Bool). hold_count (picked h v b) i) (lt-leb (hold_count h v) 1 many) ∙ insert_other h v (hold_count h v - 1) i ne
  | inr few ↦ ap (λ (b : Bool). hold_count (picked h v b) i) (le-leb (hold_count h v) 1 (omega (arith, few))) ∙ remove_other h v i ne
]

-- what is held where one volume less is, was held before
pub held_before : (h : FinMap nat_cmp ℕ) (v i : ℕ) → 0 < hold_count (holds_after h (LetGo v) Done) i → 0 < hold_count h i
held_before h v i some = elim (cases_eq i v) [
  | inl e ↦
      let same : hold_count (holds_after h (LetGo v) Done) i ≡ hold_count (holds_after h (LetGo v) Done) v = ap (hold_count (holds_after h (LetGo v) Done)) e in
      let here : hold_count h i ≡ hold_count h v = ap (hold_count h) e in
      omega (arith, some, same, here, one_less h v)
  | inr ne ↦ omega (arith, some, less_other h v i ne)
]

-- a volume that is held once more and then once less is held as before
pub held_again : (h : FinMap nat_cmp ℕ) (v i : ℕ) → hold_count (holds_after (holds_after h (Hold v) Done) (LetGo v) Done) i ≡ hold_count h i
held_again h v i = elim (cases_eq i v) [
  | inl e ↦
      let m = holds_after h (Hold v) Done in
      let same : hold_count (holds_after m (LetGo v) Done) i ≡ hold_count (holds_after m (LetGo v) Done) v = ap (hold_count (holds_after m (LetGo v) Done)) e in
      let here : hold_count h i ≡ hold_count h v = ap (hold_count h) e in
      omega (arith, same, here, one_less m v, one_more h v)
  | inr ne ↦ less_other (holds_after h (Hold v) Done) v i ne ∙ more_other h v i ne
]

-- ---- what is held, as a row of ids

pub held_more : (v : ℕ) (rows : List ℕ) (h : FinMap nat_cmp ℕ) → h ≡ counts_of rows → holds_after h (Hold v) Done ≡ counts_of (v ∷ rows)
unfolding counts_of
held_more v rows h is = ap (λ (m : FinMap nat_cmp ℕ). holds_after m (Hold v) Done) is

pub held_less : (v : ℕ) (rows : List ℕ) (h : FinMap nat_cmp ℕ) → h ≡ counts_of (v ∷ rows) → holds_after h (LetGo v) Done ≡ counts_of rows
held_less v rows h is = ap (λ (m : FinMap nat_cmp ℕ). released m v) is ∙ sym (counts_released (v ∷ rows) 0 v (omega arith) refl)

pub held_here : (v : ℕ) (rows : List ℕ) (h : FinMap nat_cmp ℕ) → h ≡ counts_of (v ∷ rows) → 0 < hold_count h v
held_here v rows h is =
    let same : hold_count h v ≡ times v (v ∷ rows) = ap (λ (m : FinMap nat_cmp ℕ). hold_count m v) is ∙ count_is (v ∷ rows) v in
    omega (arith, same, times_at (v ∷ rows) v 0 (omega arith) refl)

pub total_is : (rows : List ℕ) (h : FinMap nat_cmp ℕ) → h ≡ counts_of rows → hold_total h ≡ length rows
total_is rows h is = ap hold_total is ∙ count_total rows

-- an id in the midst of a row
pub to_front : (v : ℕ) (xs ys : List ℕ) → counts_of (xs ++ (v ∷ ys)) ≡ counts_of (v ∷ (xs ++ ys))
to_front v xs ys =
    same_times (xs ++ (v ∷ ys)) (v ∷ (xs ++ ys)) (λ q.
    let a = times-append q xs (v ∷ ys) in
    let b = times-append q xs ys in
    let c : times q (v ∷ ys) ≡ one_at q v + times q ys = refl in
    let d : times q (v ∷ (xs ++ ys)) ≡ one_at q v + times q (xs ++ ys) = refl in
    omega (arith, a, b, c, d))

-- an older volume is let go, where there is one, or held
pub older_gone : (b : Bool) (id : ℕ) (own others : List ℕ) (h h' : FinMap nat_cmp ℕ) → h ≡ counts_of (own ++ ((if b then id ∷ [] else []) ++ others)) → MatchBool b (h' ≡ holds_after h (LetGo id) Done) (h' ≡ h)
    → h' ≡ counts_of (own ++ others)
older_gone true id own others h h' is e = e ∙ held_less id (own ++ others) h (is ∙ to_front id own others)
older_gone false id own others h h' is e = e ∙ is

pub older_held : (b : Bool) (id : ℕ) (own others : List ℕ) (h h' : FinMap nat_cmp ℕ) → h ≡ counts_of (own ++ others) → MatchBool b (h' ≡ holds_after h (Hold id) Done) (h' ≡ h)
    → h' ≡ counts_of (own ++ ((if b then id ∷ [] else []) ++ others))
older_held true id own others h h' is e = e ∙ (held_more id (own ++ others) h is ∙ sym (to_front id own others))
older_held false id own others h h' is e = e ∙ is

-- an id at the front, where it is one
pub older_here : (b : Bool) (id : ℕ) (own others : List ℕ) (h : FinMap nat_cmp ℕ) → b ≡ true → h ≡ counts_of ((own ++ (if b then id ∷ [] else [])) ++ others) → 0 < hold_count h id
older_here true id own others h e is = held_here id (own ++ others) h (is ∙ ap counts_of (append_assoc own (id ∷ []) others) ∙ to_front id own others)
older_here false id own others h e is = absurd (true≢false (sym e))

pub few_older : (b : Bool) (id : ℕ) → length (if b then id ∷ [] else []) ≤ 1
few_older true id = omega arith
few_older false id = omega arith

-- who is held by others is held
pub beside_held : (own others : List ℕ) (h : FinMap nat_cmp ℕ) (i : ℕ) → h ≡ counts_of (own ++ others) → 0 < hold_count (counts_of others) i → 0 < hold_count h i
beside_held own others h i is some =
    let same : hold_count h i ≡ times i (own ++ others) = ap (λ (m : FinMap nat_cmp ℕ). hold_count m i) is ∙ count_is (own ++ others) i in
    omega (arith, same, times-append i own others, some, count_is others i)

-- a pool of which nothing is held has room for a session
pub none_beside : (h : FinMap nat_cmp ℕ) → h ≡ empty → HoldsBeside [] h
none_beside h none = record { others = []; few = omega arith; all = none ∙ sym counts_none }
