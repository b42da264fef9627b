-- How many blocks of each run are free.
use Rattle.std.proofs.Common.{◌≡◌, ℕ, ◌+◌, ◌-◌, ◌*◌, ◌/◌, ◌<◌, ◌≤◌, ◌==◌, Bool, true, false, cond, ◌&&◌, List, length, get_or, set, replicate, refl, sym, ap, subst, ◌∙◌, arith, inl, inr, ⊎_elim}
use Rattle.std.specs.List.{count_by, range_with_len}
use Rattle.std.proofs.lemmas.Bool.{cases_eq, eq-eqb, ne_eqb, cases_lt}
use Rattle.std.proofs.lemmas.List.{get_or-set_same, get_or-set_other, length-set, length-replicate, get_or-replicate}
use Rattle.tp_model.proofs.Counting.{count_changed, count_more, count_opposite}
use Rattle.tp_counts.specs.Tallies.{AreRuns, is_free_in}

abbrev pub one : Bool → ℕ
one t = cond t 1 0

abbrev free_of : ℕ → List ℕ → List ℕ → ℕ → ℕ
free_of run now kept n = count_by (is_free_in run now kept) (range_with_len 0 n)

pub free_test : (x y : ℕ) → x ≡ 0 → y ≡ 0 → (x == 0 && y == 0) ≡ true
free_test x y e f = (λ i. e i == 0 && f i == 0)

pub not_free_test : (x y : ℕ) → 0 < x + y → (x == 0 && y == 0) ≡ false
not_free_test x y h =
    elim (cases_eq x 0) [
      | inl e ↦ let f : (y == 0) ≡ false = ne_eqb y 0 (λ z. omega (arith, z, e, h)) in (λ i. e i == 0 && f i)
      | inr d ↦ ap (λ t. t && y == 0) (ne_eqb x 0 d)
    ]

-- a block is counted in its own run alone
pub in_run : (run b : ℕ) (t : Bool) → b / 1024 ≡ run → one (b / 1024 == run && t) ≡ one t
in_run run b t e = ap (λ s. one (s && t)) (eq-eqb (b / 1024) run e)

pub in_other : (run b : ℕ) (t : Bool) → (b / 1024 ≡ run → ⊥) → one (b / 1024 == run && t) ≡ 0
in_other run b t d = ap (λ s. one (s && t)) (ne_eqb (b / 1024) run d)

pub free_of_most : (run n : ℕ) (now kept : List ℕ) → free_of run now kept n ≤ n
free_of_most run n now kept = omega (arith, count_opposite (is_free_in run now kept) n)

-- where one passes, the count is not zero
one_at : (p : ℕ → Bool) (b n : ℕ) → b < n → p b ≡ true → 0 < count_by p (range_with_len 0 n)
one_at p b n inside e =
    let other : (k : ℕ) → (k ≡ b → ⊥) → p k ≡ cond (k == b) false (p k) = λ k d. ap (λ t. cond t false (p k)) (sym (ne_eqb k b d)) in
    let here : one (cond (b == b) false (p b)) ≡ 0 = ap (λ t. one (cond t false (p b))) (eq-eqb b b refl) in
    let passes : one (p b) ≡ 1 = ap one e in
    omega (arith, count_changed p (λ k. cond (k == b) false (p k)) b n inside (λ k h d. other k d), here, passes)

-- no block of a run is free where none is counted
pub none_in_run : (n : ℕ) (now kept runs : List ℕ) → AreRuns n now kept runs → n ≤ 1048576 → (b : ℕ) → b < n → get_or runs (b / 1024) 0 ≡ 0
    → 0 < get_or now b 0 + get_or kept b 0
none_in_run n now kept runs r few b inside none =
    elim (cases_lt 0 (get_or now b 0 + get_or kept b 0)) [
      | inl more ↦ more
      | inr zeros ↦
          let free : (get_or now b 0 == 0 && get_or kept b 0 == 0) ≡ true = free_test (get_or now b 0) (get_or kept b 0) (omega (arith, zeros)) (omega (arith, zeros)) in
          let own : (b / 1024 == b / 1024) ≡ true = eq-eqb (b / 1024) (b / 1024) refl in
          let passes : is_free_in (b / 1024) now kept b ≡ true = (λ i. own i && free i) in
          absurd (omega (arith, one_at (is_free_in (b / 1024) now kept) b n inside passes, r.each (b / 1024) (omega arith), none))
    ]

-- the count of one block changes
module _ (n : ℕ) (now kept runs : List ℕ) (b count : ℕ) (r : AreRuns n now kept runs) (few : n ≤ 1048576) (long : length now ≡ n) (inside : b < n) where
  abbrev then : List ℕ
  then = set now b count

  abbrev was_free : Bool
  was_free = get_or now b 0 == 0 && get_or kept b 0 == 0

  abbrev is_free_then : Bool
  is_free_then = count == 0 && get_or kept b 0 == 0

  here : get_or then b 0 ≡ count
  here = get_or-set_same now b count 0 (omega (arith, long, inside))

  moves : (run : ℕ) → free_of run now kept n + one (b / 1024 == run && is_free_then) ≡ free_of run then kept n + one (b / 1024 == run && was_free)
  moves run =
      ap (λ x. free_of run now kept n + one (b / 1024 == run && (x == 0 && get_or kept b 0 == 0))) (sym here)
      ∙ count_changed (is_free_in run now kept) (is_free_in run then kept) b n inside
      (λ k h differ. ap (λ x. k / 1024 == run && (x == 0 && get_or kept k 0 == 0)) (sym (get_or-set_other now b k count 0 differ)))

  -- it was free and is, or neither
  pub runs_stay : was_free ≡ is_free_then → AreRuns n then kept runs
  runs_stay same = record {
    long = r.long;
    each = λ run low.
        let e : one (b / 1024 == run && was_free) ≡ one (b / 1024 == run && is_free_then) = ap (λ t. one (b / 1024 == run && t)) same in
        omega (arith, r.each run low, moves run, e);
  }

  module _ (new : ℕ) (differ : get_or runs (b / 1024) 0 + one is_free_then ≡ new + one was_free) where
    pub runs_change : AreRuns n then kept (set runs (b / 1024) new)
    runs_change = record {
      long = length-set runs (b / 1024) new ∙ r.long;
      each = λ run low. ⊎_elim
          (λ e.
          let at : get_or (set runs (b / 1024) new) run 0 ≡ new = ap (λ k. get_or (set runs (b / 1024) new) k 0) (sym e) ∙ get_or-set_same runs (b / 1024) new 0 (omega (arith, r.long, e, low)) in
          let old : get_or runs (b / 1024) 0 ≡ get_or runs run 0 = ap (λ k. get_or runs k 0) e in
          omega (arith, r.each run low, moves run, in_run run b was_free e, in_run run b is_free_then e, at, old, differ))
          (λ d.
          let at : get_or (set runs (b / 1024) new) run 0 ≡ get_or runs run 0 = get_or-set_other runs (b / 1024) run new 0 (λ e. d (sym e)) in
          omega (arith, r.each run low, moves run, in_other run b was_free d, in_other run b is_free_then d, at))
          (cases_eq (b / 1024) run);
    }

  -- a block that is not free, before and after
  pub runs_same : 0 < get_or now b 0 + get_or kept b 0 → 0 < count + get_or kept b 0 → AreRuns n then kept runs
  runs_same was is = runs_stay (not_free_test (get_or now b 0) (get_or kept b 0) was ∙ sym (not_free_test count (get_or kept b 0) is))

  -- a free block is taken

  pub some_in_run : get_or now b 0 ≡ 0 → get_or kept b 0 ≡ 0 → 1 ≤ get_or runs (b / 1024) 0
  some_in_run was not_kept =
      ⊎_elim (λ more. more) (λ none. absurd (omega (arith, none_in_run n now kept runs r few b inside (omega (arith, none)), was, not_kept))) (cases_lt 0 (get_or runs (b / 1024) 0))

  pub runs_taken : get_or now b 0 ≡ 0 → 0 < count → get_or kept b 0 ≡ 0 → AreRuns n then kept (set runs (b / 1024) (get_or runs (b / 1024) 0 - 1))
  runs_taken was named not_kept =
      let before : one was_free ≡ 1 = ap one (free_test (get_or now b 0) (get_or kept b 0) was not_kept) in
      let after : one is_free_then ≡ 0 = ap one (not_free_test count (get_or kept b 0) (omega arith)) in
      runs_change (get_or runs (b / 1024) 0 - 1) (omega (arith, before, after, some_in_run was not_kept))

  -- a block is named no longer, and free
  pub runs_freed : 0 < get_or now b 0 → count ≡ 0 → get_or kept b 0 ≡ 0 → AreRuns n then kept (set runs (b / 1024) (get_or runs (b / 1024) 0 + 1))
  runs_freed was none not_kept =
      let before : one was_free ≡ 0 = ap one (not_free_test (get_or now b 0) (get_or kept b 0) (omega arith)) in
      let after : one is_free_then ≡ 1 = ap one (free_test count (get_or kept b 0) none not_kept) in
      runs_change (get_or runs (b / 1024) 0 + 1) (omega (arith, before, after))

-- of no blocks
pub no_runs : (now kept : List ℕ) → AreRuns 0 now kept (replicate 1024 0)
no_runs now kept = record { long = length-replicate {A = ℕ} 1024 0; each = λ run low. get_or-replicate {A = ℕ} 1024 run 0 0 low }

-- at most all are free
pub run_most : (n : ℕ) (now kept runs : List ℕ) → AreRuns n now kept runs → (run : ℕ) → run < 1024 → get_or runs run 0 ≤ n
run_most n now kept runs r run low = omega (arith, r.each run low, free_of_most run n now kept)

-- one block more is counted
module _ (n : ℕ) (now runs : List ℕ) (r : AreRuns n now now runs) (few : n < 1048576) where
  pub runs_none_more : 0 < get_or now n 0 → AreRuns (n + 1) now now runs
  runs_none_more named = record {
    long = r.long;
    each = λ run low.
        let e : one (n / 1024 == run && (get_or now n 0 == 0 && get_or now n 0 == 0)) ≡ one (n / 1024 == run && false) = ap (λ t. one (n / 1024 == run && t)) (not_free_test (get_or now n 0) (get_or now n 0) (omega arith)) in
        let none : one (n / 1024 == run && false) ≡ 0 = ⊎_elim (in_run run n false) (in_other run n false) (cases_eq (n / 1024) run) in
        omega (arith, r.each run low, count_more (is_free_in run now now) n, e, none);
  }

  pub runs_one_more : get_or now n 0 ≡ 0 → AreRuns (n + 1) now now (set runs (n / 1024) (get_or runs (n / 1024) 0 + 1))
  runs_one_more free = record {
    long = length-set runs (n / 1024) (get_or runs (n / 1024) 0 + 1) ∙ r.long;
    each = λ run low.
        let t = get_or now n 0 == 0 && get_or now n 0 == 0 in
        let e : one (get_or now n 0 == 0 && get_or now n 0 == 0) ≡ 1 = ap one (free_test (get_or now n 0) (get_or now n 0) free free) in
        ⊎_elim
        (λ same.
        let at : get_or (set runs (n / 1024) (get_or runs (n / 1024) 0 + 1)) run 0 ≡ get_or runs (n / 1024) 0 + 1 =
        ap (λ k. get_or (set runs (n / 1024) (get_or runs (n / 1024) 0 + 1)) k 0) (sym same) ∙ get_or-set_same runs (n / 1024) (get_or runs (n / 1024) 0 + 1) 0 (omega (arith, r.long, same, low)) in
        let old : get_or runs (n / 1024) 0 ≡ get_or runs run 0 = ap (λ k. get_or runs k 0) same in
        omega (arith, r.each run low, count_more (is_free_in run now now) n, in_run run n t same, e, at, old))
        (λ d.
        let at : get_or (set runs (n / 1024) (get_or runs (n / 1024) 0 + 1)) run 0 ≡ get_or runs run 0 = get_or-set_other runs (n / 1024) run (get_or runs (n / 1024) 0 + 1) 0 (λ e. d (sym e)) in
        omega (arith, r.each run low, count_more (is_free_in run now now) n, in_other run n t d, at))
        (cases_eq (n / 1024) run);
  }

-- None of the blocks looked at is free, nor one that was skipped.
pub looked_on : (now kept : List ℕ) (from b next : ℕ)
    → ((k : ℕ) → from ≤ k → k < b → k < length now → 0 < get_or now k 0 + get_or kept k 0)
    → ((get_or now b 0 ≡ 0) × (get_or kept b 0 ≡ 0) → ⊥)
    → ((k : ℕ) → b < k → k < next → k < length now → 0 < get_or now k 0 + get_or kept k 0)
    → (k : ℕ) → from ≤ k → k < next → k < length now → 0 < get_or now k 0 + get_or kept k 0
looked_on now kept from b next before named skipped k low high inside =
    ⊎_elim (λ below. before k low below inside)
    (λ not_below. ⊎_elim
    (λ here. ⊎_elim (λ more. more)
    (λ zeros. absurd (named (omega (arith, zeros, ap (λ j. get_or now j 0) here), omega (arith, zeros, ap (λ j. get_or kept j 0) here))))
    (cases_lt 0 (get_or now k 0 + get_or kept k 0)))
    (λ other. skipped k (omega (arith, not_below, other)) high inside)
    (cases_eq k b))
    (cases_lt k b)

-- No block behind this one is free in its run, where none is counted.
pub none_behind : (now kept runs : List ℕ) → AreRuns (length now) now kept runs → length now ≤ 1048576 → (b : ℕ) → get_or runs (b / 1024) 0 ≡ 0
    → (k : ℕ) → b < k → k < (b / 1024 + 1) * 1024 → k < length now → 0 < get_or now k 0 + get_or kept k 0
none_behind now kept runs r few b none k above high inside =
    let run : k / 1024 ≡ b / 1024 = omega (arith, above, high) in
    none_in_run (length now) now kept runs r few k inside (ap (λ j. get_or runs j 0) run ∙ none)

-- the same counts under other names
pub runs_of_all : {n : ℕ} {counted now kept runs : List ℕ} → counted ≡ now → kept ≡ now → length now ≡ n → AreRuns (length counted) counted counted runs → AreRuns n now kept runs
runs_of_all {n} {counted} {now} {kept} {runs} e same long r =
    let first : AreRuns (length now) now now runs = subst (λ (l : List ℕ). AreRuns (length l) l l runs) e r in
    let second : AreRuns n now now runs = subst (λ (k : ℕ). AreRuns k now now runs) long first in
    subst (λ (l : List ℕ). AreRuns n now l runs) (sym same) second

pub runs_of_lent : {n : ℕ} {now kept lent lent_kept runs : List ℕ} → lent ≡ now → lent_kept ≡ kept → length now ≡ n → AreRuns n now kept runs → AreRuns (length lent) lent lent_kept runs
runs_of_lent {n} {now} {kept} {lent} {lent_kept} {runs} e f long r =
    let first : AreRuns (length now) now kept runs = subst (λ (k : ℕ). AreRuns k now kept runs) (sym long) r in
    let second : AreRuns (length now) now lent_kept runs = subst (λ (l : List ℕ). AreRuns (length now) now l runs) (sym f) first in
    subst (λ (l : List ℕ). AreRuns (length l) l lent_kept runs) (sym e) second

-- the same where the runs are lent too
pub runs_lent : {n : ℕ} {now kept runs lent lent_kept lent_runs : List ℕ} → lent ≡ now → lent_kept ≡ kept → lent_runs ≡ runs → length now ≡ n → AreRuns n now kept runs → AreRuns (length lent) lent lent_kept lent_runs
runs_lent {n} {now} {kept} {runs} {lent} {lent_kept} {lent_runs} e f r long h =
    subst (λ (l : List ℕ). AreRuns (length lent) lent lent_kept l) (sym r) (runs_of_lent e f long h)
