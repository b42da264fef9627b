-- What is kept beside the counts stays right.
use Rattle.std.proofs.Common.{◌≡◌, ◌⊎◌, zero, suc, ℕ, ◌+◌, ◌-◌, ◌<◌, ◌≤◌, ◌==◌, Bool, false, cond, not, ◌&&◌, List, length, get_or, set, refl, sym, ap, subst, ◌∙◌, arith, min, inl, inr, ⊎_elim}
use Rattle.std.specs.Prelude.{nat_lt}
use Rattle.std.specs.List.{range_with_len}
use Rattle.std.proofs.lemmas.List.{get_or-set_same, get_or-set_other, length-set}
use Rattle.std.proofs.lemmas.Bool.{ne_eqb, lt-ltb, cases_eq, cases_lt}
use Rattle.tp_model.proofs.Counting.{count_agree, count_changed, count_opposite}
use Rattle.tp_image.specs.Areas.{blocks_of}
use Rattle.tp_counts.specs.Counts.{Counts, free_in, is_free, is_used, used_in}
use Rattle.tp_counts.specs.Tallies.{AreTallied}

abbrev numbers : ℕ → List ℕ
numbers n = range_with_len 0 n

pub used_most : (n : ℕ) (now : List ℕ) → used_in n now ≤ n
used_most n now = omega (arith, count_opposite (is_used now) n)

pub free_most : (n : ℕ) (now kept : List ℕ) → free_in n now kept ≤ n
free_most n now kept = omega (arith, count_opposite (is_free now kept) n)

-- a block of the part that the fields are of
pub inside_view : {view value : Counts} {b : ℕ} → view ≡ value → b < blocks_of value.geometry value.part → b < blocks_of view.geometry view.part
inside_view {view} {value} {b} e inside = subst (λ (v : Counts). b < blocks_of v.geometry v.part) (sym e) inside

-- tests of one count

abbrev pub one : Bool → ℕ
one t = cond t 1 0

pub used_test : (x : ℕ) → 0 < x → one (nat_lt 0 x) ≡ 1
used_test x h = ap one (lt-ltb 0 x h)

pub unused_test : (x : ℕ) → x ≡ 0 → one (nat_lt 0 x) ≡ 0
unused_test x e = ap (λ (y : ℕ). one (nat_lt 0 y)) e

free_test : (x y : ℕ) → x ≡ 0 → y ≡ 0 → one (x == 0 && y == 0) ≡ 1
free_test x y e f = (λ i. one (e i == 0 && f i == 0))

named_test : (x y : ℕ) → 0 < x → one (x == 0 && y == 0) ≡ 0
named_test x y h = ap (λ t. one (t && y == 0)) (ne_eqb x 0 (λ e. omega arith))

kept_test : (x y : ℕ) → x ≡ 0 → 0 < y → one (x == 0 && y == 0) ≡ 0
kept_test x y e h = let f : (y == 0) ≡ false = ne_eqb y 0 (λ e. omega arith) in (λ i. one (e i == 0 && f i))

-- the count of one block changes
module _ (n : ℕ) (now kept : List ℕ) (b count used free no_free_below no_lost_below : ℕ) (t : AreTallied n now kept used free no_free_below no_lost_below) (inside : b < n) where
  abbrev then : List ℕ
  then = set now b count

  other : (k : ℕ) → (k ≡ b → ⊥) → get_or now k 0 ≡ get_or then k 0
  other k differ = sym (get_or-set_other now b k count 0 differ)

  here : get_or then b 0 ≡ count
  here = get_or-set_same now b count 0 (omega (arith, t.now_long, inside))

  used_moves : used + one (nat_lt 0 count) ≡ used_in n then + one (nat_lt 0 (get_or now b 0))
  used_moves = ap (λ u. u + one (nat_lt 0 count)) t.used_is ∙ ap (λ x. used_in n now + one (nat_lt 0 x)) (sym here)
      ∙ count_changed (is_used now) (is_used then) b n inside (λ k h differ. ap (nat_lt 0) (other k differ))

  free_moves : free + one (count == 0 && get_or kept b 0 == 0) ≡ free_in n then kept + one (get_or now b 0 == 0 && get_or kept b 0 == 0)
  free_moves = ap (λ f. f + one (count == 0 && get_or kept b 0 == 0)) t.free_is ∙ ap (λ x. free_in n now kept + one (x == 0 && get_or kept b 0 == 0)) (sym here)
      ∙ count_changed (is_free now kept) (is_free then kept) b n inside (λ k h differ. ap (λ x. x == 0 && get_or kept k 0 == 0) (other k differ))

  long : length then ≡ n
  long = length-set now b count ∙ t.now_long

  -- the block with the new count, and the others
  at : (k : ℕ) → (get_or then k 0 ≡ get_or now k 0) ⊎ ((k ≡ b) × (get_or then k 0 ≡ count) × (get_or kept k 0 ≡ get_or kept b 0))
  at k = ⊎_elim (λ e. inr (e, ap (λ j. get_or then j 0) e ∙ here, ap (λ j. get_or kept j 0) e)) (λ differ. inl (sym (other k differ))) (cases_eq k b)

  no_free_named : 0 < count → (k : ℕ) → k < no_free_below → 0 < get_or then k 0 + get_or kept k 0
  no_free_named named k low = ⊎_elim (λ e. omega (arith, t.no_free k low, e)) (λ w. omega (arith, w.1)) (at k)

  no_lost_named : 0 < count → (k : ℕ) → k < no_lost_below → 0 < get_or kept k 0 → 0 < get_or then k 0
  no_lost_named named k low is_kept = ⊎_elim (λ e. omega (arith, t.no_lost k low is_kept, e)) (λ w. omega (arith, w.1)) (at k)

  -- a named block
  pub stays_named : 0 < get_or now b 0 → 0 < count → AreTallied n then kept used free no_free_below no_lost_below
  stays_named was named = record {
    few = t.few;
    now_long = long;
    kept_long = t.kept_long;
    used_is = omega (arith, used_moves, used_test (get_or now b 0) was, used_test count named);
    free_is = omega (arith, free_moves, named_test (get_or now b 0) (get_or kept b 0) was, named_test count (get_or kept b 0) named);
    no_free = no_free_named named;
    no_lost = no_lost_named named;
  }

  -- a block that the last commit names is named again
  pub named_again : get_or now b 0 ≡ 0 → 0 < count → 0 < get_or kept b 0 → AreTallied n then kept (used + 1) free no_free_below no_lost_below
  named_again was named is_kept = record {
    few = t.few;
    now_long = long;
    kept_long = t.kept_long;
    used_is = omega (arith, used_moves, unused_test (get_or now b 0) was, used_test count named);
    free_is = omega (arith, free_moves, kept_test (get_or now b 0) (get_or kept b 0) was is_kept, named_test count (get_or kept b 0) named);
    no_free = no_free_named named;
    no_lost = no_lost_named named;
  }

  -- a free block is taken

  pub some_free : get_or now b 0 ≡ 0 → 0 < count → get_or kept b 0 ≡ 0 → 1 ≤ free
  some_free was named not_kept = omega (arith, free_moves, free_test (get_or now b 0) (get_or kept b 0) was not_kept, named_test count (get_or kept b 0) named)

  pub taken : get_or now b 0 ≡ 0 → 0 < count → get_or kept b 0 ≡ 0 → AreTallied n then kept (used + 1) (free - 1) no_free_below no_lost_below
  taken was named not_kept = record {
    few = t.few;
    now_long = long;
    kept_long = t.kept_long;
    used_is = omega (arith, used_moves, unused_test (get_or now b 0) was, used_test count named);
    free_is = omega (arith, free_moves, free_test (get_or now b 0) (get_or kept b 0) was not_kept, named_test count (get_or kept b 0) named);
    no_free = no_free_named named;
    no_lost = no_lost_named named;
  }

  -- a block is named no longer

  pub some_used : 0 < get_or now b 0 → count ≡ 0 → 1 ≤ used
  some_used was none = omega (arith, used_moves, used_test (get_or now b 0) was, unused_test count none)

  pub lost : 0 < get_or now b 0 → count ≡ 0 → 0 < get_or kept b 0 → AreTallied n then kept (used - 1) free no_free_below (min no_lost_below b)
  lost was none is_kept = record {
    few = t.few;
    now_long = long;
    kept_long = t.kept_long;
    used_is = omega (arith, used_moves, used_test (get_or now b 0) was, unused_test count none);
    free_is = omega (arith, free_moves, named_test (get_or now b 0) (get_or kept b 0) was, kept_test count (get_or kept b 0) none is_kept);
    no_free = λ k low. ⊎_elim (λ e. omega (arith, t.no_free k low, e)) (λ w. omega (arith, w.2)) (at k);
    no_lost = λ k low kept_there. ⊎_elim (λ e. omega (arith, t.no_lost k (omega arith) kept_there, e)) (λ w. absurd (omega (arith, w.0))) (at k);
  }

  pub freed : 0 < get_or now b 0 → count ≡ 0 → get_or kept b 0 ≡ 0 → AreTallied n then kept (used - 1) (free + 1) (min no_free_below b) no_lost_below
  freed was none not_kept = record {
    few = t.few;
    now_long = long;
    kept_long = t.kept_long;
    used_is = omega (arith, used_moves, used_test (get_or now b 0) was, unused_test count none);
    free_is = omega (arith, free_moves, named_test (get_or now b 0) (get_or kept b 0) was, free_test count (get_or kept b 0) none not_kept);
    no_free = λ k low. ⊎_elim (λ e. omega (arith, t.no_free k (omega arith), e)) (λ w. absurd (omega (arith, w.0))) (at k);
    no_lost = λ k low kept_there. ⊎_elim (λ e. omega (arith, t.no_lost k low kept_there, e)) (λ w. absurd (omega (arith, w.2))) (at k);
  }

-- both lists the same

free_or_used : (n : ℕ) (counts : List ℕ) → used_in n counts + free_in n counts counts ≡ n
free_or_used n counts =
    ap (λ f. used_in n counts + f) (count_agree (is_free counts counts) (λ k. not (is_used counts k)) n (λ k h. one_test (get_or counts k 0)))
    ∙ count_opposite (is_used counts) n
  where
    one_test : (x : ℕ) → (x == 0 && x == 0) ≡ not (nat_lt 0 x)
    one_test zero = refl
    one_test (suc x) =
        let zero_test : (suc x == 0) ≡ false = ne_eqb (suc x) 0 (λ e. omega arith) in
        ap (λ t. t && suc x == 0) zero_test ∙ sym (ap not (lt-ltb 0 (suc x) (omega arith)))

pub unchanged : (n : ℕ) (now kept : List ℕ) (used free no_free_below : ℕ) → n ≤ 1048576 → length now ≡ n → kept ≡ now → used ≡ used_in n now → free + used ≡ n
    → ((k : ℕ) → k < no_free_below → 0 < get_or now k 0) → AreTallied n now kept used free no_free_below n
unchanged n now kept used free no_free_below few long same used_is rest low =
    let free_same : free_in n now kept ≡ free_in n now now = ap (λ l. free_in n now l) same in
    record {
      few = few;
      now_long = long;
      kept_long = ap length same ∙ long;
      used_is = used_is;
      free_is = omega (arith, free_or_used n now, free_same);
      no_free = λ k h. omega (arith, low k h);
      no_lost = λ k h is_kept. omega (arith, ap (λ (l : List ℕ). get_or l k 0) same);
    }

pub keeps : (n : ℕ) (now kept new : List ℕ) (used free no_free_below no_lost_below : ℕ) → AreTallied n now kept used free no_free_below no_lost_below → new ≡ now
    → AreTallied n now new used (n - used) (min no_free_below no_lost_below) n
keeps n now kept new used free no_free_below no_lost_below t same =
    unchanged n now new used (n - used) (min no_free_below no_lost_below) t.few t.now_long same t.used_is (omega (arith, t.used_is, used_most n now))
    (λ k h. ⊎_elim (λ is_kept. t.no_lost k (omega arith) is_kept) (λ not_kept. omega (arith, t.no_free k (omega arith))) (cases_lt 0 (get_or kept k 0)))

-- the first block from the hint on
pub looked : (n : ℕ) (now kept : List ℕ) (used free no_free_below no_lost_below found : ℕ) → AreTallied n now kept used free no_free_below no_lost_below
    → ((k : ℕ) → no_free_below ≤ k → k < found → 0 < get_or now k 0 + get_or kept k 0) → AreTallied n now kept used free found no_lost_below
looked n now kept used free no_free_below no_lost_below found t least = record {
  few = t.few;
  now_long = t.now_long;
  kept_long = t.kept_long;
  used_is = t.used_is;
  free_is = t.free_is;
  no_free = λ k h. ⊎_elim (λ low. t.no_free k low) (λ high. least k high h) (cases_lt k no_free_below);
  no_lost = t.no_lost;
}
