-- How many blocks are free.
use Rattle.std.proofs.Common.{◌≡◌, zero, suc, ℕ, ◌+◌, ◌<◌, ◌≤◌, ◌==◌, Bool, true, false, cond, ◌&&◌, List, get_or, set, refl, sym, ap, ◌∙◌, arith, inl, inr, get_or-set_other}
use Rattle.std.specs.List.{count_by, range_with_len}
use Rattle.std.proofs.lemmas.Bool.{and_parts, cases_eq, eq-eqb, eqb-true, false≢true, ne_eqb}
use Rattle.std.proofs.lemmas.List.Sums.{sum_by-cons}
use Rattle.tp_model.proofs.Counting.{count_changed}
use Rattle.tp_counts.specs.Counts.{free_in, is_free}

none_counted : (p : ℕ → Bool) (a n : ℕ) → ((k : ℕ) → a ≤ k → k < a + n → p k ≡ false) → count_by p (range_with_len a n) ≡ 0
none_counted p a zero h = refl
none_counted p a (suc n) h =
    let first : p a ≡ false = h a (omega arith) (omega arith) in
    let rest = none_counted p (a + 1) n (λ k l u. h k (omega arith) (omega arith)) in
    sum_by-cons (λ x. cond (p x) 1 0) a (range_with_len (a + 1) n) ∙ (λ i. cond (first i) 1 0 + rest i)

not_free : (x y : ℕ) → ((x ≡ 0) → (y ≡ 0) → ⊥) → (x == 0 && y == 0) ≡ false
not_free x y never =
    elim (cases_eq x 0) [
      | inl e ↦ let f : (y == 0) ≡ false = ne_eqb y 0 (λ z. never e z) in (λ i. e i == 0 && f i)
      | inr d ↦ ap (λ t. t && y == 0) (ne_eqb x 0 d)
    ]

-- where no block is free, none is counted
pub none_free : (n : ℕ) (now kept : List ℕ) → ((b : ℕ) → b < n → get_or now b 0 ≡ 0 → get_or kept b 0 ≡ 0 → ⊥) → free_in n now kept ≡ 0
none_free n now kept none = none_counted (is_free now kept) 0 n (λ k l u. not_free (get_or now k 0) (get_or kept k 0) (none k (omega arith)))

one_most : (t : Bool) → cond t 1 0 ≤ 1
one_most true = omega arith
one_most false = omega arith

-- a change of one count takes one free block at most
pub one_taken : (n : ℕ) (now kept : List ℕ) (b count : ℕ) → b < n → free_in n now kept ≤ free_in n (set now b count) kept + 1
one_taken n now kept b count inside =
    let moves = count_changed (is_free now kept) (is_free (set now b count) kept) b n inside (λ k h differ. ap (λ x. x == 0 && get_or kept k 0 == 0) (sym (get_or-set_other now b k count 0 differ))) in
    omega (arith, moves, one_most (is_free now kept b))

-- numbers that pass a test which is wider are no fewer
pub more_counted : (p q : ℕ → Bool) (a n : ℕ) → ((k : ℕ) → p k ≡ true → q k ≡ true) → count_by p (range_with_len a n) ≤ count_by q (range_with_len a n)
more_counted p q a zero h = omega arith
more_counted p q a (suc n) h =
    let rest = more_counted p q (a + 1) n h in
    omega (arith, sum_by-cons (λ x. cond (p x) 1 0) a (range_with_len (a + 1) n), sum_by-cons (λ x. cond (q x) 1 0) a (range_with_len (a + 1) n), at_most (p a) (q a) (h a))
  where
    at_most : (s t : Bool) → (s ≡ true → t ≡ true) → cond s 1 0 ≤ cond t 1 0
    at_most false t h = omega arith
    at_most true true h = omega arith
    at_most true false h = absurd (false≢true (h refl))

still_free : (x y z : ℕ) → (x ≡ 0 → y ≡ 0) → (x == 0 && z == 0) ≡ true → (y == 0 && z == 0) ≡ true
still_free x y z stays h =
    let parts = and_parts (x == 0) (z == 0) h in
    let first : (y == 0) ≡ true = eq-eqb y 0 (stays (eqb-true x 0 parts.0)) in
    (λ i. first i && parts.1 i)

-- where no count of 0 changes, no block is taken
pub none_taken : (n : ℕ) (before after kept : List ℕ) → ((b : ℕ) → get_or before b 0 ≡ 0 → get_or after b 0 ≡ 0) → free_in n before kept ≤ free_in n after kept
none_taken n before after kept stays = more_counted (is_free before kept) (is_free after kept) 0 n (λ k h. still_free (get_or before k 0) (get_or after k 0) (get_or kept k 0) (stays k) h)
