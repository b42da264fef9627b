-- Sums over the blocks, and how often a block stands in a list.
use Rattle.std.proofs.Common.{◌≡◌, ◌≢◌, ℕ, zero, suc, ◌+◌, ◌*◌, ◌<◌, ◌≤◌, refl, ap, arith, inl, inr}
use Rattle.std.proofs.lemmas.Bool.{cases_lt, cases_eq}
use Rattle.tp_refs.specs.Balance.{sum_below}

-- sums of equal terms are equal
pub sum_same : (f g : ℕ → ℕ) (n : ℕ) → ((i : ℕ) → i < n → f i ≡ g i) → sum_below f n ≡ sum_below g n
unfolding sum_below
sum_same f g zero h = refl
sum_same f g (suc n) h = let a : sum_below f n ≡ sum_below g n = sum_same f g n (λ i l. h i (omega arith)) in let e : f n ≡ g n = h n (omega arith) in omega arith

-- a sum of which one term changes
pub sum_swap : (f g : ℕ → ℕ) (n j : ℕ) → j < n → ((i : ℕ) → i ≢ j → f i ≡ g i) → sum_below f n + g j ≡ sum_below g n + f j
unfolding sum_below
sum_swap f g zero j l h = absurd (omega arith)
sum_swap f g (suc n) j l h =
    elim (cases_eq n j) [
      | inl e ↦
          let a : sum_below f n ≡ sum_below g n = sum_same f g n (λ i k. h i (omega (arith, e))) in
          let f1 : f n ≡ f j = ap f e in
          let g1 : g n ≡ g j = ap g e in
          omega arith
      | inr d ↦
          let a : sum_below f n + g j ≡ sum_below g n + f j = sum_swap f g n j (omega (arith, d)) h in
          let e : f n ≡ g n = h n d in
          omega arith
    ]

-- a term is at most the sum
pub term_le : (f : ℕ → ℕ) (n i : ℕ) → i < n → f i ≤ sum_below f n
unfolding sum_below
term_le f zero i l = absurd (omega arith)
term_le f (suc n) i l =
    elim (cases_eq i n) [
      | inl e ↦ let a : f i ≡ f n = ap f e in omega arith
      | inr d ↦ let a : f i ≤ sum_below f n = term_le f n i (omega (arith, d)) in omega arith
    ]

-- a sum over 0 has a term over 0
pub some_term : (f : ℕ → ℕ) (n : ℕ) → 0 < sum_below f n → (i : ℕ) × ((i < n) × (0 < f i))
unfolding sum_below
some_term f zero h = absurd (omega arith)
some_term f (suc n) h =
    elim (cases_lt 0 (f n)) [
      | inl p ↦ (n, (omega arith, p))
      | inr z ↦ let r = some_term f n (omega arith) in (r.0, (omega (arith, r.1.0), r.1.1))
    ]

-- a sum of terms up to m is at most m for each
pub sum_le : (f : ℕ → ℕ) (n m : ℕ) → ((i : ℕ) → f i ≤ m) → sum_below f n ≤ m * n
unfolding sum_below
sum_le f zero m h = omega arith
sum_le f (suc n) m h = let a : sum_below f n ≤ m * n = sum_le f n m h in let b : f n ≤ m = h n in grind arith

-- where each term but one is at least as great, a sum falls by at most that one
pub sum_above : (f g : ℕ → ℕ) (n : ℕ) → ((i : ℕ) → f i ≤ g i) → sum_below f n ≤ sum_below g n
unfolding sum_below
sum_above f g zero h = omega arith
sum_above f g (suc n) h = omega (arith, sum_above f g n h, h n)
