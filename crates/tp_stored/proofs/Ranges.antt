-- How often a block stands in a range of blocks.
use Rattle.std.proofs.Common.{◌≡◌, ℕ, zero, suc, ◌+◌, ◌<◌, ◌≤◌, refl, arith, inl, inr}
use Rattle.std.specs.List.{range_with_len}
use Rattle.std.proofs.lemmas.Bool.{cases_eq}
use Rattle.tp_refs.specs.Balance.{occurrences}
use Rattle.tp_refs.proofs.Steps.{one_other, one_same}

pub in_none : (b a n : ℕ) → b < a → occurrences b (range_with_len a n) ≡ 0
in_none b a zero h = refl
in_none b a (suc n) h = omega (arith, one_other a b (λ e. absurd (omega (arith, e))), in_none b (a + 1) n (omega arith))

pub in_range : (b a n : ℕ) → a ≤ b → b < a + n → occurrences b (range_with_len a n) ≡ 1
in_range b a zero l h = absurd (omega arith)
in_range b a (suc n) l h =
    elim (cases_eq a b) [
      | inl e ↦ omega (arith, one_same a b e, in_none b (a + 1) n (omega (arith, e)))
      | inr d ↦ omega (arith, one_other a b d, in_range b (a + 1) n (omega (arith, d)) (omega arith))
    ]

pub behind : (b a n : ℕ) → a + n ≤ b → occurrences b (range_with_len a n) ≡ 0
behind b a zero h = refl
behind b a (suc n) h = omega (arith, one_other a b (λ e. absurd (omega (arith, e))), behind b (a + 1) n (omega arith))
