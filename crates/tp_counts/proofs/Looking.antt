-- What one look at sixteen counts of both lists tells.
use Rattle.std.proofs.Common.{◌≡◌, ℕ, ◌+◌, ◌-◌, ◌%◌, ◌^◌, ◌<◌, ◌≤◌, eqb, Bool, cond, not, List, map, length, get_or, replicate, bit_or, w32, sym, ap, ap₂, ◌∙◌, arith, inl, inr}
use Rattle.std.proofs.lemmas.Bool.{cases_lt, eq-eqb, eqb-true, false≢true, not-true, not-false}
use Rattle.std.proofs.lemmas.Nat.{le_or_l, le_or_r}
use Rattle.std.proofs.lemmas.Simd.{bitmask_splat, first_set_mask_l, length-chunk, get_or-chunk, length-zip2, get_or-zip2}
use Rattle.std.proofs.lemmas.List.Sums.{prefix_len-le-length, prefix_len_passes, prefix_len_stops}
use Rattle.std.specs.Int.Bits.{or_zero_l}
use Rattle.std.specs.Int.{trailing_zeros, w64}
use Rattle.std.specs.List.{prefix_len}
use lib.Lanes.{chunk, zip2, mask_l, top}

abbrev first_set : ℕ → ℕ
first_set mask = cond (eqb mask 0) 16 (trailing_zeros w64 mask)

module _ (now kept : List ℕ) (from r : ℕ) (room : from + 16 ≤ length now) (same : length kept ≡ length now)
    (found : r ≡ first_set (mask_l (map (top 31) (zip2 (λ a b. cond (eqb a b) (2 ^ 32 - 1) 0) (zip2 bit_or (chunk from 16 now) (chunk from 16 kept)) (replicate 16 0))) % 2 ^ 64)) where
  abbrev either : List ℕ
  either = zip2 bit_or (chunk from 16 now) (chunk from 16 kept)

  abbrev is_used : ℕ → Bool
  is_used x = not (eqb x 0)

  now_long : length (chunk from 16 now) ≡ 16
  now_long = length-chunk from 16 now room

  kept_long : length (chunk from 16 kept) ≡ 16
  kept_long = length-chunk from 16 kept (omega (arith, room, same))

  long : length either ≡ 16
  long = length-zip2 bit_or (chunk from 16 now) (chunk from 16 kept) (now_long ∙ sym kept_long) ∙ now_long

  at : (k : ℕ) → k < 16 → get_or either k 0 ≡ bit_or (get_or now (from + k) 0) (get_or kept (from + k) 0)
  at k low =
      get_or-zip2 bit_or (chunk from 16 now) (chunk from 16 kept) k 0 0 0 (omega (arith, now_long, low)) (omega (arith, kept_long, low))
      ∙ ap₂ bit_or (get_or-chunk from 16 now k 0 low) (get_or-chunk from 16 kept k 0 low)

  counted : r ≡ prefix_len is_used either
  counted = found ∙ ap first_set (bitmask_splat w32 eqb either 16 0 long (omega arith)) ∙ first_set_mask_l (λ x. eqb x 0) either 16 long (omega arith)

  pub most : r ≤ 16
  most = omega (arith, counted, long, prefix_len-le-length is_used either)

  pub used : (b : ℕ) → from ≤ b → b < from + r → 0 < get_or now b 0 + get_or kept b 0
  used b low high =
      let k = b - from in
      let back : from + k ≡ b = omega (arith, low) in
      let passes = prefix_len_passes is_used either k 0 (omega (arith, counted, low, high)) in
      let here = at k (omega (arith, most, low, high)) ∙ ap (λ j. bit_or (get_or now j 0) (get_or kept j 0)) back in
      elim (cases_lt 0 (get_or now b 0 + get_or kept b 0)) [
        | inl more ↦ more
        | inr zeros ↦
            let none : get_or now b 0 ≡ 0 = omega (arith, zeros) in
            let no_more : get_or kept b 0 ≡ 0 = omega (arith, zeros) in
            let is : get_or either k 0 ≡ 0 = here ∙ ap₂ bit_or none no_more ∙ or_zero_l 0 in
            absurd (false≢true (sym (not-true _ passes) ∙ eq-eqb (get_or either k 0) 0 is))
      ]

  pub free : r < 16 → (get_or now (from + r) 0 ≡ 0) × (get_or kept (from + r) 0 ≡ 0)
  free short =
      let stops = prefix_len_stops is_used either 0 (omega (arith, counted, long, short)) in
      let none : get_or either (prefix_len is_used either) 0 ≡ 0 = eqb-true _ 0 (not-false _ stops) in
      let zero : bit_or (get_or now (from + r) 0) (get_or kept (from + r) 0) ≡ 0 = sym (at r short) ∙ ap (λ k. get_or either k 0) counted ∙ none in (
        omega (arith, zero, le_or_l (get_or now (from + r) 0) (get_or kept (from + r) 0)),
        omega (arith, zero, le_or_r (get_or now (from + r) 0) (get_or kept (from + r) 0)),
      )
