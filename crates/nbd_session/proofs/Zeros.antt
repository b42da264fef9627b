-- Bytes that are zero, found by the bits of many.
use Rattle.std.proofs.Common.{arith, bit_or, Bool, true, refl, ◌≡◌, ◌==◌, ◌&&◌, ◌<◌, ◌+◌, ℕ, zero, suc, false, List, length, drop, get_or, ap, sym, ◌∙◌}
use Rattle.std.specs.List.{list_all}
use Rattle.std.specs.Int.Bits.{or_zero_l}
use Rattle.std.proofs.lemmas.Nat.{le_or_l}
use Rattle.std.proofs.lemmas.List.{at_drop_more}

or_zero : (a b : ℕ) → (bit_or a b == 0) ≡ ((a == 0) && (b == 0))
or_zero zero b = ap (λ x. x == 0) (or_zero_l b)
or_zero (suc n) b = grind (arith, le_or_l (suc n) b)

and_assoc : (a b c : Bool) → (a && (b && c)) ≡ ((a && b) && c)
and_assoc true b c = refl
and_assoc false b c = refl

-- one byte more was seen
pub zero_step : (seen : ℕ) (bytes : List ℕ) (i : ℕ) → i < length bytes
    → ((seen == 0) && list_all (λ b. b == 0) (drop i bytes)) ≡ ((bit_or seen (get_or bytes i 0) == 0) && list_all (λ b. b == 0) (drop (i + 1) bytes))
zero_step seen bytes i lt =
    ap (λ x. (seen == 0) && x) (at_drop_more (λ l. list_all (λ b. b == 0) l) bytes i 0 lt)
    ∙ and_assoc (seen == 0) (get_or bytes i 0 == 0) (list_all (λ b. b == 0) (drop (i + 1) bytes))
    ∙ ap (λ x. x && list_all (λ b. b == 0) (drop (i + 1) bytes)) (sym (or_zero seen (get_or bytes i 0)))
