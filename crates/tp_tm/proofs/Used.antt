-- How many blocks are in use after counts changed.
use Rattle.std.proofs.Common.{◌≡◌, ℕ, zero, suc, ◌+◌, ◌<◌, ◌≤◌, Bool, true, false, cond, List, get_or, set, refl, sym, ap, arith, get_or-set_other}
use Rattle.std.specs.Prelude.{nat_lt}
use Rattle.std.proofs.lemmas.Bool.{lt-ltb, ltb-true}
use Rattle.tp_model.proofs.Counting.{count_changed}
use Rattle.tp_counts.specs.Counts.{is_used, used_in}
use Rattle.tp_counts.proofs.Free.{more_counted}

one_most : (t : Bool) → cond t 1 0 ≤ 1
one_most true = omega arith
one_most false = omega arith

-- a change of one count takes one block into use at most
pub one_used : (n : ℕ) (now : List ℕ) (b count : ℕ) → b < n → used_in n (set now b count) ≤ used_in n now + 1
one_used n now b count inside =
    let moves = count_changed (is_used now) (is_used (set now b count)) b n inside (λ k h differ. ap (nat_lt 0) (sym (get_or-set_other now b k count 0 differ))) in
    omega (arith, moves, one_most (is_used (set now b count) b))

still_used : (x y : ℕ) → (x ≡ 0 → y ≡ 0) → nat_lt 0 y ≡ true → nat_lt 0 x ≡ true
still_used zero y stays h = absurd (omega (arith, stays refl, ltb-true 0 y h))
still_used (suc x) y stays h = lt-ltb 0 (suc x) (omega arith)

-- where no count of 0 changes, no block comes into use
pub none_used : (n : ℕ) (before after : List ℕ) → ((b : ℕ) → get_or before b 0 ≡ 0 → get_or after b 0 ≡ 0) → used_in n after ≤ used_in n before
none_used n before after stays = more_counted (is_used after) (is_used before) 0 n (λ k h. still_used (get_or before k 0) (get_or after k 0) (stays k) h)
