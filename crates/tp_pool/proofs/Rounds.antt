-- The blocks that a range of sectors touches, as it is written part after part.
use Rattle.std.proofs.Common.{◌≡◌, ◌⊎◌, inl, inr, ℕ, zero, suc, ◌+◌, ◌-◌, ◌*◌, ◌/◌, ◌%◌, ◌<◌, ◌≤◌, sym, ap, ◌∙◌, arith}
use Rattle.std.proofs.Math.Nat.{div-lt_iff_lt-mul, lt-div-mul-add, mod-lt}
use Rattle.std.proofs.lemmas.Nat.{div-add-mod', div-mul-add, mod-mul-add}
use Rattle.tp_model.specs.Geometry.{Geometry}
use Rattle.tp_shown.specs.Shown.{blocks_touched}
use Rattle.tp_pool.specs.Writing.{AreInBlocks}

-- a quotient below a bound
pub below : (s b n : ℕ) → 0 < n → s < b * n → s / n < b
below s b n pos lt = let w = div-lt_iff_lt-mul {k = n} {x = s} {y = b} pos in w.1 lt

-- a quotient, from where the number lies
quotient : (s b r n : ℕ) → r < n → s ≡ b * n + r → s / n ≡ b
quotient s b r n lt e = ap (λ k. k / n) e ∙ div-mul-add b n r lt

ascends : (s j n : ℕ) → 0 < n → s / n ≤ (s + j) / n
ascends s j n pos =
    let end : s + j < (s + j) / n * n + n = lt-div-mul-add {a = s + j} {b = n} pos in
    let more : ((s + j) / n + 1) * n ≡ (s + j) / n * n + n = omega arith in
    let lt = below s ((s + j) / n + 1) n pos (omega (arith, end, more)) in
    omega (arith, lt)

module _ (g : Geometry) (pos : 0 < g.block_sectors) where
  abbrev bs : ℕ
  bs = g.block_sectors

  parts : (s : ℕ) → s / bs * bs + s % bs ≡ s
  parts s = div-add-mod' s bs

  -- some sectors touch a block
  pub some_touched : (s n : ℕ) → 0 < n → 1 ≤ blocks_touched g s n
  some_touched s zero lt = absurd (omega (arith, lt))
  some_touched s (suc j) lt = let le = ascends s j bs pos in omega (arith, le)

  -- at most 2048 sectors touch 17 blocks at most
  pub few_touched : (s n : ℕ) → 128 ≤ bs → n ≤ 2048 → blocks_touched g s n ≤ 17
  few_touched s zero large few = omega arith
  few_touched s (suc j) large few =
      let rest : s % bs < bs = mod-lt s pos in
      let more : (s / bs + 17) * bs ≡ s / bs * bs + 17 * bs = omega arith in
      let lt = below (s + j) (s / bs + 17) bs pos (omega (arith, parts s, rest, more, large, few)) in
      omega (arith, lt)

  -- sectors that end with a block are followed by a later one
  pub behind : (s n : ℕ) → 0 < n → (s + n) % bs ≡ 0 → s / bs + 1 ≤ (s + n) / bs
  behind s n some e =
      let whole : (s + n) / bs * bs ≡ s + n = omega (arith, parts (s + n), e) in
      let lt = below s ((s + n) / bs) bs pos (omega (arith, whole, some)) in
      omega (arith, lt)

  pub ends_at : (s n k : ℕ) → s % bs + n ≡ k * bs → (s + n) % bs ≡ 0
  ends_at s n k e =
      let more : (s / bs + k) * bs ≡ s / bs * bs + k * bs = omega arith in
      let is : s + n ≡ (s / bs + k) * bs + 0 = omega (arith, parts s, more, e) in
      ap (λ x. x % bs) is ∙ mod-mul-add (s / bs + k) bs 0 pos

  -- the blocks of a range, and those of its end
  pub touched_apart : (s n m : ℕ) → 0 < m → blocks_touched g s (n + m) ≡ blocks_touched g (s + n) m + ((s + n) / bs - s / bs)
  touched_apart s n zero lt = absurd (omega (arith, lt))
  touched_apart s n (suc j) lt =
      let up = ascends s n bs pos in
      let le = ascends (s + n) j bs pos in
      let last : (s + n + j) / bs ≡ (s + (n + j)) / bs = let same : s + n + j ≡ s + (n + j) = omega arith in ap (λ k. k / bs) same in
      let long : n + suc j ≡ suc (n + j) = omega arith in
      let sums : suc ((s + (n + j)) / bs) - s / bs ≡ suc ((s + n + j) / bs) - (s + n) / bs + ((s + n) / bs - s / bs) = omega (arith, up, le, last) in
      ap (blocks_touched g s) long ∙ sums

  last_of_part : (t j : ℕ) → t % bs + suc j ≤ bs → (t + j) / bs ≡ t / bs
  last_of_part t j fits = quotient (t + j) (t / bs) (t % bs + j) bs (omega (arith, fits)) (omega (arith, parts t))

  before_start : (t : ℕ) → (t + 1) % bs ≡ 0 → (t + 1) / bs ≡ t / bs + 1
  before_start t e =
      let k = (t + 1) / bs in
      let whole : k * bs ≡ t + 1 = omega (arith, parts (t + 1), e) in
      one k whole
    where
      one : (k : ℕ) → k * bs ≡ t + 1 → k ≡ t / bs + 1
      one zero whole = absurd (omega (arith, whole))
      one (suc i) whole =
          let more : suc i * bs ≡ i * bs + bs = omega arith in
          let small : bs - 1 < bs = omega (arith, pos) in
          let is : t / bs ≡ i = quotient t i (bs - 1) bs small (omega (arith, whole, more, pos)) in
          omega (arith, is)

  -- sectors of one block touch that alone
  pub touched_one : (s n : ℕ) → 0 < n → s % bs + n ≤ bs → blocks_touched g s n ≡ 1
  touched_one s zero lt fits = absurd (omega (arith, lt))
  touched_one s (suc j) lt fits = let last = last_of_part s j fits in omega (arith, last)

  -- those of some blocks touch no others
  pub touched_few : (s n k : ℕ) → 0 < n → s % bs + n ≤ k * bs → blocks_touched g s n ≤ k
  touched_few s zero k lt fits = absurd (omega (arith, lt))
  touched_few s (suc j) k lt fits =
      let more : (s / bs + k) * bs ≡ s / bs * bs + k * bs = omega arith in
      let last = below (s + j) (s / bs + k) bs pos (omega (arith, parts s, more, fits)) in
      omega (arith, last)

  -- sectors up to the start of a block touch those before it
  pub touched_to : (s n : ℕ) → 0 < n → (s + n) % bs ≡ 0 → blocks_touched g s n ≡ (s + n) / bs - s / bs
  touched_to s zero lt e = absurd (omega (arith, lt))
  touched_to s (suc j) lt e =
      let t : s + suc j ≡ s + j + 1 = omega arith in
      let b : (s + suc j) / bs ≡ (s + j) / bs + 1 = ap (λ k. k / bs) t ∙ before_start (s + j) (sym (ap (λ k. k % bs) t) ∙ e) in
      omega (arith, b)

  -- whole blocks are as many as they touch
  pub touched_whole : (s n : ℕ) → 0 < n → s % bs ≡ 0 → n % bs ≡ 0 → blocks_touched g s n ≡ n / bs
  touched_whole s n lt starts ends =
      let more : (s / bs + n / bs) * bs ≡ s / bs * bs + n / bs * bs = omega arith in
      let is : s + n ≡ (s / bs + n / bs) * bs + 0 = omega (arith, parts s, parts n, starts, ends, more) in
      let whole : (s + n) % bs ≡ 0 = ap (λ k. k % bs) is ∙ mod-mul-add (s / bs + n / bs) bs 0 pos in
      let end : (s + n) / bs ≡ s / bs + n / bs = quotient (s + n) (s / bs + n / bs) 0 bs pos is in
      let to = touched_to s n lt whole in
      omega (arith, to, end)

  -- a part from the start of a range on, or from the start of a block on, touches blocks of its own
  pub touched_sum : (s done n : ℕ) → ((done ≡ 0) ⊎ ((s + done) % bs ≡ 0)) → 0 < n → blocks_touched g s (done + n) ≡ blocks_touched g s done + blocks_touched g (s + done) n
  touched_sum s zero n starts lt =
      let z : s + zero ≡ s = omega arith in
      let all : zero + n ≡ n = omega arith in
      let same : blocks_touched g (s + zero) n ≡ blocks_touched g s n = ap (λ k. blocks_touched g k n) z in
      ap (blocks_touched g s) all ∙ omega (arith, same)
  touched_sum s (suc i) n (inl none) lt = absurd (omega (arith, none))
  touched_sum s (suc i) n (inr start) lt =
      let apart = touched_apart s (suc i) n lt in
      let front = touched_to s (suc i) (omega arith) start in
      omega (arith, apart, front)

  -- a part of one block, or of whole ones, of which there are enough
  pub in_blocks : (s n k left : ℕ) → s % bs + n ≤ k * bs → (n ≡ left) ⊎ (s % bs + n ≡ k * bs) → (k ≡ 1) ⊎ ((s % bs ≡ 0) × (k * bs ≤ left)) → AreInBlocks g s n
  in_blocks s n k left fits ends (inl one) = let all : k * bs ≡ 1 * bs = ap (λ m. m * bs) one in inl (omega (arith, fits, all))
  in_blocks s n k left fits ends (inr w) =
      let is : n ≡ k * bs + 0 = elim ends [ inl all ↦ omega (arith, all, w.0, w.1, fits) | inr e ↦ omega (arith, e, w.0) ] in
      inr (w.0, ap (λ m. m % bs) is ∙ mod-mul-add k bs 0 pos)
