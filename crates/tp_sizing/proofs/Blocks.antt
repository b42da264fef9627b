-- Which blocks are enough.
use Rattle.std.proofs.Common.{◌≡◌, ℕ, ◌+◌, ◌*◌, ◌%◌, ◌-◌, ◌≤◌, ◌<◌, ⊎_elim, arith, subst}
use Rattle.std.proofs.Math.Nat.{add-mul, mul-le-mul_right}
use Rattle.std.proofs.lemmas.Bool.{cases_lt}
use Rattle.tp_sizing.specs.declared.wanted.Wanted.{Wanted}
use Rattle.tp_sizing.specs.Numbers.{AreBlocks}
use Rattle.tp_sizing.specs.Sizing.{AreEnough, IsAllowed, IsBlockSize, IsInRange, Suits}

pub least_size : (n : ℕ) → IsBlockSize n → 128 ≤ n
least_size n is = grind arith

pub most_size : (n : ℕ) → IsBlockSize n → n ≤ 2048
most_size n is = grind arith

pub step_of : (n : ℕ) → IsBlockSize n → n % 128 ≡ 0
step_of n is = grind arith

-- A block of twice the size is nearer to the largest one.
pub smaller : (s : ℕ) → IsBlockSize s → IsBlockSize (s * 2) → 2048 - s * 2 < 2048 - s
smaller s is more = let low = least_size s is in let high = most_size (s * 2) more in omega (arith, low, high)

enough_more : (w : Wanted) (n m : ℕ) → n ≤ m → AreEnough w n → AreEnough w m
enough_more w n m le enough = (omega (arith, le, enough.0), omega (arith, le, enough.1))

-- What some block is enough for the largest is enough for.
pub enough_largest : (w : Wanted) (low high s : ℕ) → AreBlocks w low high → s ≡ high → IsInRange w → AreEnough w s
enough_largest w low high s blocks is (size, volume, volumes, (n, allowed, enough)) = enough_more w n s (let le = blocks.most n allowed in omega (arith, le, is)) enough

-- Where the largest does not suit, and no smaller one does, none suits.
pub none_suits : (w : Wanted) (low high s : ℕ) → AreBlocks w low high → s ≡ high → ((n : ℕ) → IsAllowed w n → Suits w n → s ≤ n) → (Suits w s → ⊥) → (n : ℕ) → IsAllowed w n → Suits w n → ⊥
none_suits w low high s blocks is least not n allowed suits =
    let le = blocks.most n allowed in
    let ge = least n allowed suits in
    let same : n ≡ s = omega (arith, le, ge, is) in
    not (subst (λ (m : ℕ). Suits w m) same suits)

-- Of a larger size there are twice as many sectors at least.
pub next_size : (s n : ℕ) → IsBlockSize s → IsBlockSize n → s ≤ n → (n ≡ s → ⊥) → s * 2 ≤ n
next_size s n is also le other = grind arith

-- Blocks are no more than so many where these hold the bytes, for one block less does not.
pub few_blocks : (blocks most unit bytes : ℕ) → blocks * unit < bytes + unit → bytes ≤ most * unit → blocks ≤ most
few_blocks blocks most unit bytes least enough =
    ⊎_elim
    (λ (lt : most < blocks).
    let more : (most + 1) * unit ≤ blocks * unit = mul-le-mul_right {m = most + 1} {n = blocks} unit (omega arith) in
    let one : (most + 1) * unit ≡ most * unit + 1 * unit = add-mul most 1 unit in
    absurd (omega arith))
    (λ (le : blocks ≤ most). le)
    (cases_lt most blocks)

pub enough_blocks : (blocks most unit bytes : ℕ) → bytes ≤ blocks * unit → blocks ≤ most → bytes ≤ most * unit
enough_blocks blocks most unit bytes held few =
    let more : blocks * unit ≤ most * unit = mul-le-mul_right {m = blocks} {n = most} unit few in
    omega arith

pub some_blocks : (blocks unit bytes : ℕ) → 0 < bytes → bytes ≤ blocks * unit → 1 ≤ blocks
some_blocks blocks unit bytes some held =
    ⊎_elim
    (λ (lt : blocks < 1). let none : blocks * unit ≤ 0 * unit = mul-le-mul_right {m = blocks} {n = 0} unit (omega arith) in absurd (omega arith))
    (λ (le : 1 ≤ blocks). le)
    (cases_lt blocks 1)
