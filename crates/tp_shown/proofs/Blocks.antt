-- The blocks that a range of sectors touches.
use Rattle.std.proofs.Common.{◌≡◌, ℕ, zero, suc, ◌+◌, ◌*◌, ◌/◌, ◌%◌, ◌<◌, ◌≤◌, ◌&&◌, Bool, true, false, refl, sym, ap, ◌∙◌, arith}
use Rattle.std.specs.Prelude.{nat_lt}
use Rattle.std.proofs.Math.Nat.{div-lt_iff_lt-mul, div-mul-le_self, lt-div-mul-add, mod-lt, mul-le-mul_right}
use Rattle.std.proofs.lemmas.Bool.{and_from, false≢true, le-ltb, lt-ltb}
use Rattle.std.proofs.lemmas.Nat.{div-add-mod', div-mul-add}
use Rattle.tp_model.specs.Geometry.{Geometry}
use Rattle.tp_model.specs.Calls.{touches}
use Rattle.tp_model.proofs.Steps.{not_touched_past}
use Rattle.tp_shown.specs.Shown.{blocks_touched}

pub quotients_ascend : (k m n : ℕ) → 0 < k → m ≤ n → m / k ≤ n / k
quotients_ascend k m n pos le =
    let end : n < n / k * k + k = lt-div-mul-add {a = n} {b = k} pos in
    let more : (n / k + 1) * k ≡ n / k * k + k = omega arith in
    let w = div-lt_iff_lt-mul {k = k} {x = m} {y = n / k + 1} pos in
    let lt : m / k < n / k + 1 = w.1 (omega (arith, le, end, more)) in
    omega (arith, lt)

-- a range touches the blocks from its first one on, as many as it is told to touch
pub touched_inside : (g : Geometry) (sector n block : ℕ) → 0 < g.block_sectors → sector / g.block_sectors ≤ block → block < sector / g.block_sectors + blocks_touched g sector n → touches g sector n block ≡ true
touched_inside g sector zero block pos low high = absurd (omega (arith, low, high))
touched_inside g sector (suc n) block pos low high =
    let bs = g.block_sectors in
    let first : sector / bs * bs + sector % bs ≡ sector = div-add-mod' sector bs in
    let rest : sector % bs < bs = mod-lt sector pos in
    let ascend = quotients_ascend bs sector (sector + n) pos (omega arith) in
    let last : (sector + n) / bs * bs ≤ sector + n = div-mul-le_self (sector + n) bs in
    let a : (sector / bs + 1) * bs ≤ (block + 1) * bs = mul-le-mul_right bs (omega (arith, low)) in
    let b : block * bs ≤ (sector + n) / bs * bs = mul-le-mul_right bs (omega (arith, ascend, high)) in
    let more : (sector / bs + 1) * bs ≡ sector / bs * bs + bs = omega arith in
    and_from (nat_lt 0 (suc n) && nat_lt sector ((block + 1) * bs)) (nat_lt (block * bs) (sector + suc n))
    (and_from (nat_lt 0 (suc n)) (nat_lt sector ((block + 1) * bs)) (lt-ltb 0 (suc n) (omega arith)) (lt-ltb sector ((block + 1) * bs) (omega (arith, first, rest, a, more))))
    (lt-ltb (block * bs) (sector + suc n) (omega (arith, last, b)))

pub not_touched_before : (g : Geometry) (sector n block : ℕ) → block < sector / g.block_sectors → touches g sector n block ≡ false
not_touched_before g sector n block lt =
    let bs = g.block_sectors in
    let first : sector / bs * bs ≤ sector = div-mul-le_self sector bs in
    let a : (block + 1) * bs ≤ sector / bs * bs = mul-le-mul_right bs (omega (arith, lt)) in
    middle_false (nat_lt 0 n) (nat_lt sector ((block + 1) * bs)) (nat_lt (block * bs) (sector + n)) (le-ltb sector ((block + 1) * bs) (omega (arith, first, a)))
  where
    middle_false : (x y z : Bool) → y ≡ false → ((x && y) && z) ≡ false
    middle_false true true z e = absurd (false≢true (sym e))
    middle_false true false z e = refl
    middle_false false y z e = refl

pub not_touched_behind : (g : Geometry) (sector n block : ℕ) → 0 < g.block_sectors → sector / g.block_sectors + blocks_touched g sector n ≤ block → touches g sector n block ≡ false
not_touched_behind g sector zero block pos high = refl
not_touched_behind g sector (suc n) block pos high =
    let bs = g.block_sectors in
    let ascend = quotients_ascend bs sector (sector + n) pos (omega arith) in
    let last : sector + n < (sector + n) / bs * bs + bs = lt-div-mul-add {a = sector + n} {b = bs} pos in
    let a : ((sector + n) / bs + 1) * bs ≤ block * bs = mul-le-mul_right bs (omega (arith, ascend, high)) in
    let more : ((sector + n) / bs + 1) * bs ≡ (sector + n) / bs * bs + bs = omega arith in
    not_touched_past g sector (suc n) block (omega (arith, last, a, more))

-- a range of some sectors touches the block of its first one
pub first_is_touched : (g : Geometry) (sector n : ℕ) → 0 < g.block_sectors → 0 < n → touches g sector n (sector / g.block_sectors) ≡ true
first_is_touched g sector zero pos lt = absurd (omega (arith, lt))
first_is_touched g sector (suc n) pos lt =
    let ascend = quotients_ascend g.block_sectors sector (sector + n) pos (omega arith) in
    touched_inside g sector (suc n) (sector / g.block_sectors) pos (omega arith) (omega (arith, ascend))

pub whole_blocks : (g : Geometry) (blocks : ℕ) → 0 < g.block_sectors → blocks * g.block_sectors / g.block_sectors ≡ blocks
whole_blocks g blocks pos =
    let e : blocks * g.block_sectors ≡ blocks * g.block_sectors + 0 = omega arith in
    ap (λ m. m / g.block_sectors) e ∙ div-mul-add blocks g.block_sectors 0 pos

-- the blocks of a range in a volume are blocks of it
pub touched_fit : (g : Geometry) (blocks sector n : ℕ) → 0 < g.block_sectors → sector + n ≤ blocks * g.block_sectors → sector / g.block_sectors + blocks_touched g sector n ≤ blocks
touched_fit g blocks sector zero pos h =
    let w = quotients_ascend g.block_sectors sector (blocks * g.block_sectors) pos (omega (arith, h)) in
    omega (arith, w, whole_blocks g blocks pos)
touched_fit g blocks sector (suc n) pos h =
    let w = div-lt_iff_lt-mul {k = g.block_sectors} {x = sector + n} {y = blocks} pos in
    let below = w.1 (omega (arith, h)) in
    let le = quotients_ascend g.block_sectors sector (sector + n) pos (omega arith) in
    omega (arith, below, le)
