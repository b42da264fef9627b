-- What is wanted has one answer.
use Rattle.std.proofs.Common.{◌≡◌, ℕ, ◌+◌, ◌≤◌, ◌<◌, ⊎_elim, Result, Ok, Err, ap, arith, refl, subst, sym, ◌∙◌}
use Rattle.std.proofs.lemmas.Bool.{cases_lt}
use Rattle.tp_model.specs.Geometry.{Geometry, IsWithinLimits}
use Rattle.tp_sizing.specs.declared.wanted.Wanted.{Wanted}
use Rattle.tp_sizing.specs.declared.wanted.Unfit.{Unfit}
use Rattle.tp_sizing.specs.declared.wanted.Unfit.TheVariants.{OutOfRange, TooMany}
use Rattle.tp_sizing.specs.Sizing.{FitAtMost, HaveRoom, IsAnswer, IsSizedFor, with_metadata}
use Rattle.tp_sizing.proofs.Fitting.{fewer, one_pool}

-- the same blocks are the smallest
one_block : (w : Wanted) (g h : Geometry) → IsSizedFor w g → IsSizedFor w h → g.block_sectors ≡ h.block_sectors
one_block w g h one two =
    let low = one.block.least h.block_sectors two.block.allowed two.block.suits in
    let high = two.block.least g.block_sectors one.block.allowed one.block.suits in
    omega (arith, low, high)

-- The sizes without the metadata are the same.
moved : (w : Wanted) (g h : Geometry) → IsSizedFor w g → IsSizedFor w h → with_metadata g h.metadata_blocks ≡ h
moved w g h one two =
    one_pool w w (with_metadata g h.metadata_blocks) h refl refl (one_block w g h one two) (record { pool = one.blocks.pool; volume = one.blocks.volume }) two.blocks refl

least_of : (w : Wanted) (g h : Geometry) → IsSizedFor w g → IsSizedFor w h → g.metadata_blocks ≤ h.metadata_blocks
least_of w g h one two =
    let same = sym (moved w g h one two) in
    one.least h.metadata_blocks (subst IsWithinLimits same two.limits) (subst (λ (k : Geometry). HaveRoom k w.volumes) same two.room)

one_size : (w : Wanted) (g h : Geometry) → IsSizedFor w g → IsSizedFor w h → g ≡ h
one_size w g h one two =
    let low = least_of w g h one two in
    let high = least_of w h g two one in
    one_pool w w g h refl refl (one_block w g h one two) one.blocks two.blocks (omega (arith, low, high))

at_most : (w : Wanted) (fit less : ℕ) → FitAtMost w fit → FitAtMost w less → fit ≤ less
at_most w fit less (n, g, large, much) (m, h, also, most) =
    let low = large.1 m also.0 in
    let high = also.1 n large.0 in
    let sectors : n ≡ m = omega (arith, low, high) in
    let same = one_pool w w g h refl refl (much.sectors_are ∙ (sectors ∙ sym most.sectors_are)) much.blocks most.blocks (much.metadata ∙ sym most.metadata) in
    ⊎_elim
    (λ (lt : less < fit). absurd (most.none (fewer h fit (less + 1) (omega arith) (subst (λ (k : Geometry). HaveRoom k fit) same much.room))))
    (λ (le : fit ≤ less). le)
    (cases_lt less fit)

pub one_answer : (w : Wanted) (one other : Result Geometry Unfit) → IsAnswer w one → IsAnswer w other → one ≡ other
one_answer w (Ok g) (Ok h) a b = ap Ok (one_size w g h a b)
one_answer w (Ok g) (Err OutOfRange) a b = absurd (b a.wanted)
one_answer w (Ok g) (Err (TooMany fit)) a b = absurd (b.1 g.block_sectors a.block.allowed a.block.suits)
one_answer w (Err OutOfRange) (Ok h) a b = absurd (a b.wanted)
one_answer w (Err OutOfRange) (Err OutOfRange) a b = refl
one_answer w (Err OutOfRange) (Err (TooMany fit)) a b = absurd (a b.0)
one_answer w (Err (TooMany fit)) (Ok h) a b = absurd (a.1 h.block_sectors b.block.allowed b.block.suits)
one_answer w (Err (TooMany fit)) (Err OutOfRange) a b = absurd (b a.0)
one_answer w (Err (TooMany fit)) (Err (TooMany less)) a b =
    let low = at_most w fit less a.2 b.2 in
    let high = at_most w less fit b.2 a.2 in
    let same : fit ≡ less = omega (arith, low, high) in
    ap Err (ap TooMany same)
