-- The counts while the blocks of the fixed part and the root are counted.
use Rattle.std.proofs.Common.{◌≡◌, ℕ, zero, suc, ◌+◌, ◌-◌, ◌<◌, List, ◌∷◌, ◌++◌, set, replicate, refl, ◌∙◌, ap, arith, get_or}
use Rattle.std.proofs.lemmas.List.{length-replicate, get_or-append_right, get_or-replicate, set-append_right}
use Rattle.tp_model.specs.Geometry.{Geometry}
use Rattle.tp_layout.specs.declared.counts.Part.TheVariants.{Metadata}
use Rattle.tp_counts.specs.Counts.{Counts}

-- m ones and then n zeros
abbrev pub ones : ℕ → ℕ → List ℕ
ones m n = replicate m 1 ++ replicate n 0

-- the first blocks are counted once each
abbrev pub counted_so_far : Geometry → ℕ → Counts
counted_so_far g m = record { geometry = g; part = Metadata; now = ones m (g.metadata_blocks - m); kept = replicate g.metadata_blocks 0 }

pub next_is_zero : (m n k : ℕ) → m < n → k ≡ n - m → get_or (ones m k) m 0 ≡ 0
next_is_zero m n k h e =
    let z : m - m ≡ 0 = omega arith in
    get_or-append_right {X = ℕ} (replicate m 1) (replicate k 0) m m 0 (length-replicate {A = ℕ} m 1) (omega arith)
    ∙ ap (λ i. get_or {A = ℕ} (replicate k 0) i 0) z ∙ get_or-replicate k 0 0 0 (omega (arith, h, e))

first_set : (k n : ℕ) → n ≡ suc k → set {A = ℕ} (replicate n 0) 0 1 ≡ 1 ∷ replicate k 0
first_set k zero e = absurd (omega (arith, e))
first_set k (suc n) e = let f : n ≡ k = omega arith in ap (λ j. 1 ∷ replicate j 0) f

one_more : (m : ℕ) (rest : List ℕ) → replicate {A = ℕ} m 1 ++ (1 ∷ rest) ≡ replicate {A = ℕ} (suc m) 1 ++ rest
one_more zero rest = refl
one_more (suc m) rest = ap (λ (l : List ℕ). 1 ∷ l) (one_more m rest)

pub set_next : (m n : ℕ) → m < n → set {A = ℕ} (ones m (n - m)) m 1 ≡ ones (m + 1) (n - (m + 1))
set_next m n h =
    let z : m - m ≡ 0 = omega arith in
    let s : suc m ≡ m + 1 = omega arith in
    set-append_right {X = ℕ} (replicate m 1) (replicate (n - m) 0) m m 1 (length-replicate {A = ℕ} m 1) (omega arith)
    ∙ ap (λ i. replicate {A = ℕ} m 1 ++ set {A = ℕ} (replicate (n - m) 0) i 1) z
    ∙ ap (λ (l : List ℕ). replicate {A = ℕ} m 1 ++ l) (first_set (n - (m + 1)) (n - m) (omega (arith, h)))
    ∙ one_more m (replicate (n - (m + 1)) 0)
    ∙ ap (λ j. replicate {A = ℕ} j 1 ++ replicate {A = ℕ} (n - (m + 1)) 0) s

pub counts_one_more : (g : Geometry) (m : ℕ) (before after : Counts) → m < g.metadata_blocks → before ≡ counted_so_far g m
    → after ≡ record before { now = set before.now m (get_or before.now m 0 + 1) } → after ≡ counted_so_far g (m + 1)
counts_one_more g m before after h was e =
    let n = g.metadata_blocks in
    let z : get_or (ones m (n - m)) m 0 + 1 ≡ 1 = ap (λ k. k + 1) (next_is_zero m n (n - m) h refl) in
    e ∙ ap (λ (c : Counts). record c { now = set c.now m (get_or c.now m 0 + 1) }) was
    ∙ ap (λ (l : List ℕ). record { geometry = g; part = Metadata; now = l; kept = replicate n 0 }) (ap (λ k. set {A = ℕ} (ones m (n - m)) m k) z ∙ set_next m n h)
