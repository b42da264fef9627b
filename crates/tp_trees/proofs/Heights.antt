-- How high a tree is, by the number of its entries.
use Rattle.std.proofs.Common.{◌≡◌, ℕ, zero, suc, ◌+◌, ◌*◌, ◌^◌, ◌<◌, ◌≤◌, List, [], ◌∷◌, length, refl, sym, ap, subst, ◌∙◌, arith, inl, inr, length-append}
use Rattle.std.proofs.lemmas.Bool.{cases_lt}
use Rattle.tp_layout.specs.declared.entry.Entry.{Entry}
use Rattle.tp_layout.specs.Entries.{Ascend, first_key}
use Rattle.tp_refs.specs.Store.{Store, node_at}
use Rattle.tp_trees.specs.Tree.{IsTree, IsWhole, Parted, joined, least_of, pairs}
use Rattle.tp_trees.specs.Growth.{Parts}
use Rattle.tp_trees.proofs.Trees.{ascend_tree, least_at_device_leaf, least_elsewhere, least_positive}
use Rattle.tp_trees.proofs.Frames.{Below}

-- the least number of entries of a tree of k levels above the leaves whose root is not the whole tree's
unfoldable pub least_under : ℕ → ℕ → ℕ
least_under base zero = least_of base
least_under base (suc k) = least_of (base + suc k) * least_under base k

times_more : (a b n : ℕ) → a ≤ b → a * n ≤ b * n
times_more zero b n h = omega arith
times_more (suc a) zero n h = absurd (omega arith)
times_more (suc a) (suc b) n h = let r : a * n ≤ b * n = times_more a b n (omega arith) in let x : suc a * n ≡ n + a * n = grind arith in let y : suc b * n ≡ n + b * n = grind arith in omega arith

-- parts with so many entries each
parts_many : (base k n : ℕ) (s : Store) (low high : ℕ) (es : List Entry) → ((from to c : ℕ) → Below base k s from to c → n ≤ length (pairs k s c)) → Parted (Below base k s) low high es
    → length es * n ≤ length (joined (pairs k s) es)
parts_many base k n s low high [] each h = omega arith
parts_many base k n s low high (e ∷ es) each h =
    let r : length es * n ≤ length (joined (pairs k s) es) = parts_many base k n s (first_key es high) high es each h.3 in
    let f : n ≤ length (pairs k s e.value) = each low (first_key es high) e.value h.2 in
    let x : suc (length es) * n ≡ n + length es * n = grind arith in
    omega (arith, length-append (pairs k s e.value) (joined (pairs k s) es))

pub below_many : (base k : ℕ) (s : Store) (low high c : ℕ) → Below base k s low high c → least_under base k ≤ length (pairs k s c)
unfolding least_under
below_many base zero s low high c h = let e : base + 0 ≡ base = omega arith in subst (λ r. least_of r ≤ length (node_at s c).entries) e h.1
below_many base (suc k) s low high c h =
    let p : length (node_at s c).entries * least_under base k ≤ length (joined (pairs k s) (node_at s c).entries) =
    parts_many base k (least_under base k) s low high (node_at s c).entries (λ from to d b. below_many base k s from to d b) h.0.1 in
    let m : least_of (base + suc k) * least_under base k ≤ length (node_at s c).entries * least_under base k = times_more (least_of (base + suc k)) (length (node_at s c).entries) (least_under base k) h.1 in
    omega arith

-- a whole tree whose root is no leaf has two such parts
pub whole_many : (base k : ℕ) (s : Store) (high b : ℕ) → IsWhole base (suc k) s high b → 2 * least_under base k ≤ length (pairs (suc k) s b)
whole_many base k s high b w =
    let p : length (node_at s b).entries * least_under base k ≤ length (joined (pairs k s) (node_at s b).entries) =
    parts_many base k (least_under base k) s 0 high (node_at s b).entries (λ from to d h. below_many base k s from to d h) w.tree.1 in
    let m : 2 * least_under base k ≤ length (node_at s b).entries * least_under base k = times_more 2 (length (node_at s b).entries) (least_under base k) (w.branches (omega arith)) in
    omega arith

-- keys are different, so there are no more than there are numbers in the interval
pub ascend_few : (low high : ℕ) (es : List Entry) → Ascend low high es → low + length es ≤ high
ascend_few low high [] h = omega arith
ascend_few low high (e ∷ es) h = omega (arith, h.0, ascend_few (suc e.key) high es h.1)

pub tree_few : (base k : ℕ) (s : Store) (low high b : ℕ) → IsTree base k s low high b → low + length (pairs k s b) ≤ high
tree_few base k s low high b h = ascend_few low high (pairs k s b) (ascend_tree base k s low high b h)

-- ---- the numbers

under_step : (base k n : ℕ) → least_of (base + suc k) ≡ n → least_under base (suc k) ≡ n * least_under base k
unfolding least_under
under_step base k n e = ap (λ m. m * least_under base k) e

under_leaf : (base n : ℕ) → least_of base ≡ n → least_under base 0 ≡ n
unfolding least_under
under_leaf base n e = e

-- more levels have no fewer entries
under_rises : (base k : ℕ) → least_under base k ≤ least_under base (suc k)
unfolding least_under
under_rises base k =
    let m : 1 * least_under base k ≤ least_of (base + suc k) * least_under base k = times_more 1 (least_of (base + suc k)) (least_under base k) (omega (arith, least_positive (base + suc k))) in
    omega arith

under_at_least : (base j k : ℕ) → least_under base j ≤ least_under base (j + k)
under_at_least base j zero = let e : j + 0 ≡ j = omega arith in omega (arith, ap (least_under base) e)
under_at_least base j (suc k) = let e : j + suc k ≡ suc (j + k) = omega arith in omega (arith, ap (least_under base) e, under_at_least base j k, under_rises base (j + k))

-- below a mapping tree's root of up to 4 levels, each node has 126 entries
pub under_mapping : (k : ℕ) → k ≤ 3 → least_under 1 k ≡ 126 ^ suc k
under_mapping zero h = under_leaf 1 126 (least_elsewhere 1 (λ e. absurd (omega arith))) ∙ grind arith
under_mapping (suc k) h =
    let r : least_under 1 k ≡ 126 ^ suc k = under_mapping k (omega arith) in
    let a : least_under 1 (suc k) ≡ 126 * least_under 1 k = under_step 1 k 126 (least_elsewhere (1 + suc k) (λ e. absurd (omega arith))) in
    a ∙ (ap (λ n. 126 * n) r ∙ grind arith)

-- in the device tree, leaves have 63
pub under_device : (k : ℕ) → least_under 5 k ≡ 63 * 126 ^ k
under_device zero = under_leaf 5 63 (least_at_device_leaf 5 refl) ∙ grind arith
under_device (suc k) =
    let r : least_under 5 k ≡ 63 * 126 ^ k = under_device k in
    let a : least_under 5 (suc k) ≡ 126 * least_under 5 k = under_step 5 k 126 (least_elsewhere (5 + suc k) (λ e. absurd (omega arith))) in
    a ∙ (ap (λ n. 126 * n) r ∙ grind arith)

-- a whole mapping tree has that many entries
pub mapping_many : (k : ℕ) (s : Store) (high b : ℕ) → k ≤ 3 → IsWhole 1 (suc k) s high b → 2 * 126 ^ suc k ≤ length (pairs (suc k) s b)
mapping_many k s high b few w = omega (arith, whole_many 1 k s high b w, under_mapping k few)

pub device_many : (k : ℕ) (s : Store) (high b : ℕ) → IsWhole 5 (suc k) s high b → 2 * (63 * 126 ^ k) ≤ length (pairs (suc k) s b)
device_many k s high b w = omega (arith, whole_many 5 k s high b w, under_device k)

pub over_mapping : 2 ^ 24 < 2 * least_under 1 3
over_mapping =
    let a : least_under 1 0 ≡ 126 = under_leaf 1 126 (least_elsewhere 1 (λ e. absurd (omega arith))) in
    let b : least_under 1 1 ≡ 126 * least_under 1 0 = under_step 1 0 126 (least_elsewhere 2 (λ e. absurd (omega arith))) in
    let c : least_under 1 2 ≡ 126 * least_under 1 1 = under_step 1 1 126 (least_elsewhere 3 (λ e. absurd (omega arith))) in
    let d : least_under 1 3 ≡ 126 * least_under 1 2 = under_step 1 2 126 (least_elsewhere 4 (λ e. absurd (omega arith))) in
    omega arith

pub over_device : 65536 < 2 * least_under 5 2
over_device =
    let a : least_under 5 0 ≡ 63 = under_leaf 5 63 (least_at_device_leaf 5 refl) in
    let b : least_under 5 1 ≡ 126 * least_under 5 0 = under_step 5 0 126 (least_elsewhere 6 (λ e. absurd (omega arith))) in
    let c : least_under 5 2 ≡ 126 * least_under 5 1 = under_step 5 1 126 (least_elsewhere 7 (λ e. absurd (omega arith))) in
    omega arith

difference : (a b : ℕ) → a ≤ b → (j : ℕ) × (b ≡ a + j)
difference zero b h = (b, omega arith)
difference (suc a) zero h = absurd (omega arith)
difference (suc a) (suc b) h = let r = difference a b (omega arith) in (r.0, omega (arith, r.1))

-- a whole mapping tree with keys below 2^24 has at most 3 levels above the leaves
pub mapping_low : (k : ℕ) (s : Store) (high b : ℕ) → IsWhole 1 k s high b → high ≤ 2 ^ 24 → k ≤ 3
mapping_low zero s high b w few = omega arith
mapping_low (suc k) s high b w few =
    elim (cases_lt k 3) [
      | inl l ↦ omega arith
      | inr g ↦
          let split : (j : ℕ) × (k ≡ 3 + j) = difference 3 k g in
          let m : least_under 1 3 ≤ least_under 1 (3 + split.0) = under_at_least 1 3 split.0 in
          let e : least_under 1 k ≡ least_under 1 (3 + split.0) = ap (least_under 1) split.1 in
          absurd (omega (arith, whole_many 1 k s high b w, tree_few 1 (suc k) s 0 high b w.tree, over_mapping))
    ]

-- a whole device tree with at most 65536 entries has at most 2
pub device_low : (k : ℕ) (s : Store) (high b : ℕ) → IsWhole 5 k s high b → length (pairs k s b) ≤ 65536 → k ≤ 2
device_low zero s high b w few = omega arith
device_low (suc k) s high b w few =
    elim (cases_lt k 2) [
      | inl l ↦ omega arith
      | inr g ↦
          let split : (j : ℕ) × (k ≡ 2 + j) = difference 2 k g in
          let m : least_under 5 2 ≤ least_under 5 (2 + split.0) = under_at_least 5 2 split.0 in
          let e : least_under 5 k ≡ least_under 5 (2 + split.0) = ap (least_under 5) split.1 in
          absurd (omega (arith, whole_many 5 k s high b w, over_device))
    ]

-- ---- a root that became two: another level fits

pub parts_fill : (base k : ℕ) (s : Store) (low high b middle c : ℕ) (ps : List Entry) → Parts base k s low high b middle c ps → (2 * least_under base k ≤ length ps) × (low + length ps ≤ high)
parts_fill base k s low high b middle c ps p =
    let l : least_under base k ≤ length (pairs k s b) = below_many base k s low middle b (p.left, p.left_full) in
    let r : least_under base k ≤ length (pairs k s c) = below_many base k s middle high c (p.right, p.right_full) in
    let n : length ps ≡ length (pairs k s b) + length (pairs k s c) = ap (λ (xs : List Entry). length xs) (sym p.content) ∙ length-append (pairs k s b) (pairs k s c) in
    (omega arith, omega (arith, tree_few base k s low middle b p.left, tree_few base k s middle high c p.right))

pub mapping_rises : (k : ℕ) (s : Store) (low high b middle c : ℕ) (ps : List Entry) → Parts 1 k s low high b middle c ps → high ≤ 2 ^ 24 → suc k ≤ 3
mapping_rises k s low high b middle c ps p few =
    elim (cases_lt k 3) [
      | inl l ↦ omega arith
      | inr g ↦
          let split : (j : ℕ) × (k ≡ 3 + j) = difference 3 k g in
          let m : least_under 1 3 ≤ least_under 1 (3 + split.0) = under_at_least 1 3 split.0 in
          let e : least_under 1 k ≡ least_under 1 (3 + split.0) = ap (least_under 1) split.1 in
          let f = parts_fill 1 k s low high b middle c ps p in
          absurd (omega (arith, f.0, f.1, over_mapping))
    ]

pub device_rises : (k : ℕ) (s : Store) (low high b middle c : ℕ) (ps : List Entry) → Parts 5 k s low high b middle c ps → length ps ≤ 65536 → suc k ≤ 2
device_rises k s low high b middle c ps p few =
    elim (cases_lt k 2) [
      | inl l ↦ omega arith
      | inr g ↦
          let split : (j : ℕ) × (k ≡ 2 + j) = difference 2 k g in
          let m : least_under 5 2 ≤ least_under 5 (2 + split.0) = under_at_least 5 2 split.0 in
          let e : least_under 5 k ≡ least_under 5 (2 + split.0) = ap (least_under 5) split.1 in
          let f = parts_fill 5 k s low high b middle c ps p in
          absurd (omega (arith, f.0, over_device))
    ]
