-- Each node of a tree stands in one place of it.
use Rattle.std.proofs.Common.{◌≡◌, ℕ, zero, suc, ◌+◌, ◌<◌, ◌≤◌, List, [], ◌∷◌, length, refl, sym, ap, subst, arith, inl, inr}
use Rattle.std.proofs.lemmas.Bool.{cases_eq, cases_lt}
use Rattle.tp_layout.specs.declared.entry.Entry.{Entry}
use Rattle.tp_layout.specs.Entries.{Ascend, first_key}
use Rattle.tp_layout.proofs.Ordered.{ascend_ends}
use Rattle.tp_refs.specs.Store.{Store, children, count_of, node_at, values}
use Rattle.tp_refs.specs.Balance.{Balanced, SameBelow, occurrences}
use Rattle.tp_refs.proofs.Steps.{child_live, occurrences-append, one_other, one_same}
use Rattle.tp_trees.specs.Tree.{IsTree, Parted}
use Rattle.tp_trees.specs.Sizes.{gathered, nodes_of}
use Rattle.tp_trees.proofs.Trees.{children_values, least_positive, parted_ends}
use Rattle.tp_trees.proofs.Frames.{Below}
use Rattle.tp_trees.proofs.Growth.{parted_less}

-- ---- the first key of a node

abbrev key_of : Store → ℕ → ℕ
key_of s c = first_key (node_at s c).entries 0

first_of_leaf : (low high : ℕ) (es : List Entry) → 0 < length es → Ascend low high es → (low ≤ first_key es 0) × (first_key es 0 < high)
first_of_leaf low high [] l h = absurd (omega arith)
first_of_leaf low high (e ∷ es) l h = (h.0, omega (arith, ascend_ends (suc e.key) high es h.1))

first_of_parts : (P : ℕ → ℕ → ℕ → Type 0) (low high : ℕ) (es : List Entry) → 0 < length es → Parted P low high es → (low ≤ first_key es 0) × (first_key es 0 < high)
first_of_parts P low high [] l h = absurd (omega arith)
first_of_parts P low high (e ∷ es) l h = (omega (arith, h.0), omega (arith, h.0, parted_less P low high (e ∷ es) l h))

parts_key : (base k : ℕ) (s : Store) (low high c : ℕ) (es : List Entry)
    → ((from to d : ℕ) → Below base k s from to d → 0 < occurrences c (nodes_of k s d) → (from ≤ key_of s c) × (key_of s c < to))
    → Parted (Below base k s) low high es → 0 < occurrences c (gathered (nodes_of k s) es) → (low ≤ key_of s c) × (key_of s c < high)
parts_key base k s low high c [] each h here = absurd (omega arith)
parts_key base k s low high c (e ∷ es) each h here =
    elim (cases_lt 0 (occurrences c (nodes_of k s e.value))) [
      | inl l ↦ let r = each low (first_key es high) e.value h.2 l in (r.0, omega (arith, r.1, parted_ends (Below base k s) (first_key es high) high es h.3))
      | inr g ↦
          let r = parts_key base k s (first_key es high) high c es each h.3 (omega (arith, g, here, occurrences-append c (nodes_of k s e.value) (gathered (nodes_of k s) es))) in
          (omega (arith, r.0, h.1), r.1)
    ]

below_key : (base k : ℕ) (s : Store) (low high b c : ℕ) → Below base k s low high b → 0 < occurrences c (nodes_of k s b) → (low ≤ key_of s c) × (key_of s c < high)
below_key base zero s low high b c h here =
    elim (cases_eq b c) [
      | inl e ↦ subst (λ x. (low ≤ key_of s x) × (key_of s x < high)) e (first_of_leaf low high (node_at s b).entries (omega (arith, h.1, least_positive (base + 0))) h.0.1)
      | inr d ↦ absurd (omega (arith, here, one_other b c d))
    ]
below_key base (suc k) s low high b c h here =
    elim (cases_eq b c) [
      | inl e ↦ subst (λ x. (low ≤ key_of s x) × (key_of s x < high)) e (first_of_parts (Below base k s) low high (node_at s b).entries (omega (arith, h.1, least_positive (base + suc k))) h.0.1)
      | inr d ↦ parts_key base k s low high c (node_at s b).entries (λ from to x t l. below_key base k s from to x c t l) h.0.1 (omega (arith, here, one_other b c d))
    ]

-- ---- the ranks of nodes

parts_ranks : (base k : ℕ) (s : Store) (low high c : ℕ) (es : List Entry)
    → ((from to d : ℕ) → Below base k s from to d → 0 < occurrences c (nodes_of k s d) → (base ≤ (node_at s c).rank) × ((node_at s c).rank ≤ base + k))
    → Parted (Below base k s) low high es → 0 < occurrences c (gathered (nodes_of k s) es) → (base ≤ (node_at s c).rank) × ((node_at s c).rank ≤ base + k)
parts_ranks base k s low high c [] each h here = absurd (omega arith)
parts_ranks base k s low high c (e ∷ es) each h here =
    elim (cases_lt 0 (occurrences c (nodes_of k s e.value))) [
      | inl l ↦ each low (first_key es high) e.value h.2 l
      | inr g ↦ parts_ranks base k s (first_key es high) high c es each h.3 (omega (arith, g, here, occurrences-append c (nodes_of k s e.value) (gathered (nodes_of k s) es)))
    ]

pub node_ranks : (base k : ℕ) (s : Store) (low high b c : ℕ) → IsTree base k s low high b → 0 < occurrences c (nodes_of k s b) → (base ≤ (node_at s c).rank) × ((node_at s c).rank ≤ base + k)
node_ranks base zero s low high b c h here =
    elim (cases_eq b c) [
      | inl e ↦ let r : (node_at s b).rank ≡ (node_at s c).rank = ap (λ x. (node_at s x).rank) e in (omega (arith, r, h.0), omega (arith, r, h.0))
      | inr d ↦ absurd (omega (arith, here, one_other b c d))
    ]
node_ranks base (suc k) s low high b c h here =
    elim (cases_eq b c) [
      | inl e ↦ let r : (node_at s b).rank ≡ (node_at s c).rank = ap (λ x. (node_at s x).rank) e in (omega (arith, r, h.0), omega (arith, r, h.0))
      | inr d ↦
          let r = parts_ranks base k s low high c (node_at s b).entries (λ from to x t l. node_ranks base k s from to x c t.0 l) h.1 (omega (arith, here, one_other b c d)) in
          (r.0, omega (arith, r.1))
    ]

-- ---- once

parts_once : (base k : ℕ) (s : Store) (low high c : ℕ) (es : List Entry) → ((from to d : ℕ) → Below base k s from to d → occurrences c (nodes_of k s d) ≤ 1)
    → Parted (Below base k s) low high es → occurrences c (gathered (nodes_of k s) es) ≤ 1
parts_once base k s low high c [] each h = omega arith
parts_once base k s low high c (e ∷ es) each h =
    let n = occurrences-append c (nodes_of k s e.value) (gathered (nodes_of k s) es) in
    let one : occurrences c (nodes_of k s e.value) ≤ 1 = each low (first_key es high) e.value h.2 in
    let rest : occurrences c (gathered (nodes_of k s) es) ≤ 1 = parts_once base k s (first_key es high) high c es each h.3 in
    elim (cases_lt 0 (occurrences c (nodes_of k s e.value))) [
      | inl l ↦ elim (cases_lt 0 (occurrences c (gathered (nodes_of k s) es))) [
        | inl m ↦
            let a = below_key base k s low (first_key es high) e.value c h.2 l in
            let b = parts_key base k s (first_key es high) high c es (λ from to x t i. below_key base k s from to x c t i) h.3 m in
            absurd (omega (arith, a.1, b.0))
        | inr z ↦ omega (arith, n, one, z)
      ]
      | inr g ↦ omega (arith, n, rest, g)
    ]

pub nodes_once : (base k : ℕ) (s : Store) (low high b c : ℕ) → IsTree base k s low high b → occurrences c (nodes_of k s b) ≤ 1
nodes_once base zero s low high b c h =
    elim (cases_eq b c) [
      | inl e ↦ omega (arith, one_same b c e)
      | inr d ↦ omega (arith, one_other b c d)
    ]
nodes_once base (suc k) s low high b c h =
    elim (cases_eq b c) [
      | inl e ↦ elim (cases_lt 0 (occurrences c (gathered (nodes_of k s) (node_at s b).entries))) [
        | inl l ↦
            let r : (node_at s b).rank ≡ (node_at s c).rank = ap (λ x. (node_at s x).rank) e in
            let t = parts_ranks base k s low high c (node_at s b).entries (λ from to x p i. node_ranks base k s from to x c p.0 i) h.1 l in
            absurd (omega (arith, r, h.0, t.1))
        | inr z ↦ omega (arith, one_same b c e, z)
      ]
      | inr d ↦ omega (arith, one_other b c d, parts_once base k s low high c (node_at s b).entries (λ from to x t. nodes_once base k s from to x c t.0) h.1)
    ]

-- ---- nodes of a live tree are live

module _ (s : Store) (held : List ℕ) (bal : Balanced s [] held) where
  parts_live : (base k : ℕ) (low high c : ℕ) (es : List Entry) → ((from to d : ℕ) → 0 < occurrences d (values es) → Below base k s from to d → 0 < occurrences c (nodes_of k s d) → 0 < count_of s c)
      → Parted (Below base k s) low high es → 0 < occurrences c (gathered (nodes_of k s) es) → 0 < count_of s c
  parts_live base k low high c [] each h here = absurd (omega arith)
  parts_live base k low high c (e ∷ es) each h here =
      elim (cases_lt 0 (occurrences c (nodes_of k s e.value))) [
        | inl l ↦ each low (first_key es high) e.value (omega (arith, one_same e.value e.value refl)) h.2 l
        | inr g ↦ parts_live base k (first_key es high) high c es (λ from to d i t l. each from to d (omega arith) t l) h.3 (omega (arith, g, here, occurrences-append c (nodes_of k s e.value) (gathered (nodes_of k s) es)))
      ]

  pub nodes_live : (base k : ℕ) (low high b c : ℕ) → 0 < base → IsTree base k s low high b → 0 < count_of s b → 0 < occurrences c (nodes_of k s b) → 0 < count_of s c
  nodes_live base zero low high b c some h live here =
      elim (cases_eq b c) [
        | inl e ↦ subst (λ x. 0 < count_of s x) e live
        | inr d ↦ absurd (omega (arith, here, one_other b c d))
      ]
  nodes_live base (suc k) low high b c some h live here =
      elim (cases_eq b c) [
        | inl e ↦ subst (λ x. 0 < count_of s x) e live
        | inr d ↦ parts_live base k low high c (node_at s b).entries (λ from to x named t l.
            nodes_live base k from to x c some t.0 (child_live s [] held b x bal live refl (subst (λ xs. 0 < occurrences x xs) (sym (children_values (node_at s b) (omega (arith, h.0)))) named)) l) h.1 (omega (arith, here, one_other b c d))
      ]

-- ---- what stays is as it was before, too

pub below_sym : (k : ℕ) (s t : Store) (b : ℕ) → SameBelow k s t b → SameBelow k t s b
below_sym zero s t b h = sym h
below_sym (suc k) s t b h = (sym h.0, λ c here. below_sym k s t c (h.1 c (subst (λ n. 0 < occurrences c (children n)) h.0 here)))
