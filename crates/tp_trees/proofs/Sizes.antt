-- How many nodes a tree has, by the number of its entries, and what they name.
use Rattle.std.proofs.Common.{◌≡◌, ℕ, zero, suc, ◌+◌, ◌*◌, ◌/◌, ◌^◌, ◌<◌, ◌≤◌, List, [], ◌∷◌, length, refl, sym, ap, subst, arith, ◌⊎◌, inl, inr, length-append}
use Rattle.std.proofs.lemmas.Bool.{cases_eq, cases_lt}
use Rattle.tp_layout.specs.declared.entry.Entry.{Entry}
use Rattle.tp_layout.specs.Entries.{first_key}
use Rattle.tp_refs.specs.Store.{Store, children, node_at, values}
use Rattle.tp_refs.specs.Balance.{occurrences}
use Rattle.tp_refs.proofs.Steps.{occurrences-append, one_other, one_same}
use Rattle.tp_trees.specs.Tree.{IsTree, IsWhole, Parted, joined, least_of, pairs}
use Rattle.tp_trees.specs.Sizes.{gathered, nodes_of}
use Rattle.tp_trees.proofs.Frames.{Below, occurrences_values}
use Rattle.tp_trees.proofs.Heights.{mapping_low}
use Rattle.tp_trees.proofs.Trees.{children_values, least_elsewhere, least_positive}

-- ---- how many there are

-- parts with at least q entries a node, and one more
parts_fill : (base k q : ℕ) (s : Store) (low high : ℕ) (es : List Entry) → ((from to c : ℕ) → Below base k s from to c → q * length (nodes_of k s c) + 1 ≤ length (pairs k s c))
    → Parted (Below base k s) low high es → q * length (gathered (nodes_of k s) es) + length es ≤ length (joined (pairs k s) es)
parts_fill base k q s low high [] each h = grind arith
parts_fill base k q s low high (e ∷ es) each h =
    let r : q * length (gathered (nodes_of k s) es) + length es ≤ length (joined (pairs k s) es) = parts_fill base k q s (first_key es high) high es each h.3 in
    let f : q * length (nodes_of k s e.value) + 1 ≤ length (pairs k s e.value) = each low (first_key es high) e.value h.2 in
    let split : q * (length (nodes_of k s e.value) + length (gathered (nodes_of k s) es)) ≡ q * length (nodes_of k s e.value) + q * length (gathered (nodes_of k s) es) = grind arith in
    let n : q * length (gathered (nodes_of k s) (e ∷ es)) ≡ q * (length (nodes_of k s e.value) + length (gathered (nodes_of k s) es)) =
    ap (λ l. q * l) (length-append (nodes_of k s e.value) (gathered (nodes_of k s) es)) in
    omega (arith, length-append (pairs k s e.value) (joined (pairs k s) es))

one_more : (q n : ℕ) → q * suc n ≡ q + q * n
one_more q n = grind arith

-- a tree that is no root, where each of its nodes has more than q entries
below_fill : (base k q : ℕ) → ((j : ℕ) → j ≤ k → q < least_of (base + j)) → (s : Store) (low high c : ℕ) → Below base k s low high c → q * length (nodes_of k s c) + 1 ≤ length (pairs k s c)
below_fill base zero q least s low high c h = omega (arith, least 0 (omega arith), h.1, one_more q 0)
below_fill base (suc k) q least s low high c h =
    let p : q * length (gathered (nodes_of k s) (node_at s c).entries) + length (node_at s c).entries ≤ length (joined (pairs k s) (node_at s c).entries) =
    parts_fill base k q s low high (node_at s c).entries (λ from to d b. below_fill base k q (λ j l. least j (omega arith)) s from to d b) h.0.1 in
    omega (arith, least (suc k) (omega arith), h.1, one_more q (length (gathered (nodes_of k s) (node_at s c).entries)))

-- a tree whose root may have any number of entries
tree_fill : (base k q : ℕ) → ((j : ℕ) → j < k → q < least_of (base + j)) → (s : Store) (low high b : ℕ) → IsTree base k s low high b → q * length (nodes_of k s b) ≤ q + length (pairs k s b)
tree_fill base zero q least s low high b h = omega (arith, one_more q 0)
tree_fill base (suc k) q least s low high b h =
    let p : q * length (gathered (nodes_of k s) (node_at s b).entries) + length (node_at s b).entries ≤ length (joined (pairs k s) (node_at s b).entries) =
    parts_fill base k q s low high (node_at s b).entries (λ from to d c. below_fill base k q (λ j l. least j (omega arith)) s from to d c) h.1 in
    omega (arith, one_more q (length (gathered (nodes_of k s) (node_at s b).entries)))

pub few_mapping_nodes : (k : ℕ) (s : Store) (high b : ℕ) → IsWhole 1 k s high b → high ≤ 2 ^ 24 → length (nodes_of k s b) ≤ 1 + length (pairs k s b) / 63
few_mapping_nodes k s high b w few =
    let low : k ≤ 3 = mapping_low k s high b w few in
    let t : 125 * length (nodes_of k s b) ≤ 125 + length (pairs k s b) = tree_fill 1 k 125 (λ j l. omega (arith, least_elsewhere (1 + j) (λ e. absurd (omega arith)))) s 0 high b w.tree in
    omega arith

pub few_device_nodes : (k : ℕ) (s : Store) (high b : ℕ) → IsWhole 5 k s high b → length (nodes_of k s b) ≤ 1 + length (pairs k s b) / 31
few_device_nodes k s high b w =
    let t : 62 * length (nodes_of k s b) ≤ 62 + length (pairs k s b) = tree_fill 5 k 62 (λ j l. omega (arith, least_positive (5 + j))) s 0 high b w.tree in
    omega arith

-- ---- what they name

pub first_node : (k : ℕ) (s : Store) (b : ℕ) → 0 < occurrences b (nodes_of k s b)
first_node zero s b = omega (arith, one_same b b refl)
first_node (suc k) s b = omega (arith, one_same b b refl)

-- the roots of parts
pub roots_gathered : (f : ℕ → List ℕ) → ((b : ℕ) → 0 < occurrences b (f b)) → (c : ℕ) (es : List Entry) → 0 < occurrences c (values es) → 0 < occurrences c (gathered f es)
roots_gathered f first c [] h = absurd (omega arith)
roots_gathered f first c (e ∷ es) h =
    elim (cases_eq e.value c) [
      | inl p ↦ let here : 0 < occurrences c (f e.value) = subst (λ x. 0 < occurrences c (f x)) (sym p) (first c) in omega (arith, occurrences-append c (f e.value) (gathered f es))
      | inr d ↦ omega (arith, occurrences-append c (f e.value) (gathered f es), roots_gathered f first c es (omega (arith, one_other e.value c d)))
    ]

named_parts : (base k : ℕ) (s : Store) (low high x c : ℕ) (es : List Entry)
    → ((from to d : ℕ) → Below base k s from to d → 0 < occurrences x (nodes_of k s d) → (0 < occurrences c (nodes_of k s d)) ⊎ (0 < occurrences c (values (pairs k s d))))
    → Parted (Below base k s) low high es → 0 < occurrences x (gathered (nodes_of k s) es)
    → (0 < occurrences c (gathered (nodes_of k s) es)) ⊎ (0 < occurrences c (values (joined (pairs k s) es)))
named_parts base k s low high x c [] each h here = absurd (omega arith)
named_parts base k s low high x c (e ∷ es) each h here =
    let n = occurrences-append c (nodes_of k s e.value) (gathered (nodes_of k s) es) in
    let v = occurrences_values c (pairs k s e.value) (joined (pairs k s) es) in
    elim (cases_lt 0 (occurrences x (nodes_of k s e.value))) [
      | inl l ↦ elim (each low (first_key es high) e.value h.2 l) [
        | inl a ↦ inl (omega (arith, a, n))
        | inr a ↦ inr (omega (arith, a, v))
      ]
      | inr g ↦ elim (named_parts base k s (first_key es high) high x c es each h.3 (omega (arith, g, here, occurrences-append x (nodes_of k s e.value) (gathered (nodes_of k s) es)))) [
        | inl a ↦ inl (omega (arith, a, n))
        | inr a ↦ inr (omega (arith, a, v))
      ]
    ]

-- what a node of a tree names is another one, or the value of an entry of a leaf
pub named_by_nodes : (base k : ℕ) (s : Store) (low high b x c : ℕ) → 0 < base → IsTree base k s low high b → 0 < occurrences x (nodes_of k s b) → 0 < occurrences c (children (node_at s x))
    → (0 < occurrences c (nodes_of k s b)) ⊎ (0 < occurrences c (values (pairs k s b)))
named_by_nodes base zero s low high b x c some h here names =
    elim (cases_eq b x) [
      | inl e ↦ inr (subst (λ xs. 0 < occurrences c xs) (children_values (node_at s b) (omega (arith, some, h.0))) (subst (λ y. 0 < occurrences c (children (node_at s y))) (sym e) names))
      | inr d ↦ absurd (omega (arith, here, one_other b x d))
    ]
named_by_nodes base (suc k) s low high b x c some h here names =
    elim (cases_eq b x) [
      | inl e ↦
          let child : 0 < occurrences c (values (node_at s b).entries) =
          subst (λ xs. 0 < occurrences c xs) (children_values (node_at s b) (omega (arith, h.0))) (subst (λ y. 0 < occurrences c (children (node_at s y))) (sym e) names) in
          let deep : 0 < occurrences c (gathered (nodes_of k s) (node_at s b).entries) = roots_gathered (nodes_of k s) (first_node k s) c (node_at s b).entries child in
          inl (omega (arith, deep))
      | inr d ↦
          elim (named_parts base k s low high x c (node_at s b).entries (λ from to d t l. named_by_nodes base k s from to d x c some t.0 l names) h.1 (omega (arith, here, one_other b x d))) [
            | inl a ↦ inl (omega (arith, a))
            | inr a ↦ inr a
          ]
    ]
