-- What stands under a block stays a tree with its content where nothing below it is written.
use Rattle.std.proofs.Common.{◌≡◌, ℕ, zero, suc, ◌+◌, ◌<◌, ◌≤◌, List, [], ◌∷◌, ◌++◌, length, refl, sym, ap, subst, ◌∙◌, arith, inl, inr}
use Rattle.std.proofs.lemmas.Bool.{cases_eq}
use Rattle.tp_layout.specs.declared.entry.Entry.{Entry}
use Rattle.tp_layout.specs.Entries.{first_key, Ascend}
use Rattle.tp_refs.specs.Store.{Node, Store, node_at, values}
use Rattle.tp_refs.specs.Balance.{Frame, SameBelow, occurrences}
use Rattle.tp_refs.proofs.Steps.{one_same, one_other, occurrences-append}
use Rattle.tp_trees.specs.Tree.{IsTree, IsWhole, Parted, joined, least_of, pairs}
use Rattle.tp_trees.proofs.Trees.{children_values, tree_rank}

-- a tree of k levels above the leaves that is no root
abbrev pub Below : ℕ → ℕ → Store → ℕ → ℕ → ℕ → Type 0
Below base k s from to c = IsTree base k s from to c × (least_of (base + k) ≤ length (node_at s c).entries)

pub same_head : (k : ℕ) (s t : Store) (b : ℕ) → SameBelow k s t b → node_at t b ≡ node_at s b
same_head zero s t b h = h
same_head (suc k) s t b h = h.0

pub parted_map : (P Q : ℕ → ℕ → ℕ → Type 0) (low high : ℕ) (es : List Entry) → ((from to c : ℕ) → 0 < occurrences c (values es) → P from to c → Q from to c) → Parted P low high es → Parted Q low high es
parted_map P Q low high [] f h = h
parted_map P Q low high (e ∷ es) f h = (
  h.0,
  h.1,
  f low (first_key es high) e.value (omega (arith, one_same e.value e.value refl)) h.2,
  parted_map P Q (first_key es high) high es (λ from to c k. f from to c (omega arith)) h.3,
)

pub joined_map : (P : ℕ → ℕ → ℕ → Type 0) (f g : ℕ → List Entry) (low high : ℕ) (es : List Entry) → Parted P low high es → ((from to c : ℕ) → 0 < occurrences c (values es) → P from to c → f c ≡ g c) → joined f es ≡ joined g es
joined_map P f g low high [] h k = refl
joined_map P f g low high (e ∷ es) h k =
    ap (λ xs. xs ++ joined f es) (k low (first_key es high) e.value (omega (arith, one_same e.value e.value refl)) h.2)
    ∙ ap (λ xs. g e.value ++ xs) (joined_map P f g (first_key es high) high es h.3 (λ from to c m. k from to c (omega arith)))

-- the children of an inner node are times_named
pub child_below : (base k : ℕ) (s t : Store) (low high b c : ℕ) → IsTree base (suc k) s low high b → SameBelow (suc k) s t b → 0 < occurrences c (values (node_at s b).entries) → SameBelow k s t c
child_below base k s t low high b c h same here =
    same.1 c (subst (λ xs. 0 < occurrences c xs) (sym (children_values (node_at s b) (omega (arith, h.0)))) here)

pub tree_same : (base k : ℕ) (s t : Store) (low high b : ℕ) → SameBelow k s t b → IsTree base k s low high b → IsTree base k t low high b
tree_same base zero s t low high b same h = subst (λ (n : Node). (n.rank ≡ base) × Ascend low high n.entries) (sym same) h
tree_same base (suc k) s t low high b same h =
    subst (λ (n : Node). (n.rank ≡ base + suc k) × Parted (Below base k t) low high n.entries) (sym same.0) (
      h.0,
      parted_map (Below base k s) (Below base k t) low high (node_at s b).entries (λ from to c here p.
          let d = child_below base k s t low high b c h same here in
          (tree_same base k s t from to c d p.0, subst (λ (n : Node). least_of (base + k) ≤ length n.entries) (sym (same_head k s t c d)) p.1)) h.1,
    )

pub pairs_same : (base k : ℕ) (s t : Store) (low high b : ℕ) → SameBelow k s t b → IsTree base k s low high b → pairs k t b ≡ pairs k s b
pairs_same base zero s t low high b same h = ap (λ (n : Node). n.entries) same
pairs_same base (suc k) s t low high b same h =
    ap (λ (n : Node). joined (pairs k t) n.entries) same.0
    ∙ joined_map (Below base k s) (pairs k t) (pairs k s) low high (node_at s b).entries h.1 (λ from to c here p.
    pairs_same base k s t from to c (child_below base k s t low high b c h same here) p.0)

-- parts whose blocks stay
pub below_same : (base k : ℕ) (s t : Store) (low high : ℕ) (es : List Entry) → ((c : ℕ) → 0 < occurrences c (values es) → SameBelow k s t c) → Parted (Below base k s) low high es → Parted (Below base k t) low high es
below_same base k s t low high es stays h =
    parted_map (Below base k s) (Below base k t) low high es (λ from to c here p.
    (tree_same base k s t from to c (stays c here) p.0, subst (λ (n : Node). least_of (base + k) ≤ length n.entries) (sym (same_head k s t c (stays c here))) p.1)) h

pub joined_same : (base k : ℕ) (s t : Store) (low high : ℕ) (es : List Entry) → ((c : ℕ) → 0 < occurrences c (values es) → SameBelow k s t c) → Parted (Below base k s) low high es → joined (pairs k t) es ≡ joined (pairs k s) es
joined_same base k s t low high es stays h =
    joined_map (Below base k s) (pairs k t) (pairs k s) low high es h (λ from to c here p. pairs_same base k s t from to c (stays c here) p.0)

-- the levels of parts
pub parted_rank : (base k : ℕ) (s : Store) (low high c : ℕ) (es : List Entry) → Parted (Below base k s) low high es → 0 < occurrences c (values es) → (node_at s c).rank ≡ base + k
parted_rank base k s low high c [] h here = absurd (omega arith)
parted_rank base k s low high c (e ∷ es) h here =
    elim (cases_eq c e.value) [
      | inl p ↦ ap (λ x. (node_at s x).rank) p ∙ tree_rank base k s low (first_key es high) e.value h.2.0
      | inr d ↦ parted_rank base k s (first_key es high) high c es h.3 (omega (arith, one_other e.value c (λ q. d (sym q))))
    ]

pub values-append : (es fs : List Entry) → values (es ++ fs) ≡ values es ++ values fs
values-append [] fs = refl
values-append (e ∷ es) fs = ap (λ xs. e.value ∷ xs) (values-append es fs)

-- how often a block is times_named, by the parts of the entries
pub occurrences_values : (c : ℕ) (es fs : List Entry) → occurrences c (values (es ++ fs)) ≡ occurrences c (values es) + occurrences c (values fs)
occurrences_values c es fs = ap (occurrences c) (values-append es fs) ∙ occurrences-append c (values es) (values fs)

-- ---- trees under held references

pub framed_tree : (base k : ℕ) (s t : Store) (low high b : ℕ) (held : List ℕ) → Frame s t held → 0 < occurrences b held → IsTree base k s low high b → IsTree base k t low high b × (pairs k t b ≡ pairs k s b)
framed_tree base k s t low high b held f here h = (tree_same base k s t low high b (f b k here) h, pairs_same base k s t low high b (f b k here) h)

pub framed_whole : (base k : ℕ) (s t : Store) (high b : ℕ) (held : List ℕ) → Frame s t held → 0 < occurrences b held → IsWhole base k s high b → IsWhole base k t high b × (pairs k t b ≡ pairs k s b)
framed_whole base k s t high b held f here w =
    let r = framed_tree base k s t 0 high b held f here w.tree in
    (record { tree = r.0; branches = λ z. subst (λ (n : Node). 2 ≤ length n.entries) (sym (same_head k s t b (f b k here))) (w.branches z) }, r.1)
