-- A tree under another limit: it stands under each greater one, and under a lower one where its keys do.
use Rattle.std.proofs.Common.{◌≡◌, ℕ, zero, suc, ◌+◌, ◌<◌, ◌≤◌, List, [], ◌∷◌, ◌++◌, length, refl, ap, subst, arith}
use Rattle.std.specs.List.{AllByRecursion}
use Rattle.tp_layout.specs.Entries.{Ascend, first_key}
use Rattle.tp_layout.specs.declared.entry.Entry.{Entry}
use Rattle.tp_refs.specs.Store.{Store, node_at}
use Rattle.tp_trees.specs.Tree.{IsTree, IsWhole, Parted, joined, least_of, pairs}
use Rattle.tp_trees.proofs.Trees.{least_positive}

-- ---- a greater limit

wider_ascend : (low high more : ℕ) (es : List Entry) → high ≤ more → Ascend low high es → Ascend low more es
wider_ascend low high more [] h a = omega (arith, h, a)
wider_ascend low high more (e ∷ es) h a = (a.0, wider_ascend (suc e.key) high more es h a.1)

-- where P holds of the last interval up to the limit, it holds up to a greater one
wider_parts : (P : ℕ → ℕ → ℕ → Type 0) (low high more : ℕ) (e : Entry) (es : List Entry) → high ≤ more
    → ((from c : ℕ) → P from high c → P from more c) → Parted P low high (e ∷ es) → Parted P low more (e ∷ es)
wider_parts P low high more e [] h up p = (p.0, omega (arith, p.1, h), up low e.value p.2, refl)
wider_parts P low high more e (f ∷ es) h up p = (p.0, p.1, p.2, wider_parts P f.key high more f es h up p.3)

-- a child of a node, with its least number of entries
abbrev Under : ℕ → ℕ → Store → ℕ → ℕ → ℕ → Type 0
Under base k s from to c = IsTree base k s from to c × (least_of (base + k) ≤ length (node_at s c).entries)

wider_children : (P : ℕ → ℕ → ℕ → Type 0) (low high more : ℕ) (es : List Entry) → high ≤ more → 0 < length es
    → ((from c : ℕ) → P from high c → P from more c) → Parted P low high es → Parted P low more es
wider_children P low high more [] h none up p = absurd (omega (arith, none))
wider_children P low high more (e ∷ es) h some up p = wider_parts P low high more e es h up p

-- A root that is no leaf has an entry at least.
pub wider_tree : (base k : ℕ) (s : Store) (low high more b : ℕ) → high ≤ more → (0 < k → 0 < length (node_at s b).entries) → IsTree base k s low high b → IsTree base k s low more b
wider_tree base zero s low high more b h some t = (t.0, wider_ascend low high more (node_at s b).entries h t.1)
wider_tree base (suc k) s low high more b h some t = (
  t.0,
  wider_children (Under base k s) low high more (node_at s b).entries h (some (omega arith))
      (λ from c x. (wider_tree base k s from high more c h (λ _. omega (arith, x.1, least_positive (base + k))) x.0, x.1)) t.1,
)

pub wider_whole : (base k : ℕ) (s : Store) (high more b : ℕ) → high ≤ more → IsWhole base k s high b → IsWhole base k s more b
wider_whole base k s high more b h w = record {
  tree = wider_tree base k s 0 high more b h (λ up. omega (arith, w.branches up)) w.tree;
  branches = w.branches;
}

-- ---- a lower limit

abbrev pub Below : ℕ → List Entry → Type 0
Below less es = AllByRecursion (λ (e : Entry). e.key < less) es

below_left : (less : ℕ) (xs ys : List Entry) → Below less (xs ++ ys) → Below less xs
below_left less [] ys h = tt
below_left less (x ∷ xs) ys h = (h.0, below_left less xs ys h.1)

below_right : (less : ℕ) (xs ys : List Entry) → Below less (xs ++ ys) → Below less ys
below_right less [] ys h = h
below_right less (x ∷ xs) ys h = below_right less xs ys h.1

-- a tree whose root has an entry has one in its leaves, at the lower end of its interval or behind it
pub record HasFirst (low : ℕ) (es : List Entry) : Type 0 where
  pub first : Entry
  pub rest : List Entry
  pub is : es ≡ first ∷ rest
  pub behind : low ≤ first.key

first_with : (low : ℕ) (xs ys : List Entry) → HasFirst low xs → HasFirst low (xs ++ ys)
first_with low xs ys h = record { first = h.first; rest = h.rest ++ ys; is = ap (λ (zs : List Entry). zs ++ ys) h.is; behind = h.behind }

first_in_leaf : (low high : ℕ) (es : List Entry) → 0 < length es → Ascend low high es → HasFirst low es
first_in_leaf low high [] none a = absurd (omega (arith, none))
first_in_leaf low high (e ∷ es) some a = record { first = e; rest = es; is = refl; behind = a.0 }

first_in_children : (base k : ℕ) (s : Store) (low high : ℕ) (es : List Entry) → 0 < length es → ((from to c : ℕ) → Under base k s from to c → HasFirst from (pairs k s c))
    → Parted (Under base k s) low high es → HasFirst low (joined (pairs k s) es)
first_in_children base k s low high [] none first p = absurd (omega (arith, none))
first_in_children base k s low high (e ∷ es) some first p = first_with low (pairs k s e.value) (joined (pairs k s) es) (first low (first_key es high) e.value p.2)

has_first : (base k : ℕ) (s : Store) (low high b : ℕ) → 0 < length (node_at s b).entries → IsTree base k s low high b → HasFirst low (pairs k s b)
has_first base zero s low high b some t = first_in_leaf low high (node_at s b).entries some t.1
has_first base (suc k) s low high b some t =
    first_in_children base k s low high (node_at s b).entries some (λ from to c x. has_first base k s from to c (omega (arith, x.1, least_positive (base + k))) x.0) t.1

below_first : (low less : ℕ) (es : List Entry) → HasFirst low es → Below less es → low < less
below_first low less es h all = let one = (subst (Below less) h.is all).0 in omega (arith, one, h.behind)

narrow_ascend : (low high less : ℕ) (es : List Entry) → low ≤ less → Below less es → Ascend low high es → Ascend low less es
narrow_ascend low high less [] h all a = h
narrow_ascend low high less (e ∷ es) h all a = (a.0, narrow_ascend (suc e.key) high less es (omega (arith, all.0)) all.1 a.1)

-- each: what holds of the last child up to the limit holds up to the lower one
narrow_children : (base k : ℕ) (s : Store) (high less from : ℕ) (es : List Entry) → 0 < length es → Below less (joined (pairs k s) es)
    → ((low c : ℕ) → Below less (pairs k s c) → Under base k s low high c → (low < less) × Under base k s low less c)
    → Parted (Under base k s) from high es → Parted (Under base k s) from less es
narrow_children base k s high less from [] none all each p = absurd (omega (arith, none))
narrow_children base k s high less from (e ∷ []) some all each p =
    let last = each from e.value (below_left less (pairs k s e.value) (joined (pairs k s) []) all) p.2 in
    (p.0, last.0, last.1, refl)
narrow_children base k s high less from (e ∷ f ∷ es) some all each p =
    (p.0, p.1, p.2, narrow_children base k s high less f.key (f ∷ es) (omega arith) (below_right less (pairs k s e.value) (joined (pairs k s) (f ∷ es)) all) each p.3)

-- A root that is no leaf has an entry at least.
pub narrow_tree : (base k : ℕ) (s : Store) (low high less b : ℕ) → (0 < k → 0 < length (node_at s b).entries) → low ≤ less → Below less (pairs k s b)
    → IsTree base k s low high b → IsTree base k s low less b
narrow_tree base zero s low high less b some h all t = (t.0, narrow_ascend low high less (node_at s b).entries h all t.1)
narrow_tree base (suc k) s low high less b some h all t = (
  t.0,
  narrow_children base k s high less low (node_at s b).entries (some (omega arith)) all
      (λ from c below x.
      let full : 0 < length (node_at s c).entries = omega (arith, x.1, least_positive (base + k)) in
      let lt : from < less = below_first from less (pairs k s c) (has_first base k s from high c full x.0) below in
      (lt, (narrow_tree base k s from high less c (λ _. full) (omega (arith, lt)) below x.0, x.1))) t.1,
)

pub narrow_whole : (base k : ℕ) (s : Store) (high less b : ℕ) → Below less (pairs k s b) → IsWhole base k s high b → IsWhole base k s less b
narrow_whole base k s high less b all w = record {
  tree = narrow_tree base k s 0 high less b (λ up. omega (arith, w.branches up)) (omega arith) all w.tree;
  branches = w.branches;
}
