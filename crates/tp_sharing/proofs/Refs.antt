-- Counts of 2 and more, and what names a block.
use Rattle.std.proofs.Common.{◌≡◌, ◌≢◌, ℕ, zero, suc, ◌+◌, ◌<◌, ◌≤◌, List, [], length, get_or, refl, sym, ap, subst, ◌∙◌, arith, inl, inr}
use Rattle.std.proofs.lemmas.Bool.{cases_lt, cases_eq}
use Rattle.tp_refs.specs.Store.{Node, Store, count_of, node_at, children, named_by, values}
use Rattle.tp_refs.specs.Balance.{occurrences, sum_below, names_from, times_named, Balanced}
use Rattle.tp_refs.proofs.Reach.{counted_from}
use Rattle.tp_refs.proofs.Sums.{some_term, term_le}
use Rattle.tp_refs.proofs.Steps.{counted_live, live_below, child_live}
use Rattle.tp_trees.specs.Tree.{blank}
use Rattle.tp_trees.proofs.Trees.{children_values}
use Rattle.tp_sharing.proofs.Lists.{occurrences_one, occurrences_two, occurrences_place, occurrences_other}

-- two terms are at most a sum together
two_terms : (f : ℕ → ℕ) (n i j : ℕ) → i < n → j < n → i ≢ j → f i + f j ≤ sum_below f n
unfolding sum_below
two_terms f zero i j a b ne = absurd (omega arith)
two_terms f (suc n) i j a b ne =
    elim (cases_eq i n) [
      | inl p ↦ let e : f i ≡ f n = ap f p in let l : f j ≤ sum_below f n = term_le f n j (omega (arith, ne)) in omega arith
      | inr d ↦ elim (cases_eq j n) [
        | inl p ↦ let e : f j ≡ f n = ap f p in let l : f i ≤ sum_below f n = term_le f n i (omega (arith, d)) in omega arith
        | inr d2 ↦ omega (arith, two_terms f n i j (omega (arith, d)) (omega (arith, d2)) ne)
      ]
    ]

-- a sum over one of its terms has another term over 0
other_term : (f : ℕ → ℕ) (n j : ℕ) → f j < sum_below f n → (i : ℕ) × (i ≢ j) × (0 < f i)
unfolding sum_below
other_term f zero j h = absurd (omega arith)
other_term f (suc n) j h =
    elim (cases_eq n j) [
      | inl p ↦
          let e : f n ≡ f j = ap f p in
          let r = some_term f n (omega arith) in
          (r.0, λ q. absurd (omega (arith, q, p, r.1.0)), r.1.1)
      | inr d ↦ elim (cases_lt 0 (f n)) [
        | inl p ↦ (n, d, p)
        | inr z ↦ other_term f n j (omega arith)
      ]
    ]

-- the entry at place i of the live node c names x
pub record Names (s : Store) (c i x : ℕ) : Type 0 where
  pub live : 0 < count_of s c
  pub inner : (node_at s c).rank ≢ 0
  pub within : i < length (node_at s c).entries
  pub is : (get_or (node_at s c).entries i blank).value ≡ x

-- no node has no children
pub no_children : (n : Node) → n.rank ≡ 0 → children n ≡ []
no_children n h = ap (λ rank. named_by rank n.entries) h

children_are : (s : Store) (c : ℕ) → (node_at s c).rank ≢ 0 → children (node_at s c) ≡ values (node_at s c).entries
children_are s c h = children_values (node_at s c) (omega (arith, h))

pub names_child : (s : Store) (c i x : ℕ) → Names s c i x → 0 < occurrences x (children (node_at s c))
names_child s c i x n = subst (λ xs. 0 < occurrences x xs) (sym (children_are s c n.inner)) (occurrences_one x i (node_at s c).entries n.within n.is)

pub names_live : (s : Store) (hs : List ℕ) (c i x : ℕ) → Balanced s [] hs → Names s c i x → 0 < count_of s x
names_live s hs c i x h n = child_live s [] hs c x h n.live refl (names_child s c i x n)

pub names_lower : (s : Store) (hs : List ℕ) (c i x : ℕ) → Balanced s [] hs → Names s c i x → (node_at s x).rank < (node_at s c).rank
names_lower s hs c i x h n = (h.ranks c x n.live refl (names_child s c i x n)).below

-- a child of a node, by its place
pub child_place : (s : Store) (c x : ℕ) → 0 < count_of s c → 0 < occurrences x (children (node_at s c)) → (i : ℕ) × Names s c i x
child_place s c x live here =
    let inner : (node_at s c).rank ≢ 0 = λ z. let e : occurrences x (children (node_at s c)) ≡ 0 = ap (occurrences x) (no_children (node_at s c) z) in absurd (omega arith) in
    let r = occurrences_place x (node_at s c).entries (subst (λ xs. 0 < occurrences x xs) (children_are s c inner) here) in
    (r.0, record { live = live; inner = inner; within = r.1; is = r.2 })

names_from_is : (s : Store) (c i x : ℕ) → Names s c i x → names_from s [] x c ≡ occurrences x (values (node_at s c).entries)
names_from_is s c i x n = counted_live (count_of s c) 0 (occurrences x (children (node_at s c))) n.live refl ∙ ap (occurrences x) (children_are s c n.inner)

-- two entries that name a block
pub two_refs : (s : Store) (hs : List ℕ) (c i d j x : ℕ) → Balanced s [] hs → Names s c i x → Names s d j x → (((c ≡ d) × (i ≡ j)) → ⊥) → 2 ≤ count_of s x
unfolding times_named
two_refs s hs c i d j x h m n apart =
    let em = names_from_is s c i x m in
    let en = names_from_is s d j x n in
    elim (cases_eq c d) [
      | inl p ↦
          let two : 2 ≤ occurrences x (values (node_at s c).entries) =
          occurrences_two x i j (node_at s c).entries m.within (subst (λ b. j < length (node_at s b).entries) (sym p) n.within) (λ e. apart (p, e)) m.is (ap (λ b. (get_or (node_at s b).entries j blank).value) p ∙ n.is) in
          let l : names_from s [] x c ≤ sum_below (names_from s [] x) (length s.counts) = term_le (names_from s [] x) (length s.counts) c (live_below s c m.live) in
          omega (arith, h.true x, em)
      | inr ne ↦
          let l : names_from s [] x c + names_from s [] x d ≤ sum_below (names_from s [] x) (length s.counts) =
          two_terms (names_from s [] x) (length s.counts) c d (live_below s c m.live) (live_below s d n.live) ne in
          omega (arith, h.true x, em, en, occurrences_one x i (node_at s c).entries m.within m.is, occurrences_one x j (node_at s d).entries n.within n.is)
    ]

-- another entry that names a block which is not held
pub other_ref : (s : Store) (hs : List ℕ) (c i x : ℕ) → Balanced s [] hs → Names s c i x → occurrences x hs ≡ 0 → 2 ≤ count_of s x → (d j : ℕ) × Names s d j x × (((d ≡ c) × (j ≡ i)) → ⊥)
unfolding times_named
other_ref s hs c i x h n free two =
    let en = names_from_is s c i x n in
    elim (cases_lt 1 (occurrences x (values (node_at s c).entries))) [
      | inl more ↦
          let r = occurrences_other x i (node_at s c).entries (omega arith) in
          (c, r.0, record { live = n.live; inner = n.inner; within = r.1; is = r.2 }, λ e. r.3 e.1)
      | inr less ↦
          let t = other_term (names_from s [] x) (length s.counts) c (omega (arith, h.true x, en)) in
          let d = counted_from (count_of s t.0) 0 (occurrences x (children (node_at s t.0))) t.2 in
          let p = child_place s t.0 x d.0 d.1.1 in
          (t.0, p.0, p.1, λ e. t.1 e.0)
    ]
