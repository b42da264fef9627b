-- What stays below a rank, over each step of the store and over several.
use Rattle.std.proofs.Common.{◌≡◌, ℕ, zero, suc, ◌+◌, ◌<◌, ◌≤◌, ◌⊎◌, List, [], ◌∷◌, ◌++◌, length, get_or, refl, sym, ap, subst, ◌∙◌, arith, inl, inr, get_or-set_other}
use Rattle.std.proofs.lemmas.Bool.{cases_lt, cases_eq}
use Rattle.std.proofs.lemmas.List.{get_or_past}
use Rattle.tp_refs.specs.Store.{Node, Store, count_of, node_at, children, with_count, with_node, no_node}
use Rattle.tp_refs.specs.Balance.{occurrences, counted, names_from, times_named, Balanced, LowerStay, SameNodes}
use Rattle.tp_refs.specs.Lower.{LowerLast}
use Rattle.tp_refs.specs.Reach.{HasTop}
use Rattle.tp_refs.proofs.Sums.{some_term}
use Rattle.tp_refs.proofs.Steps.{one_same, one_other, occurrences-append, live_below, count_same, count_other, child_live, child_closed, held_live, held_closed}
use Rattle.tp_refs.proofs.Children.{same_node}

-- the same blocks open before and after
pub stay_from_last : (rank : ℕ) (os ps : List ℕ) (s t : Store) → LowerLast rank os ps s t → LowerStay rank os s t
stay_from_last rank os ps s t h = record { nodes = h.nodes; live = h.live }

pub last_from_stay : (rank : ℕ) (os : List ℕ) (s t : Store) → LowerStay rank os s t → LowerLast rank os os s t
last_from_stay rank os s t h = record { nodes = h.nodes; live = h.live; closed = λ b live closed less. closed }

pub last_refl : (rank : ℕ) (os : List ℕ) (s : Store) → LowerLast rank os os s s
last_refl rank os s = record { nodes = λ b live closed less. refl; live = λ b live closed less. live; closed = λ b live closed less. closed }

-- two steps, one after the other
pub last_trans : (rank : ℕ) (os ps qs : List ℕ) (s t u : Store) → LowerLast rank os ps s t → LowerLast rank ps qs t u → LowerLast rank os qs s u
last_trans rank os ps qs s t u p q =
    let less = λ (b : ℕ) (live : 0 < count_of s b) (closed : occurrences b os ≡ 0) (l : (node_at s b).rank < rank). subst (λ (n : Node). n.rank < rank) (sym (p.nodes b live closed l)) l in
    record {
      nodes = λ b live closed l. q.nodes b (p.live b live closed l) (p.closed b live closed l) (less b live closed l) ∙ p.nodes b live closed l;
      live = λ b live closed l. q.live b (p.live b live closed l) (p.closed b live closed l) (less b live closed l);
      closed = λ b live closed l. q.closed b (p.live b live closed l) (p.closed b live closed l) (less b live closed l);
    }

pub stay_refl : (rank : ℕ) (os : List ℕ) (s : Store) → LowerStay rank os s s
stay_refl rank os s = stay_from_last rank os os s s (last_refl rank os s)

pub stay_trans : (rank : ℕ) (os : List ℕ) (s t u : Store) → LowerStay rank os s t → LowerStay rank os t u → LowerStay rank os s u
stay_trans rank os s t u p q = stay_from_last rank os os s u (last_trans rank os os os s t u (last_from_stay rank os s t p) (last_from_stay rank os t u q))

-- what stays below a rank stays below a lower one
pub last_lower : (rank less : ℕ) (os ps : List ℕ) (s t : Store) → less ≤ rank → LowerLast rank os ps s t → LowerLast less os ps s t
last_lower rank less os ps s t le h = record {
  nodes = λ b live closed l. h.nodes b live closed (omega arith);
  live = λ b live closed l. h.live b live closed (omega arith);
  closed = λ b live closed l. h.closed b live closed (omega arith);
}

pub stay_lower : (rank less : ℕ) (os : List ℕ) (s t : Store) → less ≤ rank → LowerStay rank os s t → LowerStay less os s t
stay_lower rank less os s t le h = record { nodes = λ b live closed l. h.nodes b live closed (omega arith); live = λ b live closed l. h.live b live closed (omega arith) }

-- An open block is written, and closed or left open.
pub last_written : (rank : ℕ) (os : List ℕ) (s : Store) (x : ℕ) (n : Node) → LowerLast rank (x ∷ os) os s (with_node s x n)
last_written rank os s x n = record {
  nodes = λ b live closed l. get_or-set_other s.nodes x b n no_node (λ e. let o : occurrences b (b ∷ os) ≡ 0 = subst (λ y. occurrences b (y ∷ os) ≡ 0) (sym e) closed in absurd (omega (arith, one_same b b refl)));
  live = λ b live closed l. live;
  closed = λ b live closed l. omega arith;
}

-- A block without references is taken, and is open.
pub last_taken : (rank : ℕ) (os : List ℕ) (s : Store) (x n : ℕ) → count_of s x ≡ 0 → LowerLast rank os (x ∷ os) s (with_count s x n)
last_taken rank os s x n free =
    let other = λ (b : ℕ) (live : 0 < count_of s b) (e : b ≡ x). let z : count_of s b ≡ 0 = ap (count_of s) e ∙ free in let v : ⊥ = omega arith in v in
    record {
      nodes = λ b live closed l. refl;
      live = λ b live closed l. subst (λ m. 0 < m) (sym (count_other s x n b (other b live))) live;
      closed = λ b live closed l. omega (arith, one_other x b (λ e. other b live (sym e)));
    }

-- An open block is given up without being written.
pub last_abandoned : (rank : ℕ) (os : List ℕ) (s : Store) (x n : ℕ) → LowerLast rank (x ∷ os) os s (with_count s x n)
last_abandoned rank os s x n =
    let other = λ (b : ℕ) (closed : occurrences b (x ∷ os) ≡ 0) (e : b ≡ x). let z : occurrences b (b ∷ os) ≡ 0 = subst (λ y. occurrences b (y ∷ os) ≡ 0) (sym e) closed in let v : ⊥ = omega (arith, one_same b b refl) in v in
    record {
      nodes = λ b live closed l. refl;
      live = λ b live closed l. subst (λ m. 0 < m) (sym (count_other s x n b (other b closed))) live;
      closed = λ b live closed l. omega arith;
    }

-- The count of a block becomes another that is not 0.
pub last_counted : (rank : ℕ) (os : List ℕ) (s : Store) (x n : ℕ) → 0 < n → LowerLast rank os os s (with_count s x n)
last_counted rank os s x n pos = record {
  nodes = λ b live closed l. refl;
  live = λ b live closed l. elim (cases_eq b x) [
    | inl e ↦ subst (λ m. 0 < m) (sym (ap (count_of (with_count s x n)) e ∙ count_same s x n (live_below s x (subst (λ y. 0 < count_of s y) e live)))) pos
    | inr d ↦ subst (λ m. 0 < m) (sym (count_other s x n b d)) live
  ];
  closed = λ b live closed l. closed;
}

-- Other counts, of which none below the rank falls to 0.
pub stay_counts : (rank : ℕ) (os : List ℕ) (s t : Store) → SameNodes s t → ((b : ℕ) → 0 < count_of s b → (node_at s b).rank < rank → 0 < count_of t b) → LowerStay rank os s t
stay_counts rank os s t same live = record { nodes = λ b l closed less. same_node s t same b; live = λ b l closed less. live b l less }

-- ---- other references are held, and no node was written

counted_from : (n o x : ℕ) → 0 < counted n o x → (0 < n) × ((o ≡ 0) × (0 < x))
counted_from zero o x h = absurd (omega arith)
counted_from (suc n) zero x h = (omega arith, (refl, h))
counted_from (suc n) (suc o) x h = absurd (omega arith)

-- what names a block
pub namer : (s : Store) (os : List ℕ) (b : ℕ) → 0 < times_named s os b → (c : ℕ) × ((0 < count_of s c) × ((occurrences c os ≡ 0) × (0 < occurrences b (children (node_at s c)))))
unfolding times_named
namer s os b h =
    let r = some_term (names_from s os b) (length s.counts) h in
    (r.0, counted_from (count_of s r.0) (occurrences r.0 os) (occurrences b (children (node_at s r.0))) r.1.1)

-- no rank is greater than the greatest of a list of nodes
top_of : (ns : List Node) → (top : ℕ) × ((b : ℕ) → (get_or ns b no_node).rank < top)
top_of [] = (1, λ b. subst (λ (n : Node). n.rank < 1) (sym (get_or_past [] b no_node (omega arith))) (omega arith))
top_of (n ∷ ns) =
    let r = top_of ns in (r.0 + suc n.rank, below r.0 r.1)
  where
    below : (top : ℕ) → ((b : ℕ) → (get_or ns b no_node).rank < top) → (b : ℕ) → (get_or (n ∷ ns) b no_node).rank < top + suc n.rank
    below top h zero = omega arith
    below top h (suc b) = omega (arith, h b)

pub has_top : (s : Store) → (top : ℕ) × HasTop s top
has_top s = top_of s.nodes

-- Each reference held before is held still, or those of its node are in its place: then what is live and not open below
-- the ranks of such nodes is so still.
module _ (rank : ℕ) (s t : Store) (os ps hs gs : List ℕ) (was : Balanced s os hs) (now : Balanced t ps gs) (same : SameNodes s t)
    (passed : (r : ℕ) → 0 < occurrences r hs → (0 < occurrences r gs) ⊎ ((rank ≤ (node_at s r).rank) × ((c : ℕ) → 0 < occurrences c (children (node_at s r)) → 0 < occurrences c gs))) where
  abbrev Fine : ℕ → Type 0
  Fine b = (0 < count_of t b) × (occurrences b ps ≡ 0)

  held_fine : (b : ℕ) → 0 < occurrences b gs → Fine b
  held_fine b here = (held_live t ps gs b now here, held_closed t ps gs b now here)

  child_fine : (b c : ℕ) → Fine b → 0 < occurrences c (children (node_at s b)) → Fine c
  child_fine b c h here =
      let there : 0 < occurrences c (children (node_at t b)) = subst (λ (n : Node). 0 < occurrences c (children n)) (sym (same_node s t same b)) here in
      (child_live t ps gs b c now h.0 h.1 there, child_closed t ps gs b c now h.0 h.1 there)

  reach_up : (fuel top b : ℕ) → HasTop s top → top ≤ fuel + (node_at s b).rank → 0 < count_of s b → occurrences b os ≡ 0
      → Fine b ⊎ ((rank ≤ (node_at s b).rank) × ((c : ℕ) → 0 < occurrences c (children (node_at s b)) → Fine c))
  reach_up zero top b bound far live closed = absurd (omega (arith, bound b))
  reach_up (suc fuel) top b bound far live closed =
      elim (cases_lt 0 (occurrences b hs)) [
        | inl p ↦ elim (passed b p) [
          | inl here ↦ inl (held_fine b here)
          | inr away ↦ inr (away.0, λ c here. held_fine c (away.1 c here))
        ]
        | inr z ↦
            let r = namer s os b (omega (arith, was.true b)) in
            let l : (node_at s b).rank < (node_at s r.0).rank = (was.ranks r.0 b r.1.0 r.1.1.0 r.1.1.1).below in
            elim (reach_up fuel top r.0 bound (omega arith) r.1.0 r.1.1.0) [
              | inl fine ↦ inl (child_fine r.0 b fine r.1.1.1)
              | inr spilled ↦ inl (spilled.1 b r.1.1.1)
            ]
      ]

  still_fine : (b : ℕ) → 0 < count_of s b → occurrences b os ≡ 0 → (node_at s b).rank < rank → Fine b
  still_fine b live closed less =
      let top = has_top s in
      elim (reach_up top.0 top.0 b top.1 (omega arith) live closed) [
        | inl fine ↦ fine
        | inr spilled ↦ absurd (omega (arith, spilled.0))
      ]

  pub last_passed : LowerLast rank os ps s t
  last_passed = record {
    nodes = λ b live closed less. same_node s t same b;
    live = λ b live closed less. (still_fine b live closed less).0;
    closed = λ b live closed less. (still_fine b live closed less).1;
  }

-- A reference to a node becomes an open block, and references to what the node names.
pub last_opened : (rank : ℕ) (s t : Store) (os hs : List ℕ) (b at : ℕ) → Balanced s os (b ∷ hs) → Balanced t (at ∷ os) (children (node_at s b) ++ hs) → SameNodes s t
    → rank ≤ (node_at s b).rank → LowerLast rank os (at ∷ os) s t
last_opened rank s t os hs b at was now same high =
    last_passed rank s t os (at ∷ os) (b ∷ hs) (children (node_at s b) ++ hs) was now same (λ r here.
    elim (cases_eq r b) [
      | inl e ↦ inr (
        subst (λ x. rank ≤ (node_at s x).rank) (sym e) high,
        λ c inside.
            let j : occurrences c (children (node_at s r)) ≡ occurrences c (children (node_at s b)) = ap (λ x. occurrences c (children (node_at s x))) e in
            omega (arith, occurrences-append c (children (node_at s b)) hs),
      )
      | inr d ↦ inl (omega (arith, one_other b r (λ e. d (sym e)), occurrences-append r (children (node_at s b)) hs))
    ])

-- A reference to a node is given up, where all that the node names is held.
pub last_given_up : (rank : ℕ) (s t : Store) (os hs : List ℕ) (b : ℕ) → Balanced s os (b ∷ hs) → Balanced t os hs → SameNodes s t
    → rank ≤ (node_at s b).rank → ((c : ℕ) → 0 < occurrences c (children (node_at s b)) → 0 < occurrences c hs) → LowerLast rank os os s t
last_given_up rank s t os hs b was now same high kept =
    last_passed rank s t os os (b ∷ hs) hs was now same (λ r here.
    elim (cases_eq r b) [
      | inl e ↦ inr (subst (λ x. rank ≤ (node_at s x).rank) (sym e) high, λ c inside. kept c (subst (λ x. 0 < occurrences c (children (node_at s x))) e inside))
      | inr d ↦ inl (omega (arith, one_other b r (λ e. d (sym e))))
    ])

-- A reference to a node becomes references to what the node names.
pub last_passed_on : (rank : ℕ) (s t : Store) (os hs : List ℕ) (b : ℕ) → Balanced s os (b ∷ hs) → Balanced t os (children (node_at s b) ++ hs) → SameNodes s t
    → rank ≤ (node_at s b).rank → LowerLast rank os os s t
last_passed_on rank s t os hs b was now same high =
    last_passed rank s t os os (b ∷ hs) (children (node_at s b) ++ hs) was now same (λ r here.
    elim (cases_eq r b) [
      | inl e ↦ inr (
        subst (λ x. rank ≤ (node_at s x).rank) (sym e) high,
        λ c inside.
            let j : occurrences c (children (node_at s r)) ≡ occurrences c (children (node_at s b)) = ap (λ x. occurrences c (children (node_at s x))) e in
            omega (arith, occurrences-append c (children (node_at s b)) hs),
      )
      | inr d ↦ inl (omega (arith, one_other b r (λ e. d (sym e)), occurrences-append r (children (node_at s b)) hs))
    ])
