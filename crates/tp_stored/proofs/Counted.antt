-- The counts of a commit are those of the reachable nodes of its image.
use Rattle.std.proofs.Common.{◌≡◌, ℕ, zero, suc, ◌+◌, ◌<◌, ◌==◌, false, List, [], ◌∷◌, length, refl, sym, ap, subst, ◌∙◌, arith, inl, inr}
use Rattle.std.specs.Prelude.{nat_eq, nat_lt, if◌then◌else◌, sum_by, count_by}
use Rattle.std.specs.List.{AllByRecursion, IsDistinct}
use Rattle.std.proofs.lemmas.Bool.{cases_eq, cases_lt, ne_eqb}
use Rattle.std.proofs.lemmas.List.Sums.{sum_by-cons}
use Rattle.tp_model.specs.Geometry.{Geometry, fixed_part}
use Rattle.tp_model.specs.Sectors.{Sector}
use Rattle.tp_model.proofs.Counting.{counts_agree}
use Rattle.tp_layout.specs.Node.{NodeValue}
use Rattle.tp_layout.specs.declared.superblock.Superblock.{Superblock}
use Rattle.tp_image.specs.Nodes.{IsNodeAt}
use Rattle.tp_image.proofs.Uniqueness.{IsNodeAt-one}
use Rattle.tp_image.specs.Counts.{AreReachable, data_count, data_names, metadata_count, metadata_names, metadata_use}
use Rattle.tp_refs.specs.Store.{Node, Store, children, count_of, node_at, node_from, rank_of, values}
use Rattle.tp_refs.specs.Balance.{names_from, occurrences, times_named}
use Rattle.tp_refs.proofs.Steps.{counted_dead, counted_live, live_below}
use Rattle.tp_trees.proofs.Trees.{children_values, rank_inside}
use Rattle.tp_layout.specs.Super.{roots_of}
use Rattle.tp_sharing.specs.Forest.{held_refs}
use Rattle.tp_sharing.proofs.Refs.{no_children}
use Rattle.tp_stored.specs.Commit.{IsCommit, IsSound, NodesStand, fixed_blocks, held_by, use_of}
use Rattle.tp_stored.specs.Laws.{CommitsCount, CountsAreTrue}
use Rattle.tp_stored.proofs.Members.{Among, among_contains, contains_among}
use Rattle.tp_stored.proofs.Naming.{data_values, in_fixed, is_root, metadata_entries, metadata_values, owns, rank_from, sum_agree, sum_owns}
use Rattle.tp_stored.proofs.Ranges.{behind}
use Rattle.tp_stored.proofs.Reachable.{LiveNode, from_block, live_reachable, named_live, reachable_live, ref_parts, root_rank, rooted, store_node}

distinct_next : (b : ℕ) (ns : List NodeValue) → ((n : NodeValue) → Among n ns → n.own < b) → AllByRecursion (λ y. nat_eq b y ≡ false) (owns ns)
distinct_next b [] h = tt
distinct_next b (n ∷ ns) h = (ne_eqb b n.own (λ e. absurd (omega (arith, e, h n (inl refl)))), distinct_next b ns (λ x k. h x (inr k)))

-- how often a root is counted
pub counted_roots : (b : ℕ) (xs : List ℕ) → occurrences b xs ≡ count_by (λ r. b == r) xs
counted_roots b [] = refl
counted_roots b (x ∷ xs) =
    (let s : occurrences b (x ∷ xs) ≡ (if b == x then 1 else 0) + count_by (λ r. b == r) xs = omega (arith, is_root x b, counted_roots b xs) in s)
    ∙ sym (sum_by-cons (λ r. if b == r then 1 else 0) x xs)

module _ (g : Geometry) (image : List Sector) (root held : ℕ) (s : Store) (sound : IsSound g root held s) (stand : NodesStand g image s) where
  abbrev m : ℕ
  m = g.metadata_blocks

  abbrev Live : NodeValue → Type 0
  Live n = LiveNode image s n

  abbrev roots : List ℕ
  roots = root ∷ held_refs held

  -- ---- the list of the reachable nodes

  -- those in the blocks below b
  record Gathered (b : ℕ) (ns : List NodeValue) : Type 0 where
    all : (n : NodeValue) → n.own < b → Live n → Among n ns
    only : (n : NodeValue) → Among n ns → (n.own < b) × Live n
    once : IsDistinct nat_eq (owns ns)

  skipped : (b : ℕ) (ns : List NodeValue) → Gathered b ns → ((n : NodeValue) → n.own ≡ b → Live n → ⊥) → Gathered (suc b) ns
  skipped b ns r none = record {
    all = λ n lt l. elim (cases_eq n.own b) [
      | inl e ↦ absurd (none n e l)
      | inr d ↦ r.all n (omega (arith, lt, d)) l
    ];
    only = λ n k. let o = r.only n k in (omega (arith, o.0), o.1);
    once = r.once;
  }

  added : (b : ℕ) (ns : List NodeValue) (n : NodeValue) → Gathered b ns → n.own ≡ b → Live n → Gathered (suc b) (n ∷ ns)
  unfolding IsDistinct
  added b ns n r e l = record {
    all = λ x lt k. elim (cases_eq x.own b) [
      | inl p ↦ inl (IsNodeAt-one image n.own n x l.here (subst (λ y. IsNodeAt image y x) (p ∙ sym e) k.here))
      | inr d ↦ inr (r.all x (omega (arith, lt, d)) k)
    ];
    only = only;
    once = (subst (λ y. AllByRecursion (λ z. nat_eq y z ≡ false) (owns ns)) (sym e) (distinct_next b ns (λ x k. (r.only x k).0)), r.once);
  }
    where
      only : (x : NodeValue) → Among x (n ∷ ns) → (x.own < suc b) × Live x
      only x (inl p) = subst (λ (y : NodeValue). (y.own < suc b) × Live y) p (omega (arith, e), l)
      only x (inr k) = let o = r.only x k in (omega (arith, o.0), o.1)

  gathered : (b : ℕ) → (ns : List NodeValue) × Gathered b ns
  unfolding IsDistinct
  gathered zero = ([], record { all = λ n lt l. absurd (omega arith); only = λ n k. absurd k; once = tt })
  gathered (suc b) =
      let r = gathered b in
      elim (cases_lt 0 (count_of s b)) [
        | inl live ↦ elim (cases_lt 0 (node_at s b).rank) [
          | inl inner ↦ let t = stand b live inner in (t.0 ∷ r.0, added b r.0 t.0 r.1 t.1.0.own (from_block image s b t.0 live inner t.1.0))
          | inr bare ↦ (r.0, skipped b r.0 r.1 (λ n e l. let k : (node_at s n.own).rank ≡ (node_at s b).rank = ap (λ x. (node_at s x).rank) e in omega (arith, bare, l.inner, k)))
        ]
        | inr dead ↦ (r.0, skipped b r.0 r.1 (λ n e l. let k : count_of s n.own ≡ count_of s b = ap (count_of s) e in omega (arith, dead, l.live, k)))
      ]

  own_below : (n : NodeValue) → Live n → n.own < m
  own_below n l = omega (arith, rank_inside s n.own l.inner, sound.sized)

  pub reachable_nodes : (ns : List NodeValue) × AreReachable image roots ns
  reachable_nodes =
      let r = gathered m in (
        r.0,
        record {
          all = λ n h. let l = reachable_live g image root held s sound stand n h in among_contains n r.0 (r.1.all n (own_below n l) l);
          only = λ n h. live_reachable g image root held s sound stand n (r.1.only n (contains_among n r.0 h)).1;
          once = r.1.once;
        },
      )

  -- ---- what the store counts

  live_names : (x : ℕ) (n : NodeValue) → Live n → names_from s [] x n.own ≡ occurrences x (values (node_at s n.own).entries)
  live_names x n l =
      counted_live (count_of s n.own) 0 (occurrences x (children (node_at s n.own))) l.live refl ∙ ap (occurrences x) (children_values (node_at s n.own) l.inner)

  metadata_each : (b : ℕ) → b < m → (n : NodeValue) → Live n → count_by (λ x. x == b) (metadata_names n) ≡ names_from s [] b n.own
  metadata_each b lt n l = metadata_values m b lt n ∙ sym (live_names b n l ∙ ap (λ (y : Node). occurrences b (values y.entries)) (store_node g image s (held_by g root held) sound.balanced stand n l))

  data_each : (p : ℕ) (n : NodeValue) → Live n → count_by (λ x. x == p) (data_names n) ≡ names_from s [] (m + p) n.own
  data_each p n l =
      let is = store_node g image s (held_by g root held) sound.balanced stand n l in
      data_values m p n (λ d. ap (λ es. occurrences (m + p) (values es)) (sym (metadata_entries m (node_at s n.own) n is d)) ∙ none d.2 is)
      ∙ sym (live_names (m + p) n l ∙ ap (λ (y : Node). occurrences (m + p) (values y.entries)) is)
    where
      none : 1 < rank_of n.kind n.level → node_at s n.own ≡ node_from m n → occurrences (m + p) (values (node_at s n.own).entries) ≡ 0
      none high is =
          elim (cases_lt 0 (occurrences (m + p) (values (node_at s n.own).entries))) [
            | inl h ↦
                let k : 0 < occurrences (m + p) (children (node_at s n.own)) = subst (λ xs. 0 < occurrences (m + p) xs) (sym (children_values (node_at s n.own) l.inner)) h in
                let c = named_live g image s (held_by g root held) sound.balanced stand n.own (m + p) l.live (omega (arith, high, rank_from m (node_at s n.own) n is)) k in
                absurd (omega (arith, rank_inside s (m + p) c.1, sound.sized))
            | inr z ↦ omega arith
          ]

  -- a block without a reachable node names nothing
  nothing_from : (ns : List NodeValue) → AreReachable image roots ns → (x c : ℕ) → ((n : NodeValue) → Among n ns → n.own ≡ c → ⊥) → names_from s [] x c ≡ 0
  nothing_from ns are x c none =
      elim (cases_lt 0 (count_of s c)) [
        | inl live ↦ elim (cases_lt 0 (node_at s c).rank) [
          | inl inner ↦
              let t = stand c live inner in
              let h = live_reachable g image root held s sound stand t.0 (from_block image s c t.0 live inner t.1.0) in
              absurd (none t.0 (contains_among t.0 ns (are.all t.0 h)) t.1.0.own)
          | inr bare ↦
              counted_live (count_of s c) 0 (occurrences x (children (node_at s c))) live refl ∙ ap (occurrences x) (no_children (node_at s c) (omega (arith, bare)))
        ]
        | inr dead ↦ counted_dead (count_of s c) 0 (occurrences x (children (node_at s c))) (omega (arith, dead))
      ]

  live_of : (ns : List NodeValue) → AreReachable image roots ns → (n : NodeValue) → Among n ns → Live n
  live_of ns are n k = reachable_live g image root held s sound stand n (are.only n (among_contains n ns k))

  -- so the names of reachable nodes are those that the store counts
  named_alike : (ns : List NodeValue) → AreReachable image roots ns → (x : ℕ) (f : NodeValue → ℕ) → ((n : NodeValue) → Live n → f n ≡ names_from s [] x n.own) → sum_by f ns ≡ times_named s [] x
  unfolding times_named
  named_alike ns are x f each =
      sum_agree f (λ n. names_from s [] x n.own) ns (λ n k. each n (live_of ns are n k))
      ∙ sum_owns (names_from s [] x) (length s.counts) ns are.once (λ n k. live_below s n.own (live_of ns are n k).live) (λ c l none. nothing_from ns are x c none)

  pub metadata_counted : (ns : List NodeValue) → AreReachable image roots ns → (b : ℕ) → b < m → count_of s b ≡ metadata_count g roots ns b
  metadata_counted ns are b lt =
      let named : sum_by (λ n. count_by (λ x. x == b) (metadata_names n)) ns ≡ times_named s [] b = named_alike ns are b (λ n. count_by (λ x. x == b) (metadata_names n)) (metadata_each b lt) in
      let fixed : occurrences b (fixed_blocks g) ≡ (if nat_lt b (fixed_part g) then 1 else 0) = in_fixed (fixed_part g) b in
      let of_roots : occurrences b roots ≡ count_by (λ r. b == r) roots = counted_roots b roots in
      omega (arith, named, fixed, of_roots, sound.balanced.true b, ref_parts g image root held s sound stand b)

  pub data_counted : (ns : List NodeValue) → AreReachable image roots ns → (p : ℕ) → count_of s (m + p) ≡ data_count ns p
  data_counted ns are p =
      let named : sum_by (λ n. count_by (λ x. x == p) (data_names n)) ns ≡ times_named s [] (m + p) = named_alike ns are (m + p) (λ n. count_by (λ x. x == p) (data_names n)) (data_each p) in
      let fixed : occurrences (m + p) (fixed_blocks g) ≡ 0 = behind (m + p) 0 (fixed_part g) (omega (arith, sound.limits.metadata_least)) in
      let none : occurrences (m + p) roots ≡ 0 = elim (cases_lt 0 (occurrences (m + p) roots)) [
        | inl h ↦ absurd (omega (arith, rank_inside s (m + p) (root_rank g image (held_by g root held) (m + p) s (rooted g image root held s sound stand (m + p) h) stand), sound.sized))
        | inr z ↦ omega arith
      ] in
      omega (arith, named, fixed, none, sound.balanced.true (m + p), ref_parts g image root held s sound stand (m + p))

  pub use_is : (ns : List NodeValue) → AreReachable image roots ns → use_of g s ≡ metadata_use g roots ns
  use_is ns are = counts_agree (λ b. nat_lt 0 (count_of s b)) (λ b. nat_lt 0 (metadata_count g roots ns b)) m (λ b lt. ap (nat_lt 0) (metadata_counted ns are b lt))

module _ (image : List Sector) (superblock : Superblock) (s : Store) (commit : IsCommit image superblock s) where
  commit_counts : (ns : List NodeValue) × AreReachable image (roots_of superblock) ns × CountsAreTrue image superblock s ns
  commit_counts =
      let g = superblock.geometry in
      let r = reachable_nodes g image superblock.root superblock.held_root s commit.sound commit.nodes in (
        r.0,
        r.1,
        record {
          metadata = λ b lt. metadata_counted g image superblock.root superblock.held_root s commit.sound commit.nodes r.0 r.1 b lt;
          others = λ p lt. data_counted g image superblock.root superblock.held_root s commit.sound commit.nodes r.0 r.1 p;
        },
      )

pub commits_count : CommitsCount
commits_count = commit_counts
