-- A clean image is that of a commit: the store that it has is sound.
use Rattle.std.proofs.Common.{◌≡◌, ◌⊎◌, ℕ, zero, suc, ◌+◌, ◌-◌, ◌<◌, ◌≤◌, ◌==◌, Bool, true, false, List, [], ◌∷◌, ◌++◌, length, map, refl, sym, ap, subst, ◌∙◌, arith, inl, inr, length-append, Option, None, Some, option_map}
use Rattle.std.specs.Prelude.{◌^◌, Contains, if◌then◌else◌, nat_lt, slice_index, sum_by, count_by}
use Rattle.std.proofs.lemmas.Bool.{cases_eq, cases_lt, eq-eqb, false≢true, ne_eqb}
use Rattle.std.proofs.lemmas.List.{get_or-append_right, get_or_append_left, get_or_past, length-map}
use Rattle.std.proofs.lemmas.List.FromFn.{length-map-range_with_len}
use Rattle.tp_model.specs.Geometry.{Geometry, IsTreeBlock, IsWithinLimits, fixed_part}
use Rattle.tp_model.specs.Told.{IsToldSize, told_blocks}
use Rattle.tp_model.specs.Sectors.{Sector}
use Rattle.tp_layout.specs.Node.{NodeValue, is_long, most_entries, most_level}
use Rattle.tp_layout.specs.Entries.{Ascend, found}
use Rattle.tp_layout.specs.declared.counts.Part.{Part}
use Rattle.tp_layout.specs.declared.counts.Part.TheVariants.{Data, Metadata}
use Rattle.tp_layout.specs.declared.entry.Entry.{Entry}
use Rattle.tp_layout.specs.declared.kind.TreeKind.{TreeKind}
use Rattle.tp_layout.specs.declared.kind.TreeKind.TheVariants.{Device, Mapping}
use Rattle.tp_layout.specs.declared.superblock.Version.{Version}
use Rattle.tp_layout.specs.declared.superblock.Version.TheVariants.{OneSize, OwnSizes}
use Rattle.tp_layout.proofs.Ordered.{ascend_from_increasing, found_key}
use Rattle.tp_image.specs.Areas.{blocks_of}
use Rattle.tp_image.specs.Clean.{IsClean, true_count}
use Rattle.tp_image.specs.Nodes.{IsNodeAt, LeadsTo, ends, goes}
use Rattle.tp_image.specs.Counts.{AreReachable, IsReachable, data_count, data_names, is_naming_data, itself, metadata_count, metadata_names, through}
use Rattle.tp_image.specs.Rules as rules
use Rattle.tp_image.specs.Rules.{BeginsAt, Children, IsContent, IsInRange, IsRecordSize, IsWholeTree, Joined, KeepTheRules, KeepsRules}
use Rattle.tp_image.proofs.Uniqueness.{IsNodeAt-one}
use Rattle.tp_refs.specs.Store.{MayName, Node, Store, children, count_of, first_named, moved_by, no_node, node_at, node_from, rank_of, values}
use Rattle.tp_refs.specs.Balance.{Balanced, counted, names_from, occurrences, times_named}
use Rattle.tp_refs.proofs.Moved.{moved-append, moved_ascend}
use Rattle.tp_refs.proofs.Steps.{counted_live, occurrences-append}
use Rattle.tp_trees.specs.Tree as trees
use Rattle.tp_trees.specs.Tree.{IsWhole, Parted, joined, pairs}
use Rattle.tp_trees.proofs.Limits.{wider_whole}
use Rattle.tp_trees.proofs.Trees.{ascend_tree, children_values, tree_rank}
use Rattle.tp_sharing.specs.Forest.{Forest, HeldForest, IsVolume, content, held_refs}
use Rattle.tp_sharing.specs.Volumes.{AreSized, Volumes, as_copy, copies_below, device_from, size_of, slot_of, volumes_below, volumes_of}
use Rattle.tp_sharing.proofs.Copies.{WhoseSize, size_of_copy, size_of_now, sized_both, whose_size}
use Rattle.tp_sharing.proofs.Slots.{lookups_are_listed}
use Rattle.tp_stored.specs.Commit.{IsCommit, IsOfVersion, IsSound, NodesStand, fixed_blocks, held_by}
use Rattle.tp_stored.specs.Contents.{HoldsContents, contents_of}
use Rattle.tp_stored.specs.Laws.{CleanStandForOpened}
use Rattle.tp_stored.specs.Rebuilt.{node_among, store_from}
use Rattle.tp_stored.proofs.Members.{Among, among_below, among_contains, among_map, contains_among, found_among, map_among, value_among}
use Rattle.tp_stored.proofs.Naming.{NamesData, NamesMetadata, count_some, data_entries, data_values, either_names, in_fixed, metadata_are, metadata_entries, metadata_values, no_data_named, sum_agree, sum_at_least, sum_nothing, sum_owns}
use Rattle.tp_stored.proofs.Opened.{moved_nothing, stands_for_opened}
use Rattle.tp_stored.proofs.Placed.{Placed, child_of, child_placed, named_within, placed, root_of, top_of}
use Rattle.tp_stored.proofs.Counted.{counted_roots}
use Rattle.tp_stored.proofs.Ranges.{behind, in_range}
use Rattle.tp_stored.proofs.Reachable.{among_refs, refs_among}
use Rattle.tp_stored.proofs.Rebuilding.{chosen_root, commit_of_sound, long, node_inside, node_outside, nodes_stand, one_of, rebuilt}
use Rattle.tp_stored.proofs.Ruled.{least_below}
use Rattle.tp_stored.proofs.Standing.{Led, among_leads, base_positive, inner_entries, leaf_entries, rank_split}

-- ---- lists of nodes and of entries

among_node : (m : ℕ) (ns : List NodeValue) (n : NodeValue) → Among n ns → ((x : NodeValue) → Among x ns → x.own ≡ n.own → x ≡ n) → node_among m ns n.own ≡ node_from m n
among_node m [] n k one = absurd k
among_node m (x ∷ xs) n k one =
    elim (cases_eq x.own n.own) [
      | inl e ↦ ap (λ t. if t then node_from m x else node_among m xs n.own) (eq-eqb x.own n.own e) ∙ ap (node_from m) (one x (inl refl) e)
      | inr d ↦ ap (λ t. if t then node_from m x else node_among m xs n.own) (ne_eqb x.own n.own d) ∙ among_node m xs n (later k d) (λ y j. one y (inr j))
    ]
  where
    later : Among n (x ∷ xs) → (x.own ≡ n.own → ⊥) → Among n xs
    later (inl e) d = absurd (d (ap (λ (y : NodeValue). y.own) e))
    later (inr j) d = j

counted_nothing : (n : ℕ) → counted n 0 0 ≡ 0
counted_nothing zero = refl
counted_nothing (suc n) = refl

data_rank : (kind : TreeKind) (level : ℕ) → is_naming_data kind level ≡ true → rank_of kind level ≡ 1
data_rank Mapping zero h = refl
data_rank Mapping (suc level) h = absurd (false≢true h)
data_rank Device level h = absurd (false≢true h)

no_leaf : (kind : TreeKind) (level : ℕ) → is_naming_data kind level ≡ false → (kind ≡ Mapping) × (level ≡ 0) → ⊥
no_leaf kind level h leaf = false≢true (sym h ∙ (ap (λ (t : TreeKind). is_naming_data t level) leaf.0 ∙ ap (is_naming_data Mapping) leaf.1))

most_fits : (long : Bool) → most_entries long ≤ 252
most_fits true = omega arith
most_fits false = omega arith

two_at_root : (k : ℕ) → 0 < k → rules.least_of true Mapping k ≡ 2
two_at_root zero h = absurd (omega arith)
two_at_root (suc k) h = refl

-- children that cover an interval, from those of a node that keeps the rules
children_cover : (Q R : ℕ → ℕ → ℕ → Type 0) (low high : ℕ) (es : List Entry) → Ascend low high es → BeginsAt low es → Children Q high es
    → ((e : Entry) (to : ℕ) → Among e es → e.key < to → Q e.key to e.value → R e.key to e.value) → Parted R low high es
children_cover Q R low high [] up begins h f = absurd begins
children_cover Q R low high (e ∷ []) up begins h f =
    let lt : e.key < high = omega (arith, up.1) in (
      begins,
      omega (arith, lt, begins),
      subst (λ v. R v high e.value) begins (f e high (inl refl) lt h),
      refl,
    )
children_cover Q R low high (e ∷ x ∷ xs) up begins h f =
    let lt : e.key < x.key = omega (arith, up.1.0) in (
      begins,
      omega (arith, lt, begins),
      subst (λ v. R v x.key e.value) begins (f e x.key (inl refl) lt h.0),
      children_cover Q R x.key high (x ∷ xs) (omega arith, up.1.1) refl h.1 (λ y to k. f y to (inr k)),
    )

-- what is so of the root of a copy, where there is one
held_copy : (s : Store) (held : ℕ) (fixed : List ℕ) (top : ℕ) → ((r : ℕ) → Contains (held_refs held) r → Forest s r fixed top) → HeldForest s held fixed top
held_copy s zero fixed top each = tt
held_copy s (suc n) fixed top each = each (suc n) (among_contains (suc n) (suc n ∷ []) (inl refl))

held_bound : (m : ℕ) (s : Store) (held : ℕ) → ((r : ℕ) → Contains (held_refs held) r → length (content 5 s r) ≤ 65536) → length (copies_below m s held) ≤ 65536
held_bound m s zero each = omega arith
held_bound m s (suc n) each =
    let all : length (copies_below m s (suc n)) ≡ length (content 5 s (suc n)) =
    length-map (volumes_below m s (suc n)) as_copy ∙ length-map (content 5 s (suc n)) (device_from m s) in
    omega (arith, all, each (suc n) (among_contains (suc n) (suc n ∷ []) (inl refl)))

module _ (image : List Sector) (version : Version) (g : Geometry) (root held : ℕ) (limits : IsWithinLimits g) (within_trees : (r : ℕ) → Contains (root ∷ held_refs held) r → IsTreeBlock g r)
    (keep : (r : ℕ) → Contains (root ∷ held_refs held) r → KeepTheRules image version g r)
    (ns : List NodeValue) (are : AreReachable image (root ∷ held_refs held) ns) (counts : Part → List ℕ) (longs : (part : Part) → length (counts part) ≡ blocks_of g part)
    (trues : (part : Part) (b : ℕ) → b < blocks_of g part → slice_index (counts part) b ≡ true_count g (root ∷ held_refs held) ns part b) where
  abbrev m : ℕ
  m = g.metadata_blocks

  abbrev s : Store
  s = store_from g ns counts

  abbrev roots : List ℕ
  roots = root ∷ held_refs held

  abbrev refs : List ℕ
  refs = held_by g root held

  member : (n : NodeValue) → IsReachable image roots n → Among n ns
  member n h = contains_among n ns (are.all n h)

  reached : (n : NodeValue) → Among n ns → IsReachable image roots n
  reached n k = are.only n (among_contains n ns k)

  place : (n : NodeValue) → Among n ns → Placed image version g roots within_trees keep n
  place n k = placed image version g roots within_trees keep n (reached n k)

  own_below : (n : NodeValue) → Among n ns → n.own < m
  own_below n k = (place n k).inside.1

  -- ---- what stands in the store

  node_of : (n : NodeValue) → Among n ns → node_at s n.own ≡ node_from m n
  node_of n k =
      node_inside g ns counts n.own (own_below n k)
      ∙ among_node m ns n k (λ x j e. IsNodeAt-one image n.own x n (subst (λ y. IsNodeAt image y x) e (place x j).here) (place n k).here)

  -- so in its block under another name
  node_in : (n : NodeValue) (b : ℕ) → Among n ns → n.own ≡ b → node_at s b ≡ node_from m n
  node_in n b k e = subst (λ x. node_at s x ≡ node_from m n) e (node_of n k)

  either : (b : ℕ) → (node_at s b ≡ no_node) ⊎ ((n : NodeValue) × Among n ns × (n.own ≡ b) × (node_at s b ≡ node_from m n))
  either b =
      elim (cases_lt b m) [
        | inl lt ↦ elim (one_of m ns b) [
          | inl none ↦ inl (node_inside g ns counts b lt ∙ none)
          | inr o ↦ inr (o.0, o.1, o.2, node_inside g ns counts b lt ∙ o.3)
        ]
        | inr ge ↦ inl (node_outside g ns counts b (omega (arith, ge)))
      ]

  positive : (n : NodeValue) → 0 < (node_from m n).rank
  positive n = omega (arith, rank_split n.kind n.level, base_positive n.kind)

  sized : length s.nodes ≡ m
  sized = length-map-range_with_len (node_among m ns) 0 m

  counted_all : length s.counts ≡ m + g.data_blocks
  counted_all = let a : length (counts Metadata) ≡ m = longs Metadata in let b : length (counts Data) ≡ g.data_blocks = longs Data in omega (arith, length-append (counts Metadata) (counts Data))

  metadata_stored : (b : ℕ) → b < m → count_of s b ≡ metadata_count g roots ns b
  metadata_stored b lt = let a : length (counts Metadata) ≡ m = longs Metadata in get_or_append_left (counts Metadata) (counts Data) 0 b (omega (arith, lt)) ∙ trues Metadata b lt

  data_stored : (p : ℕ) → p < g.data_blocks → count_of s (m + p) ≡ data_count ns p
  data_stored p lt =
      let same : m + p - m ≡ p = omega arith in
      get_or-append_right (counts Metadata) (counts Data) m (m + p) 0 (longs Metadata) (omega arith) ∙ (ap (slice_index (counts Data)) same ∙ trues Data p lt)

  -- ---- the counts are those of the references

  live : (n : NodeValue) → Among n ns → 0 < count_of s n.own
  live n k = by (reached n k) where
    by : IsReachable image roots n → 0 < count_of s n.own
    by (itself r _ known at) =
        let some : 0 < occurrences n.own roots = subst (λ x. 0 < occurrences x roots) (sym at.own) (refs_among r roots (contains_among r roots known)) in
        omega (arith, metadata_stored n.own (own_below n k), counted_roots n.own roots, some)
    by (through parent _ from named at) =
        let some : 0 < count_by (λ x. x == n.own) (metadata_names parent) = count_some n.own (metadata_names parent) (contains_among n.own (metadata_names parent) named) in
        let all : count_by (λ x. x == n.own) (metadata_names parent) ≤ sum_by (λ p. count_by (λ x. x == n.own) (metadata_names p)) ns = sum_at_least (λ p. count_by (λ x. x == n.own) (metadata_names p)) parent ns (member parent from) in
        omega (arith, metadata_stored n.own (own_below n k), some, all)

  names_are : (x : ℕ) (n : NodeValue) → Among n ns → names_from s [] x n.own ≡ occurrences x (values (node_from m n).entries)
  names_are x n k =
      counted_live (count_of s n.own) 0 (occurrences x (children (node_at s n.own))) (live n k) refl
      ∙ (ap (λ (y : Node). occurrences x (children y)) (node_of n k) ∙ ap (occurrences x) (children_values (node_from m n) (positive n)))

  nothing : (x c : ℕ) → ((n : NodeValue) → Among n ns → n.own ≡ c → ⊥) → names_from s [] x c ≡ 0
  nothing x c none =
      elim (either c) [
        | inl e ↦ ap (λ (y : Node). counted (count_of s c) 0 (occurrences x (children y))) e ∙ counted_nothing (count_of s c)
        | inr o ↦ absurd (none o.0 o.1 o.2)
      ]

  named_alike : (x : ℕ) (f : NodeValue → ℕ) → ((n : NodeValue) → Among n ns → f n ≡ occurrences x (values (node_from m n).entries)) → sum_by f ns ≡ times_named s [] x
  unfolding times_named
  named_alike x f each =
      sum_agree f (λ n. names_from s [] x n.own) ns (λ n k. each n k ∙ sym (names_are x n k))
      ∙ sum_owns (names_from s [] x) (length s.counts) ns are.once (λ n k. omega (arith, own_below n k, counted_all)) (λ c l none. nothing x c none)

  -- the names of a node lie where they should
  ranged : (n : NodeValue) → Among n ns → (e : Entry) → Among e n.entries → (b : Bool) → is_naming_data n.kind n.level ≡ b → IsInRange g b e.value
  ranged n k e h b is = subst (λ t. IsInRange g t e.value) is (named_within image version g roots within_trees keep n (place n k) e h)

  no_far_names : (p : ℕ) (n : NodeValue) → Among n ns → NamesMetadata m n.kind n.level → occurrences (m + p) (values n.entries) ≡ 0
  no_far_names p n k d =
      elim (cases_lt 0 (occurrences (m + p) (values n.entries))) [
        | inl some ↦ let e = value_among (m + p) n.entries some in absurd (omega (arith, e.2, (ranged n k e.0 e.1 false d.0).1))
        | inr none ↦ omega (arith, none)
      ]

  no_far_data : (p : ℕ) → g.data_blocks ≤ p → (n : NodeValue) → Among n ns → NamesData m n.kind n.level → occurrences p (values n.entries) ≡ 0
  no_far_data p ge n k d =
      elim (cases_lt 0 (occurrences p (values n.entries))) [
        | inl some ↦
            let e = value_among p n.entries some in
            let lt : e.0.value < g.data_blocks = ranged n k e.0 e.1 true d.0 in absurd (omega (arith, e.2, lt, ge))
        | inr none ↦ omega (arith, none)
      ]

  parts : (b : ℕ) → occurrences b refs ≡ occurrences b roots + occurrences b (fixed_blocks g)
  parts b = omega (arith, occurrences-append b (held_refs held) (fixed_blocks g))

  no_far_root : (b : ℕ) → m ≤ b → occurrences b roots ≡ 0
  no_far_root b ge =
      elim (cases_lt 0 (occurrences b roots)) [
        | inl some ↦ absurd (omega (arith, ge, (within_trees b (among_contains b roots (among_refs b roots some))).1))
        | inr none ↦ omega (arith, none)
      ]

  data_true : (p : ℕ) → count_of s (m + p) ≡ occurrences (m + p) refs + times_named s [] (m + p)
  data_true p =
      let named : data_count ns p ≡ times_named s [] (m + p) = named_alike (m + p) (λ n. count_by (λ x. x == p) (data_names n)) (λ n k. data_values m p n (no_far_names p n k)) in
      let fixed : occurrences (m + p) (fixed_blocks g) ≡ 0 = behind (m + p) 0 (fixed_part g) (omega (arith, limits.metadata_least)) in
      let other : occurrences (m + p) refs ≡ 0 = omega (arith, parts (m + p), fixed, no_far_root (m + p) (omega arith)) in
      elim (cases_lt p g.data_blocks) [
        | inl lt ↦ omega (arith, named, other, data_stored p lt)
        | inr ge ↦
            let none : data_count ns p ≡ 0 = sum_nothing (λ n. count_by (λ x. x == p) (data_names n)) ns (λ n k. no_data_named m p n (no_far_data p (omega (arith, ge)) n k)) in
            let past : count_of s (m + p) ≡ 0 = get_or_past s.counts (m + p) 0 (omega (arith, counted_all, ge)) in
            omega (arith, named, other, none, past)
      ]

  all_true : (b : ℕ) → count_of s b ≡ occurrences b refs + times_named s [] b
  all_true b =
      elim (cases_lt b m) [
        | inl lt ↦
            let named : sum_by (λ n. count_by (λ x. x == b) (metadata_names n)) ns ≡ times_named s [] b = named_alike b (λ n. count_by (λ x. x == b) (metadata_names n)) (λ n k. metadata_values m b lt n) in
            let fixed : occurrences b (fixed_blocks g) ≡ (if nat_lt b (fixed_part g) then 1 else 0) = in_fixed (fixed_part g) b in
            omega (arith, named, fixed, parts b, counted_roots b roots, metadata_stored b lt)
        | inr ge ↦ let e : m + (b - m) ≡ b = omega (arith, ge) in subst (λ x. count_of s x ≡ occurrences x refs + times_named s [] x) e (data_true (b - m))
      ]

  -- ---- ranks

  -- the node that a reachable one names
  record Child (n : NodeValue) (b : ℕ) : Type 0 where
    node : NodeValue
    there : Among node ns
    own_is : node.own ≡ b
    may : MayName (rank_of n.kind n.level) (rank_of node.kind node.level)

  child : (n : NodeValue) → Among n ns → is_naming_data n.kind n.level ≡ false → (e : Entry) → Among e n.entries → Child n e.value
  child n k d e h =
      let c = child_placed image version g roots within_trees keep n (place n k) e h n.kind n.level refl refl (no_leaf n.kind n.level d) in
      let own : c.node.own ≡ e.value = c.here.own in
      let names : Contains (metadata_names n) c.node.own =
      subst (λ xs. Contains xs c.node.own) (sym (metadata_are n d))
      (among_contains c.node.own (map (λ (y : Entry). y.value) n.entries) (subst (λ x. Among x (map (λ (y : Entry). y.value) n.entries)) (sym own) (among_map (λ (y : Entry). y.value) e n.entries h))) in
      record {
        node = c.node;
        there = member c.node (through n c.node (reached n k) names (subst (λ x. IsNodeAt image x c.node) (sym own) c.here));
        own_is = own;
        may = c.may;
      }

  ranked : (n : NodeValue) → Among n ns → (c : ℕ) → 0 < occurrences c (values (node_from m n).entries) → MayName (rank_of n.kind n.level) (node_at s c).rank
  ranked n k c named =
      elim (either_names m n.kind n.level) [
        | inl d ↦
            let x = value_among c (map (moved_by m) n.entries) (subst (λ es. 0 < occurrences c (values es)) (data_entries m (node_from m n) n refl d) named) in
            let e = map_among (moved_by m) x.0 n.entries x.1 in
            let moved : x.0.value ≡ m + e.0.value = ap (λ (y : Entry). y.value) e.2 in
            let bare : (node_at s c).rank ≡ 0 = ap (λ (y : Node). y.rank) (node_outside g ns counts c (omega (arith, moved, x.2))) in
            let rank = data_rank n.kind n.level d.0 in
            record { below = omega (arith, bare, rank); next = λ five. omega (arith, bare, rank); root = λ five. absurd (omega (arith, five, rank)) }
        | inr d ↦
            let x = value_among c n.entries (subst (λ es. 0 < occurrences c (values es)) (metadata_entries m (node_from m n) n refl d) named) in
            let h = child n k d.0 x.0 x.1 in
            let rank : rank_of h.node.kind h.node.level ≡ (node_at s c).rank = sym (ap (λ (y : Node). y.rank) (node_in h.node c h.there (h.own_is ∙ x.2))) in
            subst (MayName (rank_of n.kind n.level)) rank h.may
      ]

  ranks : (b c : ℕ) → 0 < count_of s b → occurrences b [] ≡ 0 → 0 < occurrences c (children (node_at s b)) → MayName (node_at s b).rank (node_at s c).rank
  ranks b c alive closed named =
      elim (either b) [
        | inl e ↦ let z : occurrences c (children (node_at s b)) ≡ 0 = ap (λ (y : Node). occurrences c (children y)) e in absurd (omega (arith, named, z))
        | inr o ↦
            subst (λ (y : Node). MayName y.rank (node_at s c).rank) (sym o.3)
            (ranked o.0 o.1 c (subst (λ xs. 0 < occurrences c xs) (children_values (node_from m o.0) (positive o.0)) (subst (λ (y : Node). 0 < occurrences c (children y)) o.3 named)))
      ]

  small : (b : ℕ) → length (node_at s b).entries ≤ 252
  small b =
      elim (either b) [
        | inl e ↦ let z : length (node_at s b).entries ≡ 0 = ap (λ (y : Node). length y.entries) e in omega (arith, z)
        | inr o ↦
            let z : length (node_at s b).entries ≡ length o.0.entries = ap (λ (y : Node). length y.entries) o.3 ∙ length-map o.0.entries (moved_by (first_named m o.0.kind o.0.level)) in
            omega (arith, z, (place o.0 o.1).here.good.form.room, most_fits (is_long o.0.kind o.0.level))
      ]

  balanced : Balanced s [] refs
  balanced = record {
    sized = omega (arith, sized, counted_all);
    sized_kept = refl;
    few = omega (arith, counted_all, limits.metadata_most, limits.data_most);
    small = small;
    true = λ b. omega (arith, all_true b);
    private = λ b h. absurd (omega (arith, h));
    unkept = λ b h. absurd (omega (arith, h));
    ranks = ranks;
  }

  -- ---- trees

  stand : NodesStand g image s
  stand = nodes_stand g ns counts image (λ n k. (place n k).here)

  -- a reachable node is that at the root of the tree in its block
  keeps : (kind : TreeKind) (is_root : Bool) (level low high b : ℕ) → rules.IsTree image g kind is_root level low high b → (n : NodeValue) → Among n ns → n.own ≡ b
      → KeepsRules image g kind is_root level low high b n
  keeps kind is_root level low high b t n k e = root_of image g kind is_root level low high b t n (subst (λ x. IsNodeAt image x n) e (place n k).here)

  entries_long : (n : NodeValue) (b : ℕ) → Among n ns → n.own ≡ b → length (node_at s b).entries ≡ length n.entries
  entries_long n b k e = ap (λ (y : Node). length y.entries) (node_in n b k e) ∙ length-map n.entries (moved_by (first_named m n.kind n.level))

  treed : (kind : TreeKind) (is_root : Bool) (level low high b : ℕ) → low ≤ high → rules.IsTree image g kind is_root level low high b → (n : NodeValue) → Among n ns → n.own ≡ b
      → trees.IsTree (rank_of kind 0) level s low high b
  unfolding rules.IsTree
  treed kind is_root zero low high b le t n k own =
      let r = keeps kind is_root zero low high b t n k own in
      let is = node_in n b k own in (
        ap (λ (y : Node). y.rank) is ∙ (λ i. rank_of (r.kind_is i) (r.level_is i)),
        subst (Ascend low high) (sym (ap (λ (y : Node). y.entries) is))
            (moved_ascend (first_named m n.kind n.level) low high n.entries (ascend_from_increasing low high n.entries le (place n k).here.good.ascending r.keys)),
      )
  treed kind is_root (suc level) low high b le t n k own =
      let r = keeps kind is_root (suc level) low high b t n k own in
      let is = node_in n b k own in
      let one : t.0 ≡ n = IsNodeAt-one image b t.0 n t.1.here r.here in
      let same : (node_at s b).entries ≡ n.entries = inner_entries m (node_at s b) n is (omega (arith, r.level_is)) in
      let most : suc level ≤ most_level kind = subst (λ (x : TreeKind). suc level ≤ most_level x) r.kind_is (omega (arith, r.level_is, (place n k).here.good.form.level)) in
      let begins : BeginsAt low n.entries = subst (λ (x : NodeValue). BeginsAt low x.entries) one t.2 in
      let under : Children (λ from to c. rules.IsTree image g kind false level from to c) high n.entries =
      subst (λ (x : NodeValue). Children (λ from to c. rules.IsTree image g kind false level from to c) high x.entries) one t.3 in
      let up = ascend_from_increasing low high n.entries le (place n k).here.good.ascending r.keys in (
        ap (λ (y : Node). y.rank) is ∙ ((λ i. rank_of (r.kind_is i) (r.level_is i)) ∙ rank_split kind (suc level)),
        subst (Parted (λ from to c. trees.IsTree (rank_of kind 0) level s from to c × (trees.least_of (rank_of kind 0 + level) ≤ length (node_at s c).entries)) low high) (sym same)
            (children_cover (λ from to c. rules.IsTree image g kind false level from to c) (λ from to c. trees.IsTree (rank_of kind 0) level s from to c × (trees.least_of (rank_of kind 0 + level) ≤ length (node_at s c).entries))
            low high n.entries up begins under (λ e to h lt q.
            let c = child n k (no_data r.kind_is r.level_is) e h in
            let f = keeps kind false level e.key to e.value q c.node c.there c.own_is in (
              treed kind false level e.key to e.value (omega (arith, lt)) q c.node c.there c.own_is,
              omega (arith, f.filled, least_below kind level most, entries_long c.node e.value c.there c.own_is),
            ))),
      )
    where
      inner_names : (x : TreeKind) → is_naming_data x (suc level) ≡ false
      inner_names Mapping = refl
      inner_names Device = refl

      no_data : n.kind ≡ kind → n.level ≡ suc level → is_naming_data n.kind n.level ≡ false
      no_data a b = ap (is_naming_data n.kind) b ∙ inner_names n.kind

  whole : (kind : TreeKind) (most limit b : ℕ) (w : IsWholeTree image g kind most limit b) → (n : NodeValue) → Among n ns → n.own ≡ b → IsWhole (rank_of kind 0) w.level s limit b
  whole kind most limit b w n k own = record {
    tree = treed kind true w.level 0 limit b (omega arith) w.tree n k own;
    branches = λ inner. let r = keeps kind true w.level 0 limit b w.tree n k own in omega (arith, r.filled, two_at_root w.level inner, entries_long n b k own);
  }

  -- the level of a tree is that of its root's rank
  level_is : (kind : TreeKind) (level limit b : ℕ) → IsWhole (rank_of kind 0) level s limit b → level ≡ (node_at s b).rank - rank_of kind 0
  level_is kind level limit b w = omega (arith, tree_rank (rank_of kind 0) level s 0 limit b w.tree)

  -- ---- what the trees hold

  record Contained (kind : TreeKind) (level b : ℕ) : Type 0 where
    all : List Entry
    content_is : IsContent image kind level b all
    pairs_are : map (moved_by (first_named m kind 0)) all ≡ pairs level s b

  abbrev JoinedThere : TreeKind → ℕ → List Entry → Type 0
  JoinedThere kind level es = (all : List Entry) × Joined (λ child entries. IsContent image kind level child entries) es all × (map (moved_by (first_named m kind 0)) all ≡ joined (pairs level s) es)

  joined_there : (kind : TreeKind) (level : ℕ) (es : List Entry) → ((e : Entry) → Among e es → Contained kind level e.value) → JoinedThere kind level es
  joined_there kind level [] each = ([], refl, refl)
  joined_there kind level (e ∷ es) each =
      let c = each e (inl refl) in
      let r = joined_there kind level es (λ x k. each x (inr k)) in (
        c.all ++ r.0,
        (c.all, r.0, c.content_is, r.1, refl),
        moved-append (first_named m kind 0) c.all r.0 ∙ (λ i. c.pairs_are i ++ r.2 i),
      )

  contained : (kind : TreeKind) (is_root : Bool) (level low high b : ℕ) → rules.IsTree image g kind is_root level low high b → (n : NodeValue) → Among n ns → n.own ≡ b → Contained kind level b
  unfolding IsContent
  contained kind is_root zero low high b t n k own =
      let r = keeps kind is_root zero low high b t n k own in
      record { all = n.entries; content_is = (n, r.here, r.kind_is, r.level_is, refl); pairs_are = sym (leaf_entries m (node_at s b) n kind (node_in n b k own) r.kind_is r.level_is) }
  contained kind is_root (suc level) low high b t n k own =
      let r = keeps kind is_root (suc level) low high b t n k own in
      let same : (node_at s b).entries ≡ n.entries = inner_entries m (node_at s b) n (node_in n b k own) (omega (arith, r.level_is)) in
      let j = joined_there kind level n.entries (λ e h.
      let c = child n k (inner_names n.level r.level_is n.kind) e h in
      let q = child_of image g kind is_root level low high b t n r.here e h in contained kind false level e.key q.0 e.value q.1 c.node c.there c.own_is) in
      record { all = j.0; content_is = (n, r.here, r.kind_is, r.level_is, j.1); pairs_are = j.2 ∙ ap (joined (pairs level s)) (sym same) }
    where
      inner_names : (l : ℕ) → l ≡ suc level → (x : TreeKind) → is_naming_data x l ≡ false
      inner_names zero e x = absurd (omega (arith, e))
      inner_names (suc l) e Mapping = refl
      inner_names (suc l) e Device = refl

  -- ---- each device tree, and its volumes

  told_by : (v : Version) {size : ℕ} → IsRecordSize v g size → IsToldSize g size
  told_by OneSize h = inl h
  told_by OwnSizes h = h

  told_most : (size : ℕ) → IsToldSize g size → told_blocks g size ≤ 2 ^ 24
  told_most size (inl e) = subst (λ n. told_blocks g n ≤ 2 ^ 24) (sym e) limits.virtual_most
  told_most size (inr h) = elim (cases_eq size 0) [
    | inl e ↦ subst (λ n. told_blocks g n ≤ 2 ^ 24) (sym e) limits.virtual_most
    | inr d ↦ let same : told_blocks g size ≡ size = ap (λ t. if t then g.virtual_blocks else size) (ne_eqb size 0 d) in omega (arith, same, h.1)
  ]

  module _ (r : ℕ) (known : Contains roots r) where
    abbrev kept : KeepTheRules image version g r
    kept = keep r known

    record RootNode : Type 0 where
      node : NodeValue
      there : Among node ns
      own_is : node.own ≡ r

    root_node : RootNode
    root_node =
        let t = top_of image g Device true kept.devices.level 0 (2 ^ 24) r kept.devices.tree in
        record { node = t.0; there = member t.0 (itself r t.0 known t.1.here); own_is = t.1.here.own }

    devices_whole : IsWhole 5 kept.devices.level s (2 ^ 24) r
    devices_whole = whole Device 2 (2 ^ 24) r kept.devices root_node.node root_node.there root_node.own_is

    devices_level : kept.devices.level ≡ (node_at s r).rank - 5
    devices_level = level_is Device kept.devices.level (2 ^ 24) r devices_whole

    root_live : 0 < count_of s r
    root_live = subst (λ x. 0 < count_of s x) root_node.own_is (live root_node.node root_node.there)

    -- the leaf to which a path leads
    record Leaf (e : Entry) : Type 0 where
      node : NodeValue
      there : Among node ns
      kind_is : node.kind ≡ Device
      has : Among e node.entries

    names_blocks : (kind : TreeKind) (level : ℕ) → kind ≡ Device → is_naming_data kind level ≡ false
    names_blocks Device level e = refl
    names_blocks Mapping level e = let z : 1 ≡ 5 = ap (λ (x : TreeKind). rank_of x 0) e in absurd (omega (arith, z))

    leaf : (b : ℕ) (e : Entry) → LeadsTo image Device b e → (x : NodeValue) → Among x ns → x.own ≡ b → Leaf e
    leaf b e (ends n at is low has) x k own =
        let one : n ≡ x = IsNodeAt-one image b n x at (subst (λ y. IsNodeAt image y x) own (place x k).here) in
        record { node = n; there = subst (λ (y : NodeValue). Among y ns) (sym one) k; kind_is = is; has = contains_among e n.entries has }
    leaf b e (goes n next at is inner has path) x k own =
        let one : n ≡ x = IsNodeAt-one image b n x at (subst (λ y. IsNodeAt image y x) own (place x k).here) in
        let c = child n (subst (λ (y : NodeValue). Among y ns) (sym one) k) (names_blocks n.kind n.level is) next (contains_among next n.entries has) in
        leaf next.value e path c.node c.there c.own_is

    module _ (id : ℕ) (e : Entry) (here : found id (content 5 s r) ≡ Some e) where
      led : Led m image Device r e
      led = among_leads g image s refs balanced stand Device ((node_at s r).rank - 5) r e (omega (arith, devices_level, kept.devices.low_enough)) root_live
          (tree_rank 5 ((node_at s r).rank - 5) s 0 (2 ^ 24) r (subst (λ x. IsWhole 5 x s (2 ^ 24) r) devices_level devices_whole).tree) (found_among id e (content 5 s r) here)

      path : LeadsTo image Device r e
      path = subst (λ (x : Entry). LeadsTo image Device r x) (sym (led.is ∙ moved_nothing led.entry)) led.path

      volume_tree : IsWholeTree image g Mapping 3 (told_blocks g e.size) e.value
      volume_tree = kept.volumes e.key e.value e.mapped e.size path

      volume_root : (n : NodeValue) × Among n ns × (n.own ≡ e.value)
      volume_root =
          let l = leaf r e path root_node.node root_node.there root_node.own_is in
          let c = child l.node l.there (names_blocks l.node.kind l.node.level l.kind_is) e l.has in (c.node, c.there, c.own_is)

      volume_whole : IsWhole 1 volume_tree.level s (told_blocks g e.size) e.value
      volume_whole = whole Mapping 3 (told_blocks g e.size) e.value volume_tree volume_root.0 volume_root.1 volume_root.2

      volume_level : volume_tree.level ≡ (node_at s e.value).rank - 1
      volume_level = level_is Mapping volume_tree.level (told_blocks g e.size) e.value volume_whole

      volume_here : IsWhole 1 ((node_at s e.value).rank - 1) s (told_blocks g e.size) e.value
      volume_here = subst (λ x. IsWhole 1 x s (told_blocks g e.size) e.value) volume_level volume_whole

      volume_blocks : (block : ℕ) (x : Entry) → found block (content 1 s e.value) ≡ Some x → length s.nodes ≤ x.value
      volume_blocks block x at =
          let l = among_leads g image s refs balanced stand Mapping ((node_at s e.value).rank - 1) e.value x (omega (arith, volume_level, volume_tree.low_enough))
          (subst (λ y. 0 < count_of s y) volume_root.2 (live volume_root.0 volume_root.1)) (tree_rank 1 ((node_at s e.value).rank - 1) s 0 (told_blocks g e.size) e.value volume_here.tree) (found_among block x (content 1 s e.value) at) in
          let v : x.value ≡ m + l.entry.value = ap (λ (y : Entry). y.value) l.is in omega (arith, v, sized)

      volume_mapped : e.mapped ≡ length (content 1 s e.value)
      volume_mapped =
          let c = contained Mapping true volume_tree.level 0 (told_blocks g e.size) e.value volume_tree.tree volume_root.0 volume_root.1 volume_root.2 in
          sym (kept.mapped_is e.key e.value e.mapped e.size volume_tree.level c.all path c.content_is)
          ∙ (sym (length-map c.all (moved_by m)) ∙ (ap length c.pairs_are ∙ ap (λ k. length (pairs k s e.value)) volume_level))

      recorded : IsRecordSize version g e.size
      recorded = kept.sizes e.key e.value e.mapped e.size path

      told : IsToldSize g e.size
      told = told_by version recorded

      volume : IsVolume s (2 ^ 24) e
      volume = record { tree = wider_whole 1 ((node_at s e.value).rank - 1) s (told_blocks g e.size) (2 ^ 24) e.value (told_most e.size told) volume_here; data_blocks = volume_blocks; mapped = volume_mapped }

    forest : Forest s r (fixed_blocks g) (2 ^ 24)
    forest = record {
      devices = subst (λ x. IsWhole 5 x s (2 ^ 24) r) devices_level devices_whole;
      volumes = volume;
      once = λ b. elim (cases_lt b (fixed_part g)) [
        | inl lt ↦ omega (arith, in_range b 0 (fixed_part g) (omega arith) (omega (arith, lt)))
        | inr ge ↦ omega (arith, behind b 0 (fixed_part g) (omega (arith, ge)))
      ];
      bare = λ b some. elim (either b) [
        | inl e ↦ ap (λ (y : Node). y.rank) e
        | inr o ↦ absurd (omega (arith, fixed_below b some, o.2, (place o.0 o.1).inside.0))
      ];
      inside = λ b some. omega (arith, fixed_below b some, sized, limits.metadata_least);
    }
      where
        fixed_below : (b : ℕ) → 0 < occurrences b (fixed_blocks g) → b < fixed_part g
        fixed_below b some =
            elim (cases_lt b (fixed_part g)) [
              | inl lt ↦ lt
              | inr ge ↦ absurd (omega (arith, some, behind b 0 (fixed_part g) (omega (arith, ge))))
            ]

    -- ---- the sizes

    abbrev listed : Volumes
    listed = volumes_below m s r

    -- the record of a device that tells a size
    recorded_by : (id size : ℕ) → size_of id listed ≡ Some size → (e : Entry) × (found id (content 5 s r) ≡ Some e) × (e.size ≡ size)
    recorded_by id size h = go (found id (content 5 s r)) refl where
      go : (f : Option Entry) → found id (content 5 s r) ≡ f → (e : Entry) × (found id (content 5 s r) ≡ Some e) × (e.size ≡ size)
      go None k = let z : size_of id listed ≡ None = lookups_are_listed.sizes m s r id ∙ ap (option_map (λ (x : Entry). x.size)) k in absurd (cc)
      go (Some e) k =
          let z : size_of id listed ≡ Some e.size = lookups_are_listed.sizes m s r id ∙ ap (option_map (λ (x : Entry). x.size)) k in
          let same : e.size ≡ size = cc in
          (e, k, same)

    size_recorded : (id size : ℕ) → size_of id listed ≡ Some size → IsRecordSize version g size
    size_recorded id size h = let x = recorded_by id size h in subst (IsRecordSize version g) x.2 (recorded id x.0 x.1)

    module _ (id size block place : ℕ) (told : size_of id listed ≡ Some size) (mapped : slot_of id block listed ≡ Some place) where
      own_record : (e : Entry) × (found id (content 5 s r) ≡ Some e) × (e.size ≡ size)
      own_record = recorded_by id size told

      abbrev own_entries : List Entry
      own_entries = content 1 s own_record.0.value

      by_entry : (f : Option Entry) → found block own_entries ≡ f → slot_of id block listed ≡ option_map (λ (x : Entry). x.value - m) f
      by_entry f p = lookups_are_listed.slots m s r id block own_record.0 own_record.1 ∙ ap (option_map (λ (x : Entry). x.value - m)) p

      below_own : (f : Option Entry) → found block own_entries ≡ f → block < told_blocks g own_record.0.size
      below_own None p = let z : slot_of id block listed ≡ None = by_entry None p in absurd (cc)
      below_own (Some x) p =
          let own = volume_here id own_record.0 own_record.1 in
          let up : Ascend 0 (told_blocks g own_record.0.size) own_entries = ascend_tree 1 ((node_at s own_record.0.value).rank - 1) s 0 (told_blocks g own_record.0.size) own_record.0.value own.tree in
          let lt : x.key < told_blocks g own_record.0.size = among_below 0 (told_blocks g own_record.0.size) x own_entries up (found_among block x own_entries p) in
          let key : x.key ≡ block = found_key block x own_entries p in
          omega (arith, lt, key)

      place_below : block < told_blocks g size
      place_below = subst (λ n. block < told_blocks g n) own_record.2 (below_own (found block own_entries) refl)

    sizes : AreSized g listed
    sizes = record { told = λ id size h. told_by version (size_recorded id size h); inside = place_below }

    few : length (content 5 s r) ≤ 65536
    few =
        let c = contained Device true kept.devices.level 0 (2 ^ 24) r kept.devices.tree root_node.node root_node.there root_node.own_is in
        let most = kept.few_devices kept.devices.level c.all c.content_is in
        let long : length c.all ≡ length (content 5 s r) = sym (length-map c.all (moved_by 0)) ∙ (ap length c.pairs_are ∙ ap (λ k. length (pairs k s r)) devices_level) in
        omega (arith, most, long)

  first : Contains roots root
  first = among_contains root roots (inl refl)

  also : (r : ℕ) → Contains (held_refs held) r → Contains roots r
  also r k = among_contains r roots (inr (contains_among r (held_refs held) k))

  one_more : (n : ℕ) → held ≡ suc n → Contains roots (suc n)
  one_more n e = also (suc n) (subst (λ h. Contains (held_refs h) (suc n)) (sym e) (among_contains (suc n) (suc n ∷ []) (inl refl)))

  -- the sizes of both
  sizes_of_both : AreSized g (volumes_of m s root held)
  sizes_of_both = sized_both g m s root held (fixed_blocks g) (2 ^ 24) (forest root first) (sizes root first) (λ n e. sizes (suc n) (one_more n e))

  all_recorded : (id size : ℕ) → size_of id (volumes_of m s root held) ≡ Some size → IsRecordSize version g size
  all_recorded id size h = go (whose_size m s root held (fixed_blocks g) (2 ^ 24) id size (forest root first) h) where
    go : WhoseSize m s root held id size → IsRecordSize version g size
    go (size_of_now l k) = size_recorded root first id size k
    go (size_of_copy n device e is k) = size_recorded (suc n) (one_more n e) device size k

  pub of_version_there : IsOfVersion version (volumes_of m s root held)
  of_version_there = by version all_recorded where
    by : (v : Version) → ((id size : ℕ) → size_of id (volumes_of m s root held) ≡ Some size → IsRecordSize v g size) → IsOfVersion v (volumes_of m s root held)
    by OneSize h = h
    by OwnSizes h = tt

  pub sound_there : IsSound g root held s
  sound_there = record {
    limits = limits;
    sized = sized;
    counted = counted_all;
    balanced = balanced;
    forest = forest root first;
    copy = held_copy s held (fixed_blocks g) (2 ^ 24) (λ r k. forest r (also r k));
    sizes = sizes_of_both;
    few = few root first;
    few_held = held_bound m s held (λ r k. few r (also r k));
  }

-- ---- clean images

pub clean_sound : (image : List Sector) (h : IsClean image) → IsSound h.superblock.geometry h.superblock.root h.superblock.held_root (rebuilt image h)
clean_sound image h =
    let good = chosen_root image h.superblock h.chosen in
    sound_there image h.superblock.version h.superblock.geometry h.superblock.root h.superblock.held_root good.0 good.1 h.rules h.nodes h.reachable h.counts.counts (long image h) h.counts.true_ones

clean_of_version : (image : List Sector) (h : IsClean image)
    → IsOfVersion h.superblock.version (volumes_of h.superblock.geometry.metadata_blocks (rebuilt image h) h.superblock.root h.superblock.held_root)
clean_of_version image h =
    let good = chosen_root image h.superblock h.chosen in
    of_version_there image h.superblock.version h.superblock.geometry h.superblock.root h.superblock.held_root good.0 good.1 h.rules h.nodes h.reachable h.counts.counts (long image h) h.counts.true_ones

pub clean_commit : (image : List Sector) (h : IsClean image) → IsCommit image h.superblock (rebuilt image h)
clean_commit image h = commit_of_sound image h (clean_sound image h) (clean_of_version image h)

pub clean_stand : CleanStandForOpened
clean_stand image h =
    let commit = clean_commit image h in
    let g = h.superblock.geometry in
    let c = contents_of h.superblock (rebuilt image h) in
    let holds : HoldsContents g c image = (h.superblock, rebuilt image h, commit, refl, refl) in (g, c, holds, stands_for_opened g c image holds)
