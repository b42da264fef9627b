-- The reachable nodes of an image are those of the live blocks that have a rank.
use Rattle.std.proofs.Common.{◌≡◌, ℕ, zero, suc, ◌+◌, ◌<◌, ◌≤◌, List, [], ◌∷◌, length, refl, sym, subst, ◌∙◌, arith, inl, inr}
use Rattle.std.specs.Prelude.{Contains, ◌^◌}
use Rattle.std.proofs.lemmas.Bool.{cases_eq, cases_lt}
use Rattle.std.proofs.lemmas.List.{length-map}
use Rattle.tp_model.specs.Geometry.{Geometry}
use Rattle.tp_model.specs.Sectors.{Sector}
use Rattle.tp_layout.specs.Node.{NodeValue}
use Rattle.tp_layout.specs.declared.entry.Entry.{Entry}
use Rattle.tp_image.specs.Nodes.{IsNodeAt}
use Rattle.tp_image.specs.Counts.{IsReachable, itself, through, metadata_names}
use Rattle.tp_refs.specs.Store.{MayName, Store, children, count_of, node_at, node_from, values}
use Rattle.tp_refs.specs.Balance.{Balanced, occurrences}
use Rattle.tp_refs.specs.Reach.{Reached, root, below}
use Rattle.tp_refs.proofs.Reach.{live_is_reached, reached_live}
use Rattle.tp_refs.proofs.Steps.{child_live, held_live, occurrences-append, one_other, one_same}
use Rattle.tp_trees.proofs.Trees.{children_values, tree_rank}
use Rattle.tp_sharing.specs.Forest.{Forest, content, held_refs}
use Rattle.tp_sharing.specs.Volumes.{AreSized, as_copy, copies_below, device_from, volumes_below, volumes_of}
use Rattle.tp_sharing.proofs.Copies.{sized_copy, sized_now}
use Rattle.tp_sharing.proofs.Held.{forests_of_both}
use Rattle.tp_sharing.proofs.Places.{bound}
use Rattle.tp_stored.specs.Commit.{IsRooted, IsSound, NodesStand, fixed_blocks, held_by}
use Rattle.tp_stored.proofs.Members.{Among, among_contains, among_map, among_value, contains_among, map_among, value_among}
use Rattle.tp_stored.proofs.Standing.{node_is}
use Rattle.tp_stored.proofs.Naming.{either_names, metadata_are, metadata_entries, names, no_metadata, no_ranks_below, rank_from}

-- a node in a live block
pub record LiveNode (image : List Sector) (s : Store) (n : NodeValue) : Type 0 where
  pub live : 0 < count_of s n.own
  pub inner : 0 < (node_at s n.own).rank
  pub here : IsNodeAt image n.own n

pub from_block : (image : List Sector) (s : Store) (b : ℕ) (n : NodeValue) → 0 < count_of s b → 0 < (node_at s b).rank → IsNodeAt image b n → LiveNode image s n
from_block image s b n live inner here =
    let e = sym here.own in
    record { live = subst (λ x. 0 < count_of s x) e live; inner = subst (λ x. 0 < (node_at s x).rank) e inner; here = subst (λ x. IsNodeAt image x n) e here }

-- ---- whatever references are held

module _ (g : Geometry) (image : List Sector) (s : Store) (refs : List ℕ) (bal : Balanced s [] refs) (stand : NodesStand g image s) where
  pub store_node : (n : NodeValue) → LiveNode image s n → node_at s n.own ≡ node_from g.metadata_blocks n
  store_node n l = node_is g image s refs bal stand n.own n l.live l.inner l.here

  -- what a node that names metadata blocks has below it
  pub named_live : (b x : ℕ) → 0 < count_of s b → 1 < (node_at s b).rank → 0 < occurrences x (children (node_at s b)) → (0 < count_of s x) × (0 < (node_at s x).rank)
  named_live b x live high here =
      let may : MayName (node_at s b).rank (node_at s x).rank = bal.ranks b x live refl here in
      let some : 0 < (node_at s x).rank = elim (cases_eq (node_at s b).rank 5) [
        | inl e ↦ may.root e
        | inr d ↦ omega (arith, may.next d)
      ] in
      (child_live s [] refs b x bal live refl here, some)

-- ---- one root

module _ (g : Geometry) (image : List Sector) (refs : List ℕ) (top : ℕ) (s : Store) (sound : IsRooted g refs top s) (stand : NodesStand g image s) where
  pub root_live : 0 < count_of s top
  root_live = held_live s [] refs top sound.balanced sound.named

  pub root_rank : 0 < (node_at s top).rank
  root_rank = omega (arith, tree_rank 5 _ s 0 _ top sound.forest.devices.tree)

-- ---- all roots

-- a root stands in a list as often as it is counted
pub among_refs : (x : ℕ) (xs : List ℕ) → 0 < occurrences x xs → Among x xs
among_refs x [] h = absurd (omega arith)
among_refs x (y ∷ ys) h = elim (cases_eq y x) [
  | inl e ↦ inl e
  | inr d ↦ inr (among_refs x ys (omega (arith, h, one_other y x d)))
]

pub refs_among : (x : ℕ) (xs : List ℕ) → Among x xs → 0 < occurrences x xs
refs_among x [] h = absurd h
refs_among x (y ∷ ys) (inl e) = omega (arith, one_same y x e)
refs_among x (y ∷ ys) (inr h) = omega (arith, refs_among x ys h)

pub held_one : (held r : ℕ) → 0 < occurrences r (held_refs held) → held ≡ r
held_one zero r h = absurd (omega arith)
held_one (suc n) r h = elim (cases_eq (suc n) r) [
  | inl e ↦ e
  | inr d ↦ absurd (omega (arith, h, one_other (suc n) r d))
]

-- how many devices there are below a held root
held_long : (m : ℕ) (s : Store) (held r : ℕ) → 0 < occurrences r (held_refs held) → length (copies_below m s held) ≤ 65536 → length (content 5 s r) ≤ 65536
held_long m s zero r h few = absurd (omega (arith, h))
held_long m s (suc n) r h few =
    let all : length (copies_below m s (suc n)) ≡ length (content 5 s (suc n)) =
    length-map (volumes_below m s (suc n)) as_copy ∙ length-map (content 5 s (suc n)) (device_from m s) in
    subst (λ x. length (content 5 s x) ≤ 65536) (held_one (suc n) r h) (omega (arith, few, all))

-- they are within their sizes
copy_sized : (g : Geometry) (m : ℕ) (s : Store) (top held r : ℕ) → 0 < occurrences r (held_refs held) → Forest s top (fixed_blocks g) (2 ^ 24) → AreSized g (volumes_of m s top held) → AreSized g (volumes_below m s r)
copy_sized g m s top zero r h f w = absurd (omega (arith, h))
copy_sized g m s top (suc n) r h f w = subst (λ x. AreSized g (volumes_below m s x)) (held_one (suc n) r h) (sized_copy g m s top n (fixed_blocks g) (2 ^ 24) f w)

module _ (g : Geometry) (image : List Sector) (top held : ℕ) (s : Store) (sound : IsSound g top held s) (stand : NodesStand g image s) where
  abbrev m : ℕ
  m = g.metadata_blocks

  abbrev pub refs : List ℕ
  refs = held_by g top held

  abbrev pub roots : List ℕ
  roots = top ∷ held_refs held

  root_here : 0 < occurrences top roots
  root_here = omega (arith, one_same top top refl)

  pub ref_parts : (b : ℕ) → occurrences b refs ≡ occurrences b roots + occurrences b (fixed_blocks g)
  ref_parts b = omega (arith, occurrences-append b (held_refs held) (fixed_blocks g))

  pub few_below : (r : ℕ) → 0 < occurrences r roots → length (content 5 s r) ≤ 65536
  few_below r here = elim (cases_eq top r) [
    | inl e ↦ subst (λ x. length (content 5 s x) ≤ 65536) e sound.few
    | inr d ↦ held_long m s held r (omega (arith, here, one_other top r d)) sound.few_held
  ]

  sizes_below : (r : ℕ) → 0 < occurrences r roots → AreSized g (volumes_below m s r)
  sizes_below r here = elim (cases_eq top r) [
    | inl e ↦ subst (λ x. AreSized g (volumes_below m s x)) e (sized_now g m s top held (fixed_blocks g) (2 ^ 24) sound.forest sound.sizes)
    | inr d ↦ copy_sized g m s top held r (omega (arith, here, one_other top r d)) sound.forest sound.sizes
  ]

  -- each root, with all references
  pub rooted : (r : ℕ) → 0 < occurrences r roots → IsRooted g refs r s
  rooted r here = record {
    limits = sound.limits;
    sized = sound.sized;
    counted = sound.counted;
    balanced = sound.balanced;
    named = omega (arith, here, ref_parts r);
    forest = forests_of_both s top held (fixed_blocks g) (2 ^ 24) sound.forest sound.copy r here;
    sizes = sizes_below r here;
    few = few_below r here;
  }

  pub root_of : (r : ℕ) → Contains roots r → 0 < occurrences r roots
  root_of r known = refs_among r roots (contains_among r roots known)

  pub reachable_live : (n : NodeValue) → IsReachable image roots n → LiveNode image s n
  reachable_live n (itself r x known at) =
      let t = rooted r (root_of r known) in
      from_block image s r n (root_live g image refs r s t stand) (root_rank g image refs r s t stand) at
  reachable_live n (through parent x from named at) =
      let p = reachable_live parent from in
      let is = store_node g image s refs sound.balanced stand parent p in
      elim (either_names m parent.kind parent.level) [
        | inl d ↦ absurd (contains_among n.own [] (subst (λ xs. Contains xs n.own) (no_metadata parent d.0) named))
        | inr d ↦
            let e = map_among (λ (y : Entry). y.value) n.own parent.entries (contains_among n.own (names parent.entries) (subst (λ xs. Contains xs n.own) (metadata_are parent d.0) named)) in
            let high : 1 < (node_at s parent.own).rank = omega (arith, rank_from m (node_at s parent.own) parent is, d.2) in
            let here : 0 < occurrences e.0.value (values (node_at s parent.own).entries) =
            among_value e.0 (node_at s parent.own).entries (subst (λ xs. Among e.0 xs) (sym (metadata_entries m (node_at s parent.own) parent is d)) e.1) in
            let child = named_live g image s refs sound.balanced stand parent.own e.0.value p.live high (subst (λ xs. 0 < occurrences e.0.value xs) (sym (children_values (node_at s parent.own) (omega (arith, high)))) here) in
            from_block image s n.own n (subst (λ x. 0 < count_of s x) (sym e.2) child.0) (subst (λ x. 0 < (node_at s x).rank) (sym e.2) child.1) at
      ]

  reached_reachable : (b : ℕ) → Reached s refs b → 0 < (node_at s b).rank → (n : NodeValue) → IsNodeAt image b n → IsReachable image roots n
  reached_reachable _ (root b p) inner n at =
      elim (cases_lt 0 (occurrences b roots)) [
        | inl h ↦ itself b n (among_contains b roots (among_refs b roots h)) at
        | inr z ↦ absurd (omega (arith, inner, sound.forest.bare b (omega (arith, p, z, ref_parts b))))
      ]
  reached_reachable _ (below b c r here) inner n at =
      let live = reached_live s refs sound.balanced b r in
      let may : MayName (node_at s b).rank (node_at s c).rank = sound.balanced.ranks b c live refl here in
      let t = stand b live (omega (arith, inner, may.below)) in
      let is = t.1.1 in
      elim (either_names m t.0.kind t.0.level) [
        | inl d ↦ absurd (no_ranks_below m t.0.kind t.0.level (node_at s b).rank (node_at s c).rank d (rank_from m (node_at s b) t.0 is) may inner)
        | inr d ↦
            let e = value_among c (node_at s b).entries (subst (λ xs. 0 < occurrences c xs) (children_values (node_at s b) (omega (arith, inner, may.below))) here) in
            let there : Among c (names t.0.entries) =
            subst (λ x. Among x (names t.0.entries)) e.2 (among_map (λ (y : Entry). y.value) e.0 t.0.entries (subst (λ xs. Among e.0 xs) (metadata_entries m (node_at s b) t.0 is d) e.1)) in
            let named : Contains (metadata_names t.0) n.own =
            subst (λ x. Contains (metadata_names t.0) x) (sym at.own) (subst (λ xs. Contains xs c) (sym (metadata_are t.0 d.0)) (among_contains c (names t.0.entries) there)) in
            through t.0 n (reached_reachable b r (omega (arith, inner, may.below)) t.0 t.1.0) named (subst (λ x. IsNodeAt image x n) (sym at.own) at)
      ]

  pub live_reachable : (n : NodeValue) → LiveNode image s n → IsReachable image roots n
  live_reachable n l =
      let t = bound s.nodes in
      reached_reachable n.own ((live_is_reached s refs t.0 sound.balanced t.1 n.own).0 l.live) l.inner n l.here
