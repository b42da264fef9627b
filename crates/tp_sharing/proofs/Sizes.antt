-- The metadata blocks with a count are the fixed blocks and the nodes of the trees.
use Rattle.std.proofs.Common.{◌≡◌, ℕ, zero, suc, ◌+◌, ◌-◌, ◌/◌, ◌^◌, ◌<◌, ◌≤◌, Bool, true, false, cond, List, [], ◌∷◌, ◌++◌, length, map, get_or, refl, sym, ap, subst, ◌∙◌, arith, ◌⊎◌, inl, inr, Some, length-append}
use Rattle.std.specs.Prelude.{nat_lt, sum_by}
use Rattle.std.specs.List.{AllByRecursion, count_by, range_with_len}
use Rattle.std.proofs.lemmas.Bool.{cases_eq, cases_lt, ltb-true}
use Rattle.std.proofs.lemmas.List.{length-map}
use Rattle.std.proofs.lemmas.List.Sums.{sum_by-cons}
use Rattle.tp_model.proofs.Counting.{count_more}
use Rattle.tp_layout.specs.declared.entry.Entry.{Entry}
use Rattle.tp_layout.specs.Entries.{Ascend, found}
use Rattle.tp_layout.proofs.Ordered.{found_here, found_later}
use Rattle.tp_refs.specs.Store.{Store, children, count_of, node_at, values}
use Rattle.tp_refs.specs.Balance.{Balanced, occurrences, one_if_same, sum_below}
use Rattle.tp_refs.specs.Reach.{Reached, root, below}
use Rattle.tp_refs.proofs.Reach.{live_is_reached}
use Rattle.tp_refs.proofs.Steps.{occurrences-append, one_other, one_same}
use Rattle.tp_trees.specs.Tree.{blank}
use Rattle.tp_trees.specs.Sizes.{gathered, nodes_of}
use Rattle.tp_trees.proofs.Sizes.{few_device_nodes, few_mapping_nodes, first_node, named_by_nodes, roots_gathered}
use Rattle.tp_trees.proofs.Frames.{occurrences_values}
use Rattle.tp_trees.proofs.Trees.{ascend_tree}
use Rattle.tp_sharing.specs.Forest.{Forest, IsVolume, content}
use Rattle.tp_sharing.specs.Sizes.{NodesAreFew, mapped_counts, metadata_in_use}
use Rattle.tp_sharing.specs.Volumes.{device_from, slot_from, volumes_below}
use Rattle.tp_sharing.proofs.Lists.{entry_of, found_within, leaf_at, occurrences_place, value_from}
use Rattle.tp_sharing.proofs.Places.{bound, data_rank}
use Rattle.tp_sharing.proofs.Refs.{no_children}

-- ---- numbers that stand in a list are no more than it is long

pub sum_both : (f g : ℕ → ℕ) (n : ℕ) → sum_below (λ b. f b + g b) n ≡ sum_below f n + sum_below g n
unfolding sum_below
sum_both f g zero = refl
sum_both f g (suc n) = omega (arith, sum_both f g n)

pub none_before : (x n : ℕ) → n ≤ x → sum_below (one_if_same x) n ≡ 0
unfolding sum_below
none_before x zero l = refl
none_before x (suc n) l = omega (arith, one_other x n (λ e. absurd (omega (arith, e))), none_before x n (omega arith))

one_at_most : (x n : ℕ) → sum_below (one_if_same x) n ≤ 1
unfolding sum_below
one_at_most x zero = omega arith
one_at_most x (suc n) =
    elim (cases_eq x n) [
      | inl e ↦ omega (arith, one_same x n e, none_before x n (omega (arith, e)))
      | inr d ↦ omega (arith, one_other x n d, one_at_most x n)
    ]

pub none_of_nothing : (n : ℕ) → sum_below (λ b. occurrences b []) n ≡ 0
unfolding sum_below
none_of_nothing zero = refl
none_of_nothing (suc n) = omega (arith, none_of_nothing n)

pub as_long : (xs : List ℕ) (n : ℕ) → sum_below (λ b. occurrences b xs) n ≤ length xs
as_long [] n = omega (arith, none_of_nothing n)
as_long (x ∷ xs) n = omega (arith, sum_both (one_if_same x) (λ b. occurrences b xs) n, one_at_most x n, as_long xs n)

counts_once : (t : Bool) (o : ℕ) → (t ≡ true → 0 < o) → cond t 1 0 ≤ o
counts_once true o h = h refl
counts_once false o h = omega arith

listed_below : (p : ℕ → Bool) (xs : List ℕ) (n : ℕ) → ((b : ℕ) → b < n → p b ≡ true → 0 < occurrences b xs) → count_by p (range_with_len 0 n) ≤ sum_below (λ b. occurrences b xs) n
unfolding sum_below
listed_below p xs zero h = omega arith
listed_below p xs (suc n) h =
    let more : n + 1 ≡ suc n = omega arith in
    let c : count_by p (range_with_len 0 (suc n)) ≡ count_by p (range_with_len 0 n) + cond (p n) 1 0 = ap (λ k. count_by p (range_with_len 0 k)) (sym more) ∙ count_more p n in
    omega (arith, c, counts_once (p n) (occurrences n xs) (h n (omega arith)), listed_below p xs n (λ b l t. h b (omega arith) t))

pub few_listed : (p : ℕ → Bool) (xs : List ℕ) (n : ℕ) → ((b : ℕ) → b < n → p b ≡ true → 0 < occurrences b xs) → count_by p (range_with_len 0 n) ≤ length xs
few_listed p xs n h = omega (arith, listed_below p xs n h, as_long xs n)

-- ---- the volumes

-- the blocks of the nodes of the volume's tree below a block
abbrev pub volume_nodes : Store → ℕ → List ℕ
volume_nodes s b = nodes_of ((node_at s b).rank - 1) s b

-- what is found in a list is all of it
pub all_found : (P : Entry → Type 0) (low high : ℕ) (es : List Entry) → Ascend low high es → ((q : ℕ) (e : Entry) → found q es ≡ Some e → P e) → AllByRecursion P es
all_found P low high [] up each = tt
all_found P low high (e ∷ es) up each = (
  each e.key e (found_here e.key e es refl),
  all_found P (suc e.key) high es up.1 (λ q x f.
      let w = found_within (suc e.key) high q x.value es up.1 (value_from q x es f) in
      each q x (found_later q e es (λ d. absurd (omega (arith, d, w.0))) ∙ f)),
)

volumes_few : (m : ℕ) (s : Store) (top : ℕ) → top ≤ 2 ^ 24 → (es : List Entry) → AllByRecursion (IsVolume s top) es
    → length (gathered (volume_nodes s) es) ≤ sum_by (λ n. 1 + n / 63) (mapped_counts (map (device_from m s) es))
volumes_few m s top few [] all = omega arith
volumes_few m s top few (e ∷ es) all =
    let here : length (volume_nodes s e.value) ≤ 1 + length (content 1 s e.value) / 63 = few_mapping_nodes ((node_at s e.value).rank - 1) s top e.value all.0.tree few in
    let long : length (map (slot_from m) (content 1 s e.value)) ≡ length (content 1 s e.value) = length-map (content 1 s e.value) (slot_from m) in
    let one : 1 + length (map (slot_from m) (content 1 s e.value)) / 63 ≡ 1 + length (content 1 s e.value) / 63 = ap (λ n. 1 + n / 63) long in
    omega (
      arith,
      length-append (volume_nodes s e.value) (gathered (volume_nodes s) es),
      volumes_few m s top few es all.1,
      here,
      one,
      sum_by-cons (λ n. 1 + n / 63) (length (map (slot_from m) (content 1 s e.value))) (mapped_counts (map (device_from m s) es)),
    )

-- a value of a volume's tree is a data block
far_values : (s : Store) (top c : ℕ) (e : Entry) → IsVolume s top e → 0 < occurrences c (values (content 1 s e.value)) → length s.nodes ≤ c
far_values s top c e v h =
    let es = content 1 s e.value in
    let p = occurrences_place c es h in
    let l = leaf_at 0 top es p.0 (ascend_tree 1 ((node_at s e.value).rank - 1) s 0 top e.value v.tree.tree) p.1 in
    let x = entry_of (get_or es p.0 blank).key (get_or es p.0 blank).value es l.is in
    omega (arith, v.data_blocks (get_or es p.0 blank).key x.0 x.1, x.2, p.2)

-- what a node of a volume's tree names
named_in_volumes : (s : Store) (top b c : ℕ) (es : List Entry) → AllByRecursion (IsVolume s top) es → 0 < occurrences b (gathered (volume_nodes s) es) → 0 < occurrences c (children (node_at s b))
    → (0 < occurrences c (gathered (volume_nodes s) es)) ⊎ (length s.nodes ≤ c)
named_in_volumes s top b c [] all here names = absurd (omega arith)
named_in_volumes s top b c (e ∷ es) all here names =
    let n = occurrences-append c (volume_nodes s e.value) (gathered (volume_nodes s) es) in
    elim (cases_lt 0 (occurrences b (volume_nodes s e.value))) [
      | inl l ↦ elim (named_by_nodes 1 ((node_at s e.value).rank - 1) s 0 top e.value b c (omega arith) all.0.tree.tree l names) [
        | inl a ↦ inl (omega (arith, a, n))
        | inr a ↦ inr (far_values s top c e all.0 a)
      ]
      | inr g ↦ elim (named_in_volumes s top b c es all.1 (omega (arith, g, here, occurrences-append b (volume_nodes s e.value) (gathered (volume_nodes s) es))) names) [
        | inl a ↦ inl (omega (arith, a, n))
        | inr a ↦ inr a
      ]
    ]

-- ---- all nodes

pub all_both : (P : Entry → Type 0) (xs ys : List Entry) → AllByRecursion P xs → AllByRecursion P ys → AllByRecursion P (xs ++ ys)
all_both P [] ys h k = k
all_both P (x ∷ xs) ys h k = (h.0, all_both P xs ys h.1 k)

-- more: volumes that the device tree does not name, to whose roots references are held
module _ (s : Store) (r0 : ℕ) (fixed : List ℕ) (top : ℕ) (held : List ℕ) (more : List Entry) (bal : Balanced s [] held) (known : (b : ℕ) → 0 < occurrences b held → 0 < occurrences b (values more ++ (r0 ∷ fixed)))
    (f : Forest s r0 fixed top) (extra : AllByRecursion (IsVolume s top) more) where
  abbrev pub devices : List ℕ
  devices = nodes_of ((node_at s r0).rank - 5) s r0

  abbrev pub volumes : List ℕ
  volumes = gathered (volume_nodes s) (more ++ content 5 s r0)

  abbrev pub blocks : List ℕ
  blocks = fixed ++ (devices ++ volumes)

  pub all : AllByRecursion (IsVolume s top) (more ++ content 5 s r0)
  all = all_both (IsVolume s top) more (content 5 s r0) extra (all_found (IsVolume s top) 0 (2 ^ 24) (content 5 s r0) (ascend_tree 5 ((node_at s r0).rank - 5) s 0 (2 ^ 24) r0 f.devices.tree) f.volumes)

  pub parts : (b : ℕ) → occurrences b blocks ≡ occurrences b fixed + (occurrences b devices + occurrences b volumes)
  parts b = occurrences-append b fixed (devices ++ volumes) ∙ ap (λ n. occurrences b fixed + n) (occurrences-append b devices volumes)

  bare_names : (b c : ℕ) → (node_at s b).rank ≡ 0 → 0 < occurrences c (children (node_at s b)) → ⊥
  bare_names b c bare h = let e : occurrences c (children (node_at s b)) ≡ 0 = ap (occurrences c) (no_children (node_at s b) bare) in absurd (omega arith)

  -- the root of a volume
  root_listed : (c : ℕ) → 0 < occurrences c (values more) + occurrences c (values (content 5 s r0)) → 0 < occurrences c blocks
  root_listed c h =
      let v : 0 < occurrences c volumes =
      roots_gathered (volume_nodes s) (λ x. first_node ((node_at s x).rank - 1) s x) c (more ++ content 5 s r0) (omega (arith, h, occurrences_values c more (content 5 s r0))) in
      omega (arith, v, parts c)

  -- a block that can be reached is among them, or a data block
  reached_listed : (b : ℕ) → Reached s held b → (0 < occurrences b blocks) ⊎ (length s.nodes ≤ b)
  reached_listed _ (root b p) =
      elim (cases_lt 0 (occurrences b (values more))) [
        | inl l ↦ inl (root_listed b (omega (arith, l)))
        | inr g ↦ elim (cases_eq r0 b) [
          | inl e ↦
              let here : 0 < occurrences b devices = subst (λ x. 0 < occurrences x devices) e (first_node ((node_at s r0).rank - 5) s r0) in
              inl (omega (arith, here, parts b))
          | inr d ↦ inl (omega (arith, known b p, occurrences-append b (values more) (r0 ∷ fixed), g, one_other r0 b d, parts b))
        ]
      ]
  reached_listed _ (below b c r names) =
      elim (reached_listed b r) [
        | inr far ↦ absurd (bare_names b c (data_rank s b far) names)
        | inl here ↦ elim (cases_lt 0 (occurrences b fixed)) [
          | inl l ↦ absurd (bare_names b c (f.bare b l) names)
          | inr g ↦ elim (cases_lt 0 (occurrences b devices)) [
            | inl l ↦ elim (named_by_nodes 5 ((node_at s r0).rank - 5) s 0 (2 ^ 24) r0 b c (omega arith) f.devices.tree l names) [
              | inl a ↦ inl (omega (arith, a, parts c))
              | inr a ↦ inl (root_listed c (omega (arith, a)))
            ]
            | inr k ↦ elim (named_in_volumes s top b c (more ++ content 5 s r0) all (omega (arith, here, g, k, parts b)) names) [
              | inl a ↦ inl (omega (arith, a, parts c))
              | inr a ↦ inr a
            ]
          ]
        ]
      ]

  pub live_listed : (b : ℕ) → b < length s.nodes → 0 < count_of s b → 0 < occurrences b blocks
  live_listed b l live =
      let t = bound s.nodes in
      elim (reached_listed b ((live_is_reached s held t.0 bal t.1 b).0 live)) [
        | inl h ↦ h
        | inr far ↦ absurd (omega (arith, far, l))
      ]

module _ (s : Store) (r0 : ℕ) (fixed : List ℕ) (top : ℕ) (bal : Balanced s [] (r0 ∷ fixed)) (f : Forest s r0 fixed top) where
  abbrev none : List Entry
  none = []

  nodes_few : (m : ℕ) → top ≤ 2 ^ 24 → length s.nodes ≡ m
      → metadata_in_use m s ≤ length fixed + 1 + length (volumes_below m s r0) / 31 + sum_by (λ n. 1 + n / 63) (mapped_counts (volumes_below m s r0))
  nodes_few m few is =
      let ds = nodes_of ((node_at s r0).rank - 5) s r0 in
      let vs = gathered (volume_nodes s) (content 5 s r0) in
      let listed : metadata_in_use m s ≤ length (fixed ++ (ds ++ vs)) = few_listed (λ b. nat_lt 0 (count_of s b)) (fixed ++ (ds ++ vs)) m
      (λ b l t. live_listed s r0 fixed top (r0 ∷ fixed) none bal (λ c h. h) f tt b (omega (arith, l, is)) (ltb-true 0 (count_of s b) t)) in
      let dev : length ds ≤ 1 + length (content 5 s r0) / 31 = few_device_nodes ((node_at s r0).rank - 5) s (2 ^ 24) r0 f.devices in
      let vol : length vs ≤ sum_by (λ n. 1 + n / 63) (mapped_counts (volumes_below m s r0)) =
      volumes_few m s top few (content 5 s r0) (all_found (IsVolume s top) 0 (2 ^ 24) (content 5 s r0) (ascend_tree 5 ((node_at s r0).rank - 5) s 0 (2 ^ 24) r0 f.devices.tree) f.volumes) in
      let long : length (volumes_below m s r0) / 31 ≡ length (content 5 s r0) / 31 = ap (λ n. n / 31) (length-map (content 5 s r0) (device_from m s)) in
      omega (arith, listed, dev, vol, long, length-append fixed (ds ++ vs), length-append ds vs)

pub nodes_are_few : NodesAreFew
nodes_are_few m s r0 fixed top bal f few is = nodes_few s r0 fixed top bal f m few is
