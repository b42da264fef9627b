-- How many metadata blocks have a count, by the nodes of the device tree and the nodes below it.
use Rattle.std.proofs.Common.{◌≡◌, ℕ, zero, suc, ◌+◌, ◌-◌, ◌^◌, ◌<◌, ◌≤◌, cond, List, [], ◌∷◌, ◌++◌, length, refl, sym, ap, subst, ◌∙◌, arith, inl, inr, Option, None, Some}
use Rattle.std.specs.Prelude.{nat_lt}
use Rattle.std.specs.List.{AllByRecursion, count_by, range_with_len}
use Rattle.std.proofs.lemmas.Bool.{cases_eq, cases_lt, lt-ltb}
use Rattle.tp_model.proofs.Counting.{count_more}
use Rattle.tp_layout.specs.declared.entry.Entry.{Entry}
use Rattle.tp_layout.specs.Entries.{found, with_entry, without_key}
use Rattle.tp_layout.proofs.Ordered.{found_with_other, found_with_same, found_without_other, found_without_same}
use Rattle.tp_refs.specs.Store.{Store, children, count_of, node_at, values}
use Rattle.tp_refs.specs.Balance.{Balanced, SameBelow, counted, occurrences, one_if_same, sum_below}
use Rattle.tp_refs.specs.Reach.{Reached, root, below}
use Rattle.tp_refs.proofs.Reach.{counted_from, live_is_reached}
use Rattle.tp_refs.proofs.Steps.{child_live, counted_dead, counted_live, held_live, occurrences-append, one_same}
use Rattle.tp_trees.specs.Tree.{pairs}
use Rattle.tp_trees.specs.Sizes.{gathered, nodes_of}
use Rattle.tp_trees.proofs.Frames.{tree_same}
use Rattle.tp_trees.proofs.Nodes.{nodes_same}
use Rattle.tp_trees.proofs.Once.{below_sym, node_ranks, nodes_live, nodes_once}
use Rattle.tp_trees.proofs.Trees.{ascend_tree, rank_inside, tree_rank}
use Rattle.tp_sharing.specs.Forest.{Forest, IsVolume, content}
use Rattle.tp_sharing.specs.Later.{DevicesChanged}
use Rattle.tp_sharing.specs.Sizes.{TreeStays, UseByDevices, device_nodes, metadata_in_use}
use Rattle.tp_sharing.proofs.Later.{content_is_pairs, device_is_put, device_is_taken, low_blocks_stay, volume_kept, volumes_are_live}
use Rattle.tp_sharing.proofs.Places.{bound}
use Rattle.tp_sharing.proofs.Sizes.{all, all_both, all_found, as_long, live_listed, parts, sum_both, volume_nodes}

-- ---- sums

sum_at_most : (f g : ℕ → ℕ) (n : ℕ) → ((i : ℕ) → i < n → f i ≤ g i) → sum_below f n ≤ sum_below g n
unfolding sum_below
sum_at_most f g zero h = omega arith
sum_at_most f g (suc n) h = omega (arith, sum_at_most f g n (λ i l. h i (omega arith)), h n (omega arith))

one_below : (x n : ℕ) → x < n → 1 ≤ sum_below (one_if_same x) n
unfolding sum_below
one_below x zero l = absurd (omega arith)
one_below x (suc n) l =
    elim (cases_eq x n) [
      | inl e ↦ omega (arith, one_same x n e)
      | inr d ↦ omega (arith, one_below x n (omega (arith, d)))
    ]

-- a list of numbers below n is no longer than they stand in it
no_longer : (xs : List ℕ) (n : ℕ) → ((b : ℕ) → 0 < occurrences b xs → b < n) → length xs ≤ sum_below (λ b. occurrences b xs) n
no_longer [] n h = omega arith
no_longer (x ∷ xs) n h =
    omega (arith, sum_both (one_if_same x) (λ b. occurrences b xs) n, one_below x n (h x (omega (arith, one_same x x refl))), no_longer xs n (λ b l. h b (omega (arith, l))))

is_counted : (n : ℕ) → cond (nat_lt 0 n) 1 0 ≡ counted n 0 1
is_counted zero = refl
is_counted (suc n) = ap (λ t. cond t 1 0) (lt-ltb 0 (suc n) (omega arith))

use_is_sum : (s : Store) (m : ℕ) → metadata_in_use m s ≡ sum_below (λ b. counted (count_of s b) 0 1) m
unfolding sum_below
use_is_sum s zero = refl
use_is_sum s (suc m) =
    let more : m + 1 ≡ suc m = omega arith in
    let c : metadata_in_use (suc m) s ≡ metadata_in_use m s + cond (nat_lt 0 (count_of s m)) 1 0 =
    ap (λ k. count_by (λ b. nat_lt 0 (count_of s b)) (range_with_len 0 k)) (sym more) ∙ count_more (λ b. nat_lt 0 (count_of s b)) m in
    omega (arith, c, is_counted (count_of s m), use_is_sum s m)

-- ---- live nodes below the device tree

-- 1 where the block is live and its rank is one of a volume's tree, else 0
abbrev low_node : Store → ℕ → ℕ
low_node s b = counted (count_of s b) ((node_at s b).rank - 4) (counted (node_at s b).rank 0 1)

low_is : (s : Store) (b : ℕ) → 0 < count_of s b → 0 < (node_at s b).rank → (node_at s b).rank < 5 → low_node s b ≡ 1
low_is s b live inner low =
    counted_live (count_of s b) ((node_at s b).rank - 4) (counted (node_at s b).rank 0 1) live (omega (arith, low)) ∙ counted_live (node_at s b).rank 0 1 inner refl

one_counted : (n o x : ℕ) → x ≤ 1 → counted n o x ≤ counted n 0 1
one_counted zero o x h = omega arith
one_counted (suc n) zero x h = h
one_counted (suc n) (suc o) x h = omega arith

low_at_most : (s : Store) (b : ℕ) → low_node s b ≤ counted (count_of s b) 0 1
low_at_most s b = one_counted (count_of s b) ((node_at s b).rank - 4) (counted (node_at s b).rank 0 1) (once (node_at s b).rank) where
  once : (n : ℕ) → counted n 0 1 ≤ 1
  once zero = omega arith
  once (suc n) = omega arith

low_from : (s : Store) (b : ℕ) → 0 < low_node s b → (0 < (node_at s b).rank) × ((node_at s b).rank < 5)
low_from s b h =
    let a = counted_from (count_of s b) ((node_at s b).rank - 4) (counted (node_at s b).rank 0 1) h in
    let c = counted_from (node_at s b).rank 0 1 a.1.1 in
    (c.0, omega (arith, a.1.0))

-- ---- what is in use at least

module _ (s : Store) (held : List ℕ) (r0 : ℕ) (fixed : List ℕ) (top : ℕ) (bal : Balanced s [] held) (holds : (b : ℕ) → 0 < occurrences b (r0 ∷ fixed) → 0 < occurrences b held) (f : Forest s r0 fixed top) where
  abbrev level : ℕ
  level = (node_at s r0).rank - 5

  abbrev nodes : List ℕ
  nodes = nodes_of level s r0

  root_live : 0 < count_of s r0
  root_live = held_live s [] held r0 bal (holds r0 (omega (arith, one_same r0 r0 refl)))

  device_live : (b : ℕ) → 0 < occurrences b nodes → 0 < count_of s b
  device_live b h = nodes_live s held bal 5 level 0 (2 ^ 24) r0 b (omega arith) f.devices.tree root_live h

  device_rank : (b : ℕ) → 0 < occurrences b nodes → 5 ≤ (node_at s b).rank
  device_rank b h = (node_ranks 5 level s 0 (2 ^ 24) r0 b f.devices.tree h).0

  fixed_live : (b : ℕ) → 0 < occurrences b fixed → 0 < count_of s b
  fixed_live b h = held_live s [] held b bal (holds b (omega (arith, h)))

  each_once : (b : ℕ) → occurrences b fixed + (occurrences b nodes + low_node s b) ≤ counted (count_of s b) 0 1
  each_once b =
      elim (cases_lt 0 (occurrences b fixed)) [
        | inl l ↦
            let one : counted (count_of s b) 0 1 ≡ 1 = counted_live (count_of s b) 0 1 (fixed_live b l) refl in
            elim (cases_lt 0 (occurrences b nodes)) [
              | inl n ↦ absurd (omega (arith, f.bare b l, device_rank b n))
              | inr n ↦ elim (cases_lt 0 (low_node s b)) [
                | inl v ↦ absurd (omega (arith, f.bare b l, (low_from s b v).0))
                | inr v ↦ omega (arith, one, f.once b, n, v)
              ]
            ]
        | inr l ↦ elim (cases_lt 0 (occurrences b nodes)) [
          | inl n ↦
              let one : counted (count_of s b) 0 1 ≡ 1 = counted_live (count_of s b) 0 1 (device_live b n) refl in
              elim (cases_lt 0 (low_node s b)) [
                | inl v ↦ absurd (omega (arith, device_rank b n, (low_from s b v).1))
                | inr v ↦ omega (arith, one, nodes_once 5 level s 0 (2 ^ 24) r0 b f.devices.tree, l, v)
              ]
          | inr n ↦ omega (arith, l, n, low_at_most s b)
        ]
      ]

  three_sums : (g : ℕ → ℕ) (m : ℕ) → sum_below (λ b. occurrences b fixed + (occurrences b nodes + g b)) m
      ≡ sum_below (λ b. occurrences b fixed) m + (sum_below (λ b. occurrences b nodes) m + sum_below g m)
  three_sums g m = omega (arith, sum_both (λ b. occurrences b fixed) (λ b. occurrences b nodes + g b) m, sum_both (λ b. occurrences b nodes) g m)

  pub use_at_least : (m : ℕ) → length s.nodes ≡ m → sum_below (λ b. occurrences b fixed) m + (device_nodes s r0 + sum_below (low_node s) m) ≤ metadata_in_use m s
  use_at_least m is =
      let each : sum_below (λ b. occurrences b fixed + (occurrences b nodes + low_node s b)) m ≤ sum_below (λ b. counted (count_of s b) 0 1) m =
      sum_at_most (λ b. occurrences b fixed + (occurrences b nodes + low_node s b)) (λ b. counted (count_of s b) 0 1) m (λ b l. each_once b) in
      let long : length nodes ≤ sum_below (λ b. occurrences b nodes) m = no_longer nodes m (λ b h. omega (arith, rank_inside s b (omega (arith, device_rank b h)), is)) in
      omega (arith, each, three_sums (low_node s) m, use_is_sum s m, long)

-- ---- and at most

module _ (s t : Store) (held later : List ℕ) (next : ℕ) (fixed : List ℕ) (top : ℕ) (more : List Entry) (before : Balanced s [] held) (bal : Balanced t [] later)
    (known : (b : ℕ) → 0 < occurrences b later → 0 < occurrences b (values more ++ (next ∷ fixed))) (f : Forest t next fixed top)
    (extra : AllByRecursion (IsVolume t top) more) (extra_stay : AllByRecursion (λ (e : Entry). TreeStays s t e.value) more)
    (stays : (device : ℕ) (e : Entry) → found device (content 5 t next) ≡ Some e → TreeStays s t e.value) where
  abbrev Stay : Entry → Type 0
  Stay e = TreeStays s t e.value

  -- a node of a volume's tree that stays
  low_there : (b : ℕ) (e : Entry) → IsVolume t top e → TreeStays s t e.value → 0 < occurrences b (volume_nodes t e.value) → low_node s b ≡ 1
  low_there b e v h here =
      let k = (node_at t e.value).rank - 1 in
      let back : SameBelow k t s e.value = below_sym k s t e.value (h.same k) in
      let tree = tree_same 1 k t s 0 top e.value back v.tree.tree in
      let was : 0 < occurrences b (nodes_of k s e.value) = subst (λ xs. 0 < occurrences b xs) (sym (nodes_same 1 k t s 0 top e.value back v.tree.tree)) here in
      let ranks = node_ranks 1 k s 0 top e.value b tree was in
      low_is s b (nodes_live s held before 1 k 0 top e.value b (omega arith) tree h.live was) (omega (arith, ranks.0)) (omega (arith, ranks.1, h.low, tree_rank 1 k s 0 top e.value tree))

  low_among : (b : ℕ) (es : List Entry) → AllByRecursion (IsVolume t top) es → AllByRecursion Stay es → 0 < occurrences b (gathered (volume_nodes t) es) → low_node s b ≡ 1
  low_among b [] vs hs here = absurd (omega arith)
  low_among b (e ∷ es) vs hs here =
      elim (cases_lt 0 (occurrences b (volume_nodes t e.value))) [
        | inl l ↦ low_there b e vs.0 hs.0 l
        | inr g ↦ low_among b es vs.1 hs.1 (omega (arith, g, here, occurrences-append b (volume_nodes t e.value) (gathered (volume_nodes t) es)))
      ]

  abbrev level_now : ℕ
  level_now = (node_at t next).rank - 5

  abbrev nodes_now : List ℕ
  nodes_now = nodes_of level_now t next

  abbrev volumes_now : List ℕ
  volumes_now = gathered (volume_nodes t) (more ++ content 5 t next)

  low_now : (b : ℕ) → 0 < occurrences b volumes_now → low_node s b ≡ 1
  low_now b here =
      low_among b (more ++ content 5 t next) (all t next fixed top later more bal known f extra)
      (all_both Stay more (content 5 t next) extra_stay (all_found Stay 0 (2 ^ 24) (content 5 t next) (ascend_tree 5 level_now t 0 (2 ^ 24) next f.devices.tree) stays)) here

  each_now : (b : ℕ) → b < length t.nodes → counted (count_of t b) 0 1 ≤ occurrences b fixed + (occurrences b nodes_now + low_node s b)
  each_now b l =
      elim (cases_lt 0 (count_of t b)) [
        | inr dead ↦ omega (arith, counted_dead (count_of t b) 0 1 (omega (arith, dead)))
        | inl live ↦
            let one : counted (count_of t b) 0 1 ≡ 1 = counted_live (count_of t b) 0 1 live refl in
            let among = live_listed t next fixed top later more bal known f extra b l live in
            elim (cases_lt 0 (occurrences b volumes_now)) [
              | inl v ↦ omega (arith, one, low_now b v)
              | inr v ↦ omega (arith, one, among, parts t next fixed top later more bal known f extra b, v)
            ]
      ]

  use_at_most : (m : ℕ) → length t.nodes ≡ m → metadata_in_use m t ≤ sum_below (λ b. occurrences b fixed) m + (device_nodes t next + sum_below (low_node s) m)
  use_at_most m is =
      let each : sum_below (λ b. counted (count_of t b) 0 1) m ≤ sum_below (λ b. occurrences b fixed + (occurrences b nodes_now + low_node s b)) m =
      sum_at_most (λ b. counted (count_of t b) 0 1) (λ b. occurrences b fixed + (occurrences b nodes_now + low_node s b)) m (λ b l. each_now b (omega (arith, l, is))) in
      let first : sum_below (λ b. occurrences b fixed + (occurrences b nodes_now + low_node s b)) m ≡ sum_below (λ b. occurrences b fixed) m + sum_below (λ b. occurrences b nodes_now + low_node s b) m =
      sum_both (λ b. occurrences b fixed) (λ b. occurrences b nodes_now + low_node s b) m in
      let second : sum_below (λ b. occurrences b nodes_now + low_node s b) m ≡ sum_below (λ b. occurrences b nodes_now) m + sum_below (low_node s) m = sum_both (λ b. occurrences b nodes_now) (low_node s) m in
      omega (arith, each, first, second, use_is_sum t m, as_long nodes_now m)

pub use_by_devices : UseByDevices
use_by_devices m s t held later r0 next fixed top more before holds f is bal known g now_is extra extra_stay stays =
    omega (arith, use_at_least s held r0 fixed top before holds f m is, use_at_most s t held later next fixed top more before bal known g extra extra_stay stays m now_is)

-- ---- after an operation on the device tree

same_entry : (x y : Entry) → Some x ≡ Some y → x ≡ y
same_entry x y h = cc

no_entry : (y : Entry) (o : Option Entry) → o ≡ None → o ≡ Some y → ⊥
no_entry y o a b = cc

module _ (m : ℕ) (s t : Store) (r0 next : ℕ) (fixed held : List ℕ) (k top : ℕ) (f : Forest s r0 fixed top) (c : DevicesChanged s t r0 next fixed [] held k)
    (holds : (b : ℕ) → 0 < occurrences b (r0 ∷ fixed) → 0 < occurrences b held) (is : length s.nodes ≡ m) where
  height_is : (node_at t next).rank - 5 ≡ k
  height_is = omega (arith, tree_rank 5 k t 0 (2 ^ 24) next c.whole.tree)

  content_now : (ps : List Entry) → pairs k t next ≡ ps → content 5 t next ≡ ps
  content_now ps e = content_is_pairs 5 k t 0 (2 ^ 24) next c.whole.tree ∙ e

  was_there : (device : ℕ) (e : Entry) → found device (content 5 s r0) ≡ Some e → TreeStays s t e.value
  was_there device e fd =
      let v = volumes_are_live s [] held r0 fixed top c.balance c.held_root f device e fd in
      record { live = v.0; low = v.2; same = low_blocks_stay 5 s t [] held c.balance c.stay e.value v.0 v.1 v.2 }

  put_stays : (x : Entry) → pairs k t next ≡ with_entry x (content 5 s r0) → TreeStays s t x.value → (device : ℕ) (y : Entry) → found device (content 5 t next) ≡ Some y → TreeStays s t y.value
  put_stays x e stays device y h =
      let there : found device (with_entry x (content 5 s r0)) ≡ Some y = ap (found device) (sym (content_now (with_entry x (content 5 s r0)) e)) ∙ h in
      elim (cases_eq device x.key) [
        | inl q ↦
            let z : x ≡ y = same_entry x y (sym (found_with_same x (content 5 s r0)) ∙ (ap (λ d. found d (with_entry x (content 5 s r0))) (sym q) ∙ there)) in
            subst (λ (w : Entry). TreeStays s t w.value) z stays
        | inr n ↦ was_there device y (sym (found_with_other x device (content 5 s r0) n) ∙ there)
      ]

  taken_stays : (id : ℕ) → pairs k t next ≡ without_key id (content 5 s r0) → (device : ℕ) (y : Entry) → found device (content 5 t next) ≡ Some y → TreeStays s t y.value
  taken_stays id e device y h =
      let up = ascend_tree 5 ((node_at s r0).rank - 5) s 0 (2 ^ 24) r0 f.devices.tree in
      let there : found device (without_key id (content 5 s r0)) ≡ Some y = ap (found device) (sym (content_now (without_key id (content 5 s r0)) e)) ∙ h in
      elim (cases_eq device id) [
        | inl q ↦ absurd (no_entry y (found id (without_key id (content 5 s r0))) (found_without_same 0 (2 ^ 24) id (content 5 s r0) up) (ap (λ d. found d (without_key id (content 5 s r0))) (sym q) ∙ there))
        | inr n ↦ was_there device y (sym (found_without_other id device (content 5 s r0) n) ∙ there)
      ]

  -- the tree of a new entry, to which a reference was held
  held_stays : (x : Entry) → 0 < occurrences x.value held → (node_at s x.value).rank < 5 → TreeStays s t x.value
  held_stays x here low =
      let live : 0 < count_of s x.value = held_live s [] held x.value c.balance here in
      record { live = live; low = low; same = low_blocks_stay 5 s t [] held c.balance c.stay x.value live refl low }

  -- an entry was put in, for a tree that was held
  pub put_use : (x : Entry) → pairs k t next ≡ with_entry x (content 5 s r0) → IsVolume s top x → 0 < occurrences x.value held → (node_at s x.value).rank < 5 → Balanced t [] (next ∷ fixed)
      → metadata_in_use m t + device_nodes s r0 ≤ metadata_in_use m s + length (nodes_of k t next)
  put_use x e v here low now =
      let g = (device_is_put s t r0 next fixed [] held k top f c x e v here low).0 in
      let none : List Entry = [] in
      let r = use_by_devices m s t held (next ∷ fixed) r0 next fixed top none c.balance holds f is now (λ b h. h) g (omega (arith, c.sized, is)) tt tt (put_stays x e (held_stays x here low)) in
      let j : length (nodes_of ((node_at t next).rank - 5) t next) ≡ length (nodes_of k t next) = ap (λ n. length (nodes_of n t next)) height_is in
      omega (arith, r, j)

  -- an entry was put in the place of another one, for a tree that was held, and the reference to the other's tree is held
  pub over_use : (x old : Entry) → found x.key (content 5 s r0) ≡ Some old → pairs k t next ≡ with_entry x (content 5 s r0) → IsVolume s top x → 0 < occurrences x.value held → (node_at s x.value).rank < 5
      → Balanced t [] (next ∷ old.value ∷ fixed) → metadata_in_use m t + device_nodes s r0 ≤ metadata_in_use m s + length (nodes_of k t next)
  over_use x old fd e v here low now =
      let g = (device_is_put s t r0 next fixed [] held k top f c x e v here low).0 in
      let was = was_there x.key old fd in
      let kept = (volume_kept s t top old old (f.volumes x.key old fd) c.sized refl refl was.same).0 in
      let one : List Entry = old ∷ [] in
      let r =
      use_by_devices m s t held (next ∷ old.value ∷ fixed) r0 next fixed top one c.balance holds f is now (λ b h. omega (arith, h)) g (omega (arith, c.sized, is)) (kept, tt) (was, tt)
      (put_stays x e (held_stays x here low)) in
      let j : length (nodes_of ((node_at t next).rank - 5) t next) ≡ length (nodes_of k t next) = ap (λ n. length (nodes_of n t next)) height_is in
      omega (arith, r, j)

  -- an entry was taken out, and the reference to its tree is held
  pub taken_use : (id : ℕ) (old : Entry) → found id (content 5 s r0) ≡ Some old → pairs k t next ≡ without_key id (content 5 s r0) → Balanced t [] (next ∷ old.value ∷ fixed)
      → metadata_in_use m t + device_nodes s r0 ≤ metadata_in_use m s + length (nodes_of k t next)
  taken_use id old fd e now =
      let g = (device_is_taken s t r0 next fixed [] held k top f c id e).0 in
      let stays = was_there id old fd in
      let kept = (volume_kept s t top old old (f.volumes id old fd) c.sized refl refl stays.same).0 in
      let one : List Entry = old ∷ [] in
      let r = use_by_devices m s t held (next ∷ old.value ∷ fixed) r0 next fixed top one c.balance holds f is now (λ b h. omega (arith, h)) g (omega (arith, c.sized, is)) (kept, tt) (stays, tt) (taken_stays id e) in
      let j : length (nodes_of ((node_at t next).rank - 5) t next) ≡ length (nodes_of k t next) = ap (λ n. length (nodes_of n t next)) height_is in
      omega (arith, r, j)

-- ---- where no node is written

pub in_use_wider : (m : ℕ) (s t : Store) → ((b : ℕ) → 0 < count_of t b → 0 < count_of s b) → metadata_in_use m t ≤ metadata_in_use m s
in_use_wider m s t h =
    let each : sum_below (λ b. counted (count_of t b) 0 1) m ≤ sum_below (λ b. counted (count_of s b) 0 1) m =
    sum_at_most (λ b. counted (count_of t b) 0 1) (λ b. counted (count_of s b) 0 1) m (λ b l. one b) in
    omega (arith, each, use_is_sum s m, use_is_sum t m)
  where
    one : (b : ℕ) → counted (count_of t b) 0 1 ≤ counted (count_of s b) 0 1
    one b =
        elim (cases_lt 0 (count_of t b)) [
          | inl l ↦ omega (arith, counted_live (count_of t b) 0 1 l refl, counted_live (count_of s b) 0 1 (h b l) refl)
          | inr z ↦ omega (arith, counted_dead (count_of t b) 0 1 (omega (arith, z)))
        ]

-- references were passed on or given up: no block comes into use
module _ (s t : Store) (held later : List ℕ) (bal : Balanced s [] held) (now : Balanced t [] later) (same : (b : ℕ) → node_at t b ≡ node_at s b) (live : (b : ℕ) → 0 < occurrences b later → 0 < count_of s b) where
  reached_before : (b : ℕ) → Reached t later b → 0 < count_of s b
  reached_before _ (root b p) = live b p
  reached_before _ (below b c r here) = child_live s [] held b c bal (reached_before b r) refl (subst (λ n. 0 < occurrences c (children n)) (same b) here)

  pub passed_live : (b : ℕ) → 0 < count_of t b → 0 < count_of s b
  passed_live b l = let top = bound t.nodes in reached_before b ((live_is_reached t later top.0 now top.1 b).0 l)
