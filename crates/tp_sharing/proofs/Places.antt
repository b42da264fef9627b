-- What each live block is: a fixed block, a node of the device tree or of a volume's tree, or a data block.
use Rattle.std.proofs.Common.{◌≡◌, ℕ, zero, suc, ◌+◌, ◌-◌, ◌<◌, ◌≤◌, List, [], ◌∷◌, ◌++◌, length, get_or, ap, subst, ◌∙◌, arith, inl, inr, Some}
use Rattle.std.proofs.lemmas.Bool.{cases_lt}
use Rattle.tp_refs.specs.Store.{Node, Store, count_of, node_at, children, no_node}
use Rattle.tp_refs.specs.Balance.{occurrences, times_named, Balanced}
use Rattle.tp_refs.specs.Reach.{Reached, root, below}
use Rattle.tp_layout.specs.Entries.{rank_of}
use Rattle.tp_refs.proofs.Reach.{live_is_reached, namer, reached_live}
use Rattle.tp_refs.proofs.Steps.{occurrences-append}
use Rattle.tp_trees.specs.Tree.{pairs}
use Rattle.tp_trees.proofs.Trees.{rank_inside, tree_rank}
use Rattle.tp_sharing.specs.Forest.{content, down, value_at}
use Rattle.tp_sharing.proofs.Grove.{Grove}
use Rattle.tp_sharing.proofs.Lists.{leaf_at}
use Rattle.tp_sharing.proofs.Refs.{Names, no_children, names_child, child_place}
use Rattle.tp_sharing.proofs.Ways.{Stands, top_stands, child_entry, child_stands, at, begin, end}

pub data Place (s : Store) (top_root : ℕ) (fixed : List ℕ) (ids top b : ℕ) : Type 0 where
  fixed_block : 0 < occurrences b fixed → Place s top_root fixed ids top b
  device_node : (n j from to : ℕ) → Stands 5 ((node_at s top_root).rank - 5) s ids top_root b n j from to → Place s top_root fixed ids top b
  volume_node : (device r n j from to : ℕ) → value_at device (content 5 s top_root) ≡ Some r → Stands 1 ((node_at s r).rank - 1) s top r b n j from to → Place s top_root fixed ids top b
  data_block : (device r block : ℕ) → value_at device (content 5 s top_root) ≡ Some r → value_at block (content 1 s r) ≡ Some b → Place s top_root fixed ids top b

-- how the entry at place i of c, which names x, stands on the paths
pub data Via (s : Store) (top_root ids top c i x : ℕ) : Type 0 where
  via_devices : (n j from to : ℕ) → Stands 5 ((node_at s top_root).rank - 5) s ids top_root x (suc n) j from to
      → ((q : ℕ) → from ≤ q → q < to → (down s q top_root n ≡ c) × (rank_of q (node_at s c).entries ≡ suc i)) → Via s top_root ids top c i x
  via_device : (device : ℕ) → value_at device (content 5 s top_root) ≡ Some x → down s device top_root ((node_at s top_root).rank - 5) ≡ c → rank_of device (node_at s c).entries ≡ suc i → Via s top_root ids top c i x
  via_node : (device r n j from to : ℕ) → value_at device (content 5 s top_root) ≡ Some r → Stands 1 ((node_at s r).rank - 1) s top r x (suc n) j from to
      → ((q : ℕ) → from ≤ q → q < to → (down s q r n ≡ c) × (rank_of q (node_at s c).entries ≡ suc i)) → Via s top_root ids top c i x
  via_leaf : (device r block : ℕ) → value_at device (content 5 s top_root) ≡ Some r → value_at block (content 1 s r) ≡ Some x → down s block r ((node_at s r).rank - 1) ≡ c → rank_of block (node_at s c).entries ≡ suc i → Via s top_root ids top c i x

-- a data block has no node
pub data_rank : (s : Store) (b : ℕ) → length s.nodes ≤ b → (node_at s b).rank ≡ 0
data_rank s b h =
    elim (cases_lt 0 (node_at s b).rank) [
      | inl p ↦ absurd (omega (arith, rank_inside s b p))
      | inr z ↦ omega arith
    ]

leaf_end : (base k : ℕ) (s : Store) (top r c n from to i : ℕ) → Stands base k s top r c n 0 from to → i < length (node_at s c).entries
    → (value_at (begin s c i) (pairs k s r) ≡ Some (at s c i)) × (down s (begin s c i) r k ≡ c) × (rank_of (begin s c i) (node_at s c).entries ≡ suc i)
leaf_end base k s top r c n from to i st w =
    let l = leaf_at from to (node_at s c).entries i st.tree.1 w in (
      st.alike (begin s c i) l.lower l.upper ∙ l.is,
      ap (down s (begin s c i) r) (omega (arith, st.depth)) ∙ st.leads (begin s c i) l.lower l.upper,
      l.at,
    )

pub via : (s : Store) (r0 : ℕ) (fixed : List ℕ) (ids top c i x : ℕ) → Grove s r0 fixed ids top → Place s r0 fixed ids top c → Names s c i x → Via s r0 ids top c i x
via s r0 fixed ids top c i x f (fixed_block p) n =
    let e : occurrences x (children (node_at s c)) ≡ 0 = ap (occurrences x) (no_children (node_at s c) (f.bare c p)) in
    absurd (omega (arith, names_child s c i x n))
via s r0 fixed ids top c i x f (device_node n zero from to st) m =
    let e = leaf_end 5 ((node_at s r0).rank - 5) s ids r0 c n from to i st m.within in
    subst (Via s r0 ids top c i) m.is (via_device (begin s c i) e.0 e.1 e.2)
via s r0 fixed ids top c i x f (device_node n (suc j) from to st) m =
    let e = child_entry 5 j s from to c i st.tree m.within in
    subst (Via s r0 ids top c i) m.is (via_devices n j (begin s c i) (end s c i to) (child_stands 5 ((node_at s r0).rank - 5) s ids r0 c n j from to i st m.within)
    (λ q l u. (st.leads q (omega (arith, e.lower)) (omega (arith, e.upper)), e.at q l u)))
via s r0 fixed ids top c i x f (volume_node device r n zero from to g st) m =
    let e = leaf_end 1 ((node_at s r).rank - 1) s top r c n from to i st m.within in
    subst (Via s r0 ids top c i) m.is (via_leaf device r (begin s c i) g e.0 e.1 e.2)
via s r0 fixed ids top c i x f (volume_node device r n (suc j) from to g st) m =
    let e = child_entry 1 j s from to c i st.tree m.within in
    subst (Via s r0 ids top c i) m.is (via_node device r n j (begin s c i) (end s c i to) g (child_stands 1 ((node_at s r).rank - 1) s top r c n j from to i st m.within)
    (λ q l u. (st.leads q (omega (arith, e.lower)) (omega (arith, e.upper)), e.at q l u)))
via s r0 fixed ids top c i x f (data_block device r block g h) m = absurd (m.inner (data_rank s c (f.data_blocks device r block c g h)))

pub place_child : (s : Store) (r0 : ℕ) (fixed : List ℕ) (ids top c i x : ℕ) → Grove s r0 fixed ids top → Via s r0 ids top c i x → Place s r0 fixed ids top x
place_child s r0 fixed ids top c i x f (via_devices n j from to st a) = device_node (suc n) j from to st
place_child s r0 fixed ids top c i x f (via_device device g a b) = volume_node device x 0 ((node_at s x).rank - 1) 0 top g (top_stands 1 ((node_at s x).rank - 1) s top x (f.volumes device x g))
place_child s r0 fixed ids top c i x f (via_node device r n j from to g st a) = volume_node device r (suc n) j from to g st
place_child s r0 fixed ids top c i x f (via_leaf device r block g h a b) = data_block device r block g h

pub bound : (ns : List Node) → (t : ℕ) × ((b : ℕ) → (get_or ns b no_node).rank < t)
bound [] = (1, λ b. omega arith)
bound (n ∷ ns) = let r = bound ns in (suc (n.rank + r.0), each n ns r.0 r.1)
  where
    each : (n : Node) (ns : List Node) (t : ℕ) → ((b : ℕ) → (get_or ns b no_node).rank < t) → (b : ℕ) → (get_or (n ∷ ns) b no_node).rank < suc (n.rank + t)
    each n ns t h zero = omega arith
    each n ns t h (suc b) = omega (arith, h b)

-- Every live block has its place below one of the roots. The trees below different roots may share nodes.
module _ (s : Store) (roots fixed : List ℕ) (ids top : ℕ) (bal : Balanced s [] (roots ++ fixed)) (f : (r : ℕ) → 0 < occurrences r roots → Grove s r fixed ids top)
    (r0 : ℕ) (h0 : 0 < occurrences r0 roots) where
  pub place_reached : (b : ℕ) → Reached s (roots ++ fixed) b → (r : ℕ) × (0 < occurrences r roots) × Place s r fixed ids top b
  place_reached _ (root b p) =
      elim (cases_lt 0 (occurrences b roots)) [
        | inl h ↦ (b, h, device_node 0 ((node_at s b).rank - 5) 0 ids (top_stands 5 ((node_at s b).rank - 5) s ids b (f b h).devices))
        | inr z ↦ (r0, h0, fixed_block (omega (arith, p, z, occurrences-append b roots fixed)))
      ]
  place_reached _ (below b c r here) =
      let p = place_reached b r in
      let g = f p.0 p.1 in
      let n = child_place s b c (reached_live s (roots ++ fixed) bal b r) here in
      (p.0, p.1, place_child s p.0 fixed ids top b n.0 c g (via s p.0 fixed ids top b n.0 c g p.2 n.1))

  pub place_live : (b : ℕ) → 0 < count_of s b → (r : ℕ) × (0 < occurrences r roots) × Place s r fixed ids top b
  place_live b live = let t = bound s.nodes in place_reached b ((live_is_reached s (roots ++ fixed) t.0 bal t.1 b).0 live)

  -- nothing names a fixed block but what holds it
  unnamed : (r : ℕ) → Grove s r fixed ids top → (b c i : ℕ) → 0 < occurrences b fixed → Via s r ids top c i b → ⊥
  unnamed r g b c i h (via_devices n j from to st a) = absurd (omega (arith, g.bare b h, tree_rank 5 j s from to b st.tree))
  unnamed r g b c i h (via_device device d a e) = absurd (omega (arith, g.bare b h, tree_rank 1 ((node_at s b).rank - 1) s 0 top b (g.volumes device b d)))
  unnamed r g b c i h (via_node device v n j from to d st a) = absurd (omega (arith, g.bare b h, tree_rank 1 j s from to b st.tree))
  unnamed r g b c i h (via_leaf device v block d k a e) = absurd (omega (arith, g.inside b h, g.data_blocks device v block b d k))

  -- no fixed block is a root
  pub fixed_no_root : (b : ℕ) → 0 < occurrences b fixed → occurrences b roots ≡ 0
  fixed_no_root b h =
      elim (cases_lt 0 (occurrences b roots)) [
        | inl p ↦ absurd (omega (arith, (f r0 h0).bare b h, tree_rank 5 ((node_at s b).rank - 5) s 0 ids b (f b p).devices))
        | inr z ↦ omega arith
      ]

  pub fixed_once : (b : ℕ) → 0 < occurrences b fixed → count_of s b ≡ 1
  fixed_once b h =
      elim (cases_lt 0 (times_named s [] b)) [
        | inl p ↦
            let c = namer s b p in
            let n = child_place s c.0 b c.1.0 c.1.1 in
            let w = place_live c.0 c.1.0 in
            absurd (unnamed w.0 (f w.0 w.1) b c.0 n.0 h (via s w.0 fixed ids top c.0 n.0 b (f w.0 w.1) w.2 n.1))
        | inr z ↦ omega (arith, bal.true b, (f r0 h0).once b, fixed_no_root b h, occurrences-append b roots fixed, z)
      ]
