-- The blocks on the path of a key.
use Rattle.std.proofs.Common.{◌≡◌, ℕ, zero, suc, ◌+◌, ◌<◌, ◌≤◌, List, [], length, get_or, drop, refl, sym, ap, subst, ◌∙◌, arith, Some, option_map}
use Rattle.tp_refs.specs.Store.{Store, count_of, node_at}
use Rattle.tp_refs.specs.Balance.{Balanced}
use Rattle.tp_layout.specs.declared.entry.Entry.{Entry}
use Rattle.tp_layout.specs.Entries.{rank_of, first_key}
use Rattle.tp_trees.specs.Tree.{IsTree, blank, led_to, pairs}
use Rattle.tp_trees.proofs.Trees.{descend, tree_rank, choose, led_by_place}
use Rattle.tp_trees.proofs.Frames.{Below}
use Rattle.tp_sharing.specs.Forest.{down, value_at}
use Rattle.tp_sharing.proofs.Lists.{PartAt, part_at, leaf_at, found_at}
use Rattle.tp_sharing.proofs.Refs.{Names, names_live}

-- The block b stands n steps below the root r of a tree of k levels above the leaves, with j levels above the leaves itself,
-- and each key of its interval leads to it.
pub record Stands (base k : ℕ) (s : Store) (top r b n j from to : ℕ) : Type 0 where
  pub tree : IsTree base j s from to b
  pub depth : k ≡ n + j
  pub inside : to ≤ top
  pub leads : (q : ℕ) → from ≤ q → q < to → down s q r n ≡ b
  pub alike : (q : ℕ) → from ≤ q → q < to → value_at q (pairs k s r) ≡ value_at q (pairs j s b)

pub top_stands : (base k : ℕ) (s : Store) (top r : ℕ) → IsTree base k s 0 top r → Stands base k s top r r 0 k 0 top
top_stands base k s top r h = record {
  tree = h;
  depth = omega arith;
  inside = omega arith;
  leads = λ q _ _. refl;
  alike = λ q _ _. refl;
}

-- what the entry at place i of b names
abbrev pub at : Store → ℕ → ℕ → ℕ
at s b i = (get_or (node_at s b).entries i blank).value

-- the interval of the entry at place i of b begins and ends
abbrev pub begin : Store → ℕ → ℕ → ℕ
begin s b i = (get_or (node_at s b).entries i blank).key

abbrev pub end : Store → ℕ → ℕ → ℕ → ℕ
end s b i to = first_key (drop (suc i) (node_at s b).entries) to

pub child_entry : (base j : ℕ) (s : Store) (from to b i : ℕ) → IsTree base (suc j) s from to b → i < length (node_at s b).entries → PartAt (Below base j s) from to (node_at s b).entries i
child_entry base j s from to b i h w = part_at (Below base j s) from to (node_at s b).entries i h.1 w

same_child : (base j : ℕ) (s : Store) (from to b i q : ℕ) → IsTree base (suc j) s from to b → i < length (node_at s b).entries → begin s b i ≤ q → q < end s b i to → value_at q (pairs (suc j) s b) ≡ value_at q (pairs j s (at s b i))
same_child base j s from to b i q h w l u =
    let e = child_entry base j s from to b i h w in
    let d = descend base (suc j) s from to b q h (λ z. absurd (omega (arith, h.0))) (omega (arith, e.lower)) (omega (arith, e.upper)) in
    let p : d.i ≡ i = omega (arith, e.at q l u, d.chosen.at) in
    let k : d.below ≡ j = omega (arith, d.deeper) in
    ap (option_map (λ (x : Entry). x.value)) d.same_found ∙ (ap (λ n. value_at q (pairs n s (at s b d.i))) k ∙ ap (λ n. value_at q (pairs j s (at s b n))) p)

pub child_stands : (base k : ℕ) (s : Store) (top r b n j from to i : ℕ) → Stands base k s top r b n (suc j) from to → i < length (node_at s b).entries
    → Stands base k s top r (at s b i) (suc n) j (begin s b i) (end s b i to)
child_stands base k s top r b n j from to i h w =
    let e = child_entry base j s from to b i h.tree w in
    record {
      tree = e.child.0;
      depth = omega (arith, h.depth);
      inside = omega (arith, e.upper, h.inside);
      leads = λ q l u.
          ap (λ x. led_to q (node_at s x).entries) (h.leads q (omega (arith, e.lower)) (omega (arith, e.upper)))
          ∙ led_by_place q i (node_at s b).entries (e.at q l u);
      alike = λ q l u. h.alike q (omega (arith, e.lower)) (omega (arith, e.upper)) ∙ same_child base j s from to b i q h.tree w l u;
    }

-- the place in a block on the path of a key that the key leads to, and what its entry names
pub record Turn (s : Store) (q b i x : ℕ) : Type 0 where
  pub place : rank_of q (node_at s b).entries ≡ suc i
  pub within : i < length (node_at s b).entries
  pub is : at s b i ≡ x

-- a block whose interval holds the key
pub record On (base k : ℕ) (s : Store) (top r b n j q : ℕ) : Type 0 where
  pub from : ℕ
  pub to : ℕ
  pub stands : Stands base k s top r b n j from to
  pub lower : from ≤ q
  pub upper : q < to

pub turn_inner : (base k : ℕ) (s : Store) (top r b n j q : ℕ) → On base k s top r b n (suc j) q → (i : ℕ) × Turn s q b i (led_to q (node_at s b).entries)
turn_inner base k s top r b n j q o =
    let c = choose (Below base j s) o.from o.to q (node_at s b).entries o.stands.tree.1 o.lower o.upper in
    (c.0, record { place = c.1.at; within = c.1.within; is = sym (led_by_place q c.0 (node_at s b).entries c.1.at) })

on_child : (base k : ℕ) (s : Store) (top r b n j q : ℕ) → On base k s top r b n (suc j) q → On base k s top r (led_to q (node_at s b).entries) (suc n) j q
on_child base k s top r b n j q o =
    let c = choose (Below base j s) o.from o.to q (node_at s b).entries o.stands.tree.1 o.lower o.upper in
    record {
      from = begin s b c.0;
      to = end s b c.0 o.to;
      stands = subst (λ x. Stands base k s top r x (suc n) j (begin s b c.0) (end s b c.0 o.to)) (sym (led_by_place q c.0 (node_at s b).entries c.1.at)) (child_stands base k s top r b n j o.from o.to c.0 o.stands c.1.within);
      lower = c.1.lower;
      upper = c.1.upper;
    }

module _ (base k : ℕ) (s : Store) (top r q : ℕ) (h : IsTree base k s 0 top r) (u : q < top) where
  pub on : (n j : ℕ) → k ≡ n + j → On base k s top r (down s q r n) n j q
  on zero j e = record {
    from = 0;
    to = top;
    stands = subst (λ m. Stands base k s top r r 0 m 0 top) (omega arith) (top_stands base k s top r h);
    lower = omega arith;
    upper = u;
  }
  on (suc n) j e = on_child base k s top r (down s q r n) n j q (on n (suc j) (omega arith))

  -- the ranks of the blocks on the path
  pub rank_on : (n j : ℕ) → k ≡ n + j → (node_at s (down s q r n)).rank ≡ base + j
  rank_on n j e = tree_rank base j s (on n j e).from (on n j e).to (down s q r n) (on n j e).stands.tree

  -- what is found there
  pub found_on : (n j : ℕ) → k ≡ n + j → value_at q (pairs k s r) ≡ value_at q (pairs j s (down s q r n))
  found_on n j e = (on n j e).stands.alike q (on n j e).lower (on n j e).upper

  pub turn_on : (n j : ℕ) → k ≡ n + suc j → (i : ℕ) × Turn s q (down s q r n) i (down s q r (suc n))
  turn_on n j e = turn_inner base k s top r (down s q r n) n j q (on n (suc j) e)

  -- the entry of the leaf
  pub turn_leaf : (v : ℕ) → value_at q (pairs k s r) ≡ Some v → (i : ℕ) × Turn s q (down s q r k) i v × (begin s (down s q r k) i ≡ q)
  turn_leaf v f =
      let o = on k 0 (omega arith) in
      let a = found_at q v (node_at s (down s q r k)).entries (sym (found_on k 0 (omega arith)) ∙ f) in
      let l = leaf_at o.from o.to (node_at s (down s q r k)).entries a.0 o.stands.tree.1 a.1 in
      (a.0, record { place = ap (λ x. rank_of x (node_at s (down s q r k)).entries) (sym a.2) ∙ l.at; within = a.1; is = a.3 }, a.2)

  pub down_leaf : (v : ℕ) → value_at q (pairs k s r) ≡ Some v → down s q r (suc k) ≡ v
  down_leaf v f = let t = turn_leaf v f in led_by_place q t.0 (node_at s (down s q r k)).entries t.1.place ∙ t.1.is

  module _ (hs : List ℕ) (bal : Balanced s [] hs) (live : 0 < count_of s r) (high : 0 < base) where
    pub names_step : (n j : ℕ) → k ≡ n + suc j → 0 < count_of s (down s q r n) → (i : ℕ) × Names s (down s q r n) i (down s q r (suc n)) × Turn s q (down s q r n) i (down s q r (suc n))
    names_step n j e here =
        let t = turn_on n j e in
        (t.0, record { live = here; inner = λ z. absurd (omega (arith, rank_on n (suc j) e)); within = t.1.within; is = t.1.is }, t.1)

    pub live_on : (n j : ℕ) → k ≡ n + j → 0 < count_of s (down s q r n)
    live_on zero j e = live
    live_on (suc n) j e =
        let t = names_step n j (omega arith) (live_on n (suc j) (omega arith)) in
        names_live s hs (down s q r n) t.0 (down s q r (suc n)) bal t.1

    pub names_on : (n j : ℕ) → k ≡ n + suc j → (i : ℕ) × Names s (down s q r n) i (down s q r (suc n)) × Turn s q (down s q r n) i (down s q r (suc n))
    names_on n j e = names_step n j e (live_on n (suc j) e)

    pub names_leaf : (v : ℕ) → value_at q (pairs k s r) ≡ Some v → (i : ℕ) × Names s (down s q r k) i v × Turn s q (down s q r k) i v × (begin s (down s q r k) i ≡ q)
    names_leaf v f =
        let t = turn_leaf v f in (
          t.0,
          record { live = live_on k 0 (omega arith); inner = λ z. absurd (omega (arith, rank_on k 0 (omega arith))); within = t.1.within; is = t.1.is },
          t.1,
          t.2,
        )
