-- The facts of a forest that the count of references needs, by values.
use Rattle.std.proofs.Common.{◌≡◌, ℕ, ◌-◌, ◌<◌, ◌≤◌, ◌^◌, List, length, ap, subst, ◌∙◌, Some}
use Rattle.tp_refs.specs.Store.{Store, node_at}
use Rattle.tp_refs.specs.Balance.{occurrences}
use Rattle.tp_trees.specs.Tree.{IsTree}
use Rattle.tp_sharing.specs.Forest.{Forest, content, value_at}
use Rattle.tp_sharing.proofs.Lists.{entry_of}

-- A device tree whose ids are below `ids`, and the volumes' trees, by values.
pub record Grove (s : Store) (root : ℕ) (fixed : List ℕ) (ids top : ℕ) : Type 0 where
  pub devices : IsTree 5 ((node_at s root).rank - 5) s 0 ids root
  pub volumes : (device r : ℕ) → value_at device (content 5 s root) ≡ Some r → IsTree 1 ((node_at s r).rank - 1) s 0 top r
  pub data_blocks : (device r block p : ℕ) → value_at device (content 5 s root) ≡ Some r → value_at block (content 1 s r) ≡ Some p → length s.nodes ≤ p
  pub once : (b : ℕ) → occurrences b fixed ≤ 1
  pub bare : (b : ℕ) → 0 < occurrences b fixed → (node_at s b).rank ≡ 0
  pub inside : (b : ℕ) → 0 < occurrences b fixed → b < length s.nodes

pub grove_of : (s : Store) (root : ℕ) (fixed : List ℕ) (top : ℕ) → Forest s root fixed top → Grove s root fixed (2 ^ 24) top
grove_of s root fixed top f = record {
  devices = f.devices.tree;
  volumes = λ device r h.
      let e = entry_of device r (content 5 s root) h in
      subst (λ x. IsTree 1 ((node_at s x).rank - 1) s 0 top x) e.2 (f.volumes device e.0 e.1).tree.tree;
  data_blocks = λ device r block p h g.
      let e = entry_of device r (content 5 s root) h in
      let x = entry_of block p (content 1 s e.0.value) (ap (λ y. value_at block (content 1 s y)) e.2 ∙ g) in
      subst (λ y. length s.nodes ≤ y) x.2 ((f.volumes device e.0 e.1).data_blocks block x.0 x.1);
  once = f.once;
  bare = f.bare;
  inside = f.inside;
}
