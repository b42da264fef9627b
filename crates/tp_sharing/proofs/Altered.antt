-- A volume was changed while the path to its device's entry was open: the forest stands again.
use Rattle.std.proofs.Common.{◌≡◌, ◌≢◌, ℕ, ◌-◌, ◌<◌, List, length, refl, sym, ap, subst, ◌∙◌, arith, inl, inr, Some}
use Rattle.std.specs.Prelude.{◌^◌}
use Rattle.std.proofs.lemmas.Bool.{cases_eq}
use Rattle.tp_layout.specs.declared.entry.Entry.{Entry}
use Rattle.tp_layout.specs.Entries.{found, with_entry}
use Rattle.tp_layout.proofs.Ordered.{found_with_other, found_with_same}
use Rattle.tp_refs.specs.Store.{Store, node_at}
use Rattle.tp_refs.specs.Balance.{SameBelow, occurrences}
use Rattle.tp_refs.proofs.Steps.{frame_part}
use Rattle.tp_trees.specs.Tree.{IsWhole}
use Rattle.tp_trees.specs.Altering.{Altered}
use Rattle.tp_trees.proofs.Trees.{ascend_tree, tree_rank}
use Rattle.tp_sharing.specs.Forest.{Forest, IsVolume, content}
use Rattle.tp_sharing.specs.Changes.{OthersStay}
use Rattle.tp_sharing.proofs.Later.{content_is_pairs, forest_after, volume_kept}
use Rattle.tp_sharing.proofs.Lists.{found_within, value_from}

same_entry : (x y : Entry) → Some x ≡ Some y → x ≡ y
same_entry x y h = cc

module _ (s u v : Store) (root to : ℕ) (fixed opens held : List ℕ) (top : ℕ) (x : Entry) (f : Forest s root fixed top)
    (a : Altered 5 s u v root x ((node_at s root).rank - 5) 0 (2 ^ 24) opens held to)
    (fixed_held : (b : ℕ) → 0 < occurrences b fixed → 0 < occurrences b held)
    (middle : length v.nodes ≡ length u.nodes) (sized : length v.nodes ≡ length s.nodes) (made : IsVolume u top x) where
  changed_volume : IsVolume v top x × (content 1 v x.value ≡ content 1 u x.value)
  changed_volume = volume_kept u v top x x made middle refl refl a.value

  whole : IsWhole 5 ((node_at s root).rank - 5) v (2 ^ 24) to
  whole = record { tree = a.tree; branches = λ some. omega (arith, a.same, f.devices.branches some) }

  whole_there : IsWhole 5 ((node_at v to).rank - 5) v (2 ^ 24) to
  whole_there =
      let j : (node_at s root).rank - 5 ≡ (node_at v to).rank - 5 = omega (arith, tree_rank 5 ((node_at s root).rank - 5) v 0 (2 ^ 24) to a.tree) in
      subst (λ n. IsWhole 5 n v (2 ^ 24) to) j whole

  pub altered_content : content 5 v to ≡ with_entry x (content 5 s root)
  altered_content = content_is_pairs 5 ((node_at s root).rank - 5) v 0 (2 ^ 24) to a.tree ∙ a.content

  same_there : (device : ℕ) (e : Entry) → found device (content 5 s root) ≡ Some e → device ≢ x.key → (j : ℕ) → SameBelow j s v e.value
  same_there device e h n =
      a.others device e (omega arith)
      (found_within 0 (2 ^ 24) device e.value (content 5 s root) (ascend_tree 5 ((node_at s root).rank - 5) s 0 (2 ^ 24) root f.devices.tree) (value_from device e (content 5 s root) h)).1 h n

  pub altered_others : OthersStay s v root x.key
  altered_others device e h n = (volume_kept s v top e e (f.volumes device e h) sized refl refl (same_there device e h n)).1

  pub altered_value : content 1 v x.value ≡ content 1 u x.value
  altered_value = changed_volume.1

  pub altered_forest : Forest v to fixed top
  altered_forest = forest_after s v root to fixed top f sized (frame_part s v held fixed a.frame fixed_held) whole_there
      (λ device y h. elim (cases_eq device x.key) [
        | inl q ↦
            let z : x ≡ y = same_entry x y (sym (found_with_same x (content 5 s root)) ∙ (ap (λ d. found d (with_entry x (content 5 s root))) (sym q) ∙ (ap (found device) (sym altered_content) ∙ h))) in
            inr (subst (IsVolume v top) z changed_volume.0)
        | inr n ↦
            let was : found device (content 5 s root) ≡ Some y = sym (found_with_other x device (content 5 s root) n) ∙ (ap (found device) (sym altered_content) ∙ h) in
            inl (record { device = device; old = y; was = was; value = refl; mapped = refl; same = same_there device y was n })
      ])
