-- Internal: however a mapping that stands is told, it is the same volumes now (own).
use Rattle.std.proofs.Common.{◌≡◌, ℕ, zero, suc, ◌-◌, ◌<◌, List, [], ◌∷◌, ◌++◌, get_or, map, refl, sym, ap, subst, ◌∙◌, arith, Some}
use Rattle.std.specs.Prelude.{◌^◌}
use Rattle.tp_model.specs.Disk.{DiskState, seen}
use Rattle.tp_model.specs.Sectors.{Sector}
use Rattle.tp_layout.specs.declared.entry.Entry.{Entry}
use Rattle.tp_layout.specs.Entries.{first_key, found}
use Rattle.tp_image.proofs.Uniqueness.{IsNodeAt-one}
use Rattle.tp_refs.specs.Store.{Node, Store, children, count_of, node_at, node_from, values}
use Rattle.tp_refs.specs.Balance.{Balanced, occurrences}
use Rattle.tp_refs.proofs.Steps.{child_live, held_live, occurrences-append, one_same}
use Rattle.tp_trees.specs.Tree.{IsTree, IsWhole, Parted, joined, pairs}
use Rattle.tp_trees.proofs.Frames.{Below}
use Rattle.tp_trees.proofs.Trees.{ascend_tree, children_values, tree_rank}
use Rattle.tp_sharing.specs.Forest.{Forest, HeldForest, content, held_refs}
use Rattle.tp_sharing.specs.Volumes.{Volumes, as_copy, copies_below, device_from, volumes_below}
use Rattle.tp_sharing.proofs.Changed.{kept_devices}
use Rattle.tp_sharing.proofs.Later.{volumes_are_live}
use Rattle.tp_stored.specs.Commit.{fixed_blocks, held_by}
use Rattle.tp_tm.specs.Holds.{IsSpelled}
use Rattle.tp_mapping.specs.Trees.{StandForVolumes}
use Rattle.tp_mapping.specs.declared.trees.TreeMapping.{TreeMapping}

-- ---- trees of two stores

-- the content of parts that are of two kinds, and alike where they are of both
joined_alike : (P Q : ℕ → ℕ → ℕ → Type 0) (f g : ℕ → List Entry) (low high : ℕ) (es : List Entry) → Parted P low high es → Parted Q low high es
    → ((from to c : ℕ) → 0 < occurrences c (values es) → P from to c → Q from to c → f c ≡ g c) → joined f es ≡ joined g es
joined_alike P Q f g low high [] p q each = refl
joined_alike P Q f g low high (e ∷ es) p q each =
    ap (λ xs. xs ++ joined f es) (each low (first_key es high) e.value (omega (arith, one_same e.value e.value refl)) p.2 q.2)
    ∙ ap (λ xs. g e.value ++ xs) (joined_alike P Q f g (first_key es high) high es p.3 q.3 (λ from to c here. each from to c (omega arith)))

-- A live block of the one store that has a node in both has the same one in both. What holds no node, as a data block, may differ.
abbrev AreAlike : Store → Store → Type 0
AreAlike s t = (b : ℕ) → 0 < count_of s b → 0 < (node_at s b).rank → 0 < (node_at t b).rank → node_at t b ≡ node_at s b

module _ (s t : Store) (held : List ℕ) (bal : Balanced s [] held) (alike : AreAlike s t) where
  pairs_alike : (base k low high b : ℕ) → 0 < base → 0 < count_of s b → IsTree base k s low high b → IsTree base k t low high b → pairs k t b ≡ pairs k s b
  pairs_alike base zero low high b some live h w = ap (λ (n : Node). n.entries) (alike b live (omega (arith, some, h.0)) (omega (arith, some, w.0)))
  pairs_alike base (suc k) low high b some live h w =
      let n : node_at t b ≡ node_at s b = alike b live (omega (arith, h.0)) (omega (arith, w.0)) in
      ap (λ (x : Node). joined (pairs k t) x.entries) n
      ∙ joined_alike (Below base k s) (Below base k t) (pairs k t) (pairs k s) low high (node_at s b).entries h.1 (subst (λ (x : Node). Parted (Below base k t) low high x.entries) n w.1)
      (λ from to c here p q.
      let named : 0 < occurrences c (children (node_at s b)) = subst (λ xs. 0 < occurrences c xs) (sym (children_values (node_at s b) (omega (arith, h.0)))) here in
      pairs_alike base k from to c some (child_live s [] held b c bal live refl named) p.0 q.0)

  content_alike : (base high b : ℕ) → 0 < base → 0 < count_of s b → IsWhole base ((node_at s b).rank - base) s high b → IsWhole base ((node_at t b).rank - base) t high b
      → content base t b ≡ content base s b
  content_alike base high b some live h w =
      let k = (node_at s b).rank - base in
      let n : node_at t b ≡ node_at s b = alike b live (omega (arith, some, tree_rank base k s 0 high b h.tree)) (omega (arith, some, tree_rank base ((node_at t b).rank - base) t 0 high b w.tree)) in
      let e : (node_at t b).rank - base ≡ k = ap (λ (x : Node). x.rank - base) n in
      ap (λ j. pairs j t b) e ∙ pairs_alike base k 0 high b some live h.tree (subst (λ j. IsTree base j t 0 high b) e w.tree)

-- ---- the volumes of two stores

module _ (s t : Store) (held : List ℕ) (fixed : List ℕ) (top : ℕ) (bal : Balanced s [] held) (alike : AreAlike s t) where
  module _ (root : ℕ) (named : 0 < occurrences root held) (f : Forest s root fixed top) (w : Forest t root fixed top) where
    devices_alike : content 5 t root ≡ content 5 s root
    devices_alike = content_alike s t held bal alike 5 (2 ^ 24) root (omega arith) (held_live s [] held root bal named) f.devices w.devices

    volume_alike : (device : ℕ) (e : Entry) → found device (content 5 s root) ≡ Some e → content 1 t e.value ≡ content 1 s e.value
    volume_alike device e is =
        content_alike s t held bal alike 1 top e.value (omega arith) (volumes_are_live s [] held root fixed top bal named f device e is).0
        (f.volumes device e is).tree (w.volumes device e (ap (found device) devices_alike ∙ is)).tree

    volumes_alike : (m : ℕ) → volumes_below m t root ≡ volumes_below m s root
    volumes_alike m =
        ap (map (device_from m t)) devices_alike
        ∙ kept_devices m s t 0 (2 ^ 24) (content 5 s root) (ascend_tree 5 ((node_at s root).rank - 5) s 0 (2 ^ 24) root f.devices.tree) volume_alike

  copies_alike : (copy : ℕ) → ((r : ℕ) → 0 < occurrences r (held_refs copy) → 0 < occurrences r held) → HeldForest s copy fixed top → HeldForest t copy fixed top
      → (m : ℕ) → copies_below m t copy ≡ copies_below m s copy
  copies_alike zero named f w m = refl
  copies_alike (suc n) named f w m = ap (map as_copy) (volumes_alike (suc n) (named (suc n) (omega (arith, one_same (suc n) (suc n) refl))) f w m)

-- ---- what stands

-- a block spells one node
spelled_one : (m : ℕ) (image : List Sector) (b : ℕ) (x y : Node) → IsSpelled m image b x → IsSpelled m image b y → y ≡ x
spelled_one m image b x y h w = w.1.1 ∙ ap (node_from m) (IsNodeAt-one image b w.0 h.0 w.1.0 h.1.0) ∙ sym h.1.1

pub trees_stand_for_one : (m : TreeMapping) (disk : DiskState) (now kept next last : Volumes) → StandForVolumes m disk now kept → StandForVolumes m disk next last → next ≡ now
trees_stand_for_one m disk now kept next last a b =
    let g = m.tm.geometry in
    let counts : b.store.counts ≡ a.store.counts = b.holds.stands.counts ∙ sym a.holds.stands.counts in
    let alike : AreAlike a.store b.store = λ at live here there.
    let same : count_of b.store at ≡ count_of a.store at = ap (λ ns. get_or ns at 0) counts in
    spelled_one g.metadata_blocks (seen disk.cells) at (node_at a.store at) (node_at b.store at) (a.holds.stands.nodes at live refl here)
    (b.holds.stands.nodes at (omega (arith, same, live)) refl there) in
    let held = held_by g m.root m.tm.held_root in
    let now_same = volumes_alike a.store b.store held (fixed_blocks g) (2 ^ 24) a.sound.balanced alike m.root (omega (arith, one_same m.root m.root refl)) a.sound.forest b.sound.forest g.metadata_blocks in
    let copies_same =
    copies_alike a.store b.store held (fixed_blocks g) (2 ^ 24) a.sound.balanced alike m.tm.held_root
    (λ r here. omega (arith, here, occurrences-append r (held_refs m.tm.held_root) (fixed_blocks g))) a.sound.copy b.sound.copy g.metadata_blocks in
    b.listed ∙ ((λ i. now_same i ++ copies_same i) ∙ sym a.listed)
