-- The store that a clean image has: its nodes stand in their blocks, and its counts in the area. So the image is that of a commit where this store is sound.
use Rattle.std.proofs.Common.{◌≡◌, ◌⊎◌, ℕ, zero, suc, ◌<◌, ◌≤◌, ◌==◌, List, [], ◌∷◌, length, take, drop, refl, sym, ap, subst, ◌∙◌, arith, inl, inr}
use Rattle.std.specs.Prelude.{◌%◌, Contains, Bool, true, false, if◌then◌else◌, IfOk, count_by, Result, Ok, Err}
use Rattle.std.proofs.Math.Seq.{drop-append_seam, take-append_seam}
use Rattle.std.proofs.lemmas.Bool.{cases_eq, cases_lt, eq-eqb, ne_eqb}
use Rattle.std.proofs.lemmas.List.{get_or_past}
use Rattle.std.proofs.lemmas.List.FromFn.{get_or-map-range_with_len, length-map-range_with_len}
use Rattle.tp_model.specs.Geometry.{Geometry, IsTreeBlock, IsWithinLimits}
use Rattle.tp_model.specs.Sectors.{Sector}
use Rattle.tp_model.specs.declared.refusal.Refusal.{Refusal}
use Rattle.tp_model.specs.declared.refusal.Refusal.TheVariants.{Damaged}
use Rattle.tp_layout.specs.declared.superblock.Slot.{Slot}
use Rattle.tp_layout.specs.declared.superblock.Slot.TheVariants.{Bad, Foreign, Good, Other}
use Rattle.tp_image.specs.Slots.{Chooses, SlotIs, choice_of, is_same_geometry, next_sequence}
use Rattle.tp_super.proofs.Choice.{good_in}
use Rattle.tp_layout.specs.Node.{NodeValue}
use Rattle.tp_layout.specs.Super.{IsGoodSuper, held_refs, roots_of, slot_number}
use Rattle.tp_layout.specs.declared.counts.Part.{Part}
use Rattle.tp_layout.specs.declared.counts.Part.TheVariants.{Data, Metadata}
use Rattle.tp_layout.specs.declared.superblock.SlotId.{SlotId}
use Rattle.tp_layout.specs.declared.superblock.SlotId.TheVariants.{One, Zero}
use Rattle.tp_layout.specs.declared.superblock.Superblock.{Superblock}
use Rattle.tp_image.specs.Areas.{HoldsCounts, blocks_of}
use Rattle.tp_image.specs.Clean.{IsClean}
use Rattle.tp_image.specs.Nodes.{IsNodeAt}
use Rattle.tp_refs.specs.Store.{Node, Store, no_node, node_at, node_from}
use Rattle.tp_sharing.specs.Volumes.{volumes_of}
use Rattle.tp_stored.specs.Commit.{IsCommit, IsOfVersion, IsSound, NodesStand, counts_of_part}
use Rattle.tp_stored.specs.Rebuilt.{node_among, all_counts, store_from}
use Rattle.tp_stored.proofs.Clearing.{parted}
use Rattle.tp_stored.proofs.Members.{Among, among_contains, contains_among}
use Rattle.tp_stored.proofs.Placed.{placed}

-- a block has one of these nodes, or none
abbrev pub IsOneOf : ℕ → List NodeValue → ℕ → Type 0
IsOneOf m ns b = (n : NodeValue) × Among n ns × (n.own ≡ b) × (node_among m ns b ≡ node_from m n)

pub one_of : (m : ℕ) (ns : List NodeValue) (b : ℕ) → (node_among m ns b ≡ no_node) ⊎ IsOneOf m ns b
one_of m [] b = inl refl
one_of m (n ∷ ns) b =
    elim (cases_eq n.own b) [
      | inl e ↦ inr (n, inl refl, e, ap (λ t. if t then node_from m n else node_among m ns b) (eq-eqb n.own b e))
      | inr d ↦
          let skip : node_among m (n ∷ ns) b ≡ node_among m ns b = ap (λ t. if t then node_from m n else node_among m ns b) (ne_eqb n.own b d) in
          elim (one_of m ns b) [
            | inl none ↦ inl (skip ∙ none)
            | inr r ↦ inr (r.0, inr r.1, r.2, skip ∙ r.3)
          ]
    ]

module _ (g : Geometry) (ns : List NodeValue) (counts : Part → List ℕ) where
  abbrev m : ℕ
  m = g.metadata_blocks

  abbrev s : Store
  s = store_from g ns counts

  pub node_inside : (b : ℕ) → b < m → node_at s b ≡ node_among m ns b
  node_inside b lt = get_or-map-range_with_len (node_among m ns) 0 m b b no_node lt (omega arith)

  pub node_outside : (b : ℕ) → m ≤ b → node_at s b ≡ no_node
  node_outside b ge = get_or_past s.nodes b no_node (let e = length-map-range_with_len (node_among m ns) 0 m in omega (arith, e, ge))

  pub nodes_stand : (image : List Sector) → ((n : NodeValue) → Among n ns → IsNodeAt image n.own n) → NodesStand g image s
  nodes_stand image here b live inner =
      elim (cases_lt b m) [
        | inl lt ↦ elim (one_of m ns b) [
          | inl none ↦ let r : (node_at s b).rank ≡ 0 = ap (λ (n : Node). n.rank) (node_inside b lt ∙ none) in absurd (omega (arith, inner, r))
          | inr o ↦ (o.0, (subst (λ x. IsNodeAt image x o.0) o.2 (here o.0 o.1), node_inside b lt ∙ o.3))
        ]
        | inr ge ↦ let r : (node_at s b).rank ≡ 0 = ap (λ (n : Node). n.rank) (node_outside b (omega (arith, ge))) in absurd (omega (arith, inner, r))
      ]

  stored : (part : Part) → length (counts Metadata) ≡ m → counts_of_part g part s.counts ≡ counts part
  stored Metadata long = subst (λ k. take k (all_counts counts) ≡ counts Metadata) long (take-append_seam (counts Metadata) (counts Data))
  stored Data long = subst (λ k. drop k (all_counts counts) ≡ counts Data) long (drop-append_seam (counts Metadata) (counts Data))

-- ---- the root of a superblock that is chosen

-- sizes within the limits, and roots among the tree blocks
abbrev HasTreeRoots : Superblock → Type 0
HasTreeRoots s = IsWithinLimits s.geometry × ((r : ℕ) → Contains (roots_of s) r → IsTreeBlock s.geometry r)

held_is : (held r : ℕ) → Among r (held_refs held) → held ≡ r
held_is zero r k = absurd k
held_is (suc n) r (inl e) = e
held_is (suc n) r (inr k) = absurd k

tree_roots : (slot : SlotId) (s : Superblock) → IsGoodSuper slot s → (r : ℕ) → Contains (roots_of s) r → IsTreeBlock s.geometry r
tree_roots slot s good r known = by (contains_among r (roots_of s) known) good.held where
  by : Among r (roots_of s) → (s.held_root ≡ 0) ⊎ IsTreeBlock s.geometry s.held_root → IsTreeBlock s.geometry r
  by (inl e) held = subst (IsTreeBlock s.geometry) e good.root
  by (inr k) (inl none) = absurd (subst (λ h. Among r (held_refs h)) none k)
  by (inr k) (inr inside) = subst (IsTreeBlock s.geometry) (held_is s.held_root r k) inside

good_root : (image : List Sector) (slot : SlotId) (s : Superblock) → SlotIs image slot (Good s) → HasTreeRoots s
good_root image slot s is = let good = good_in image slot s is in (good.geometry, tree_roots slot s good)

abbrev Given : Result Superblock Refusal → Type 0
Given choice = IfOk choice HasTreeRoots

later_given : (a b : Superblock) (x y z : Bool) → HasTreeRoots a → HasTreeRoots b → Given (if x then (if y then Ok a else if z then Ok b else Err Damaged) else Err Damaged)
later_given a b true true z f g = f
later_given a b true false true f g = g
later_given a b true false false f g = tt
later_given a b false y z f g = tt

choice_given : (image : List Sector) (first second : Slot) → SlotIs image Zero first → SlotIs image One second → Given (choice_of first second)
choice_given image Other second f g = tt
choice_given image Foreign Other f g = tt
choice_given image Bad Other f g = tt
choice_given image (Good a) Other f g = tt
choice_given image Bad Foreign f g = tt
choice_given image Bad Bad f g = tt
choice_given image Bad (Good b) f g = tt
choice_given image Foreign Bad f g = tt
choice_given image (Good a) Bad f g = tt
choice_given image Foreign Foreign f g = tt
choice_given image (Good a) Foreign f g = good_root image Zero a f
choice_given image Foreign (Good b) f g = good_root image One b g
choice_given image (Good a) (Good b) f g =
    later_given a b (is_same_geometry a.geometry b.geometry) (a.sequence == next_sequence b.sequence) (b.sequence == next_sequence a.sequence) (good_root image Zero a f) (good_root image One b g)

pub chosen_root : (image : List Sector) (s : Superblock) → Chooses image (Ok s) → HasTreeRoots s
chosen_root image s c = subst Given (sym c.choice_is) (choice_given image c.first c.second c.first_is c.second_is)

module _ (image : List Sector) (h : IsClean image) where
  within : (r : ℕ) → Contains (roots_of h.superblock) r → IsTreeBlock h.superblock.geometry r
  within = (chosen_root image h.superblock h.chosen).1

  abbrev g : Geometry
  g = h.superblock.geometry

  -- the store that the image has
  abbrev pub rebuilt : Store
  rebuilt = store_from g h.nodes h.counts.counts

  some_area : (n : ℕ) → (area : SlotId) × (slot_number area ≡ n % 2)
  some_area n = elim (cases_eq (n % 2) 0) [
    | inl e ↦ (Zero, sym e)
    | inr d ↦ (One, omega (arith, d))
  ]

  pub long : (part : Part) → length (h.counts.counts part) ≡ blocks_of g part
  long part = let a = some_area h.superblock.sequence in (h.counts.stored part a.0 a.1).long

  same : (part : Part) → counts_of_part g part rebuilt.counts ≡ h.counts.counts part
  same part = stored g h.nodes h.counts.counts part (long Metadata)

  -- the image is that of a commit of it, where it is sound
  pub commit_of_sound : IsSound g h.superblock.root h.superblock.held_root rebuilt → IsOfVersion h.superblock.version (volumes_of g.metadata_blocks rebuilt h.superblock.root h.superblock.held_root)
      → IsCommit image h.superblock rebuilt
  commit_of_sound sound of_version = record {
    chosen = h.chosen;
    whole = h.whole;
    sound = sound;
    of_version = of_version;
    kept = refl;
    counts = λ part area is. subst (HoldsCounts image g part area) (sym (same part)) (h.counts.stored part area is);
    nodes = nodes_stand g h.nodes h.counts.counts image
        (λ n k. (placed image h.superblock.version g (roots_of h.superblock) within h.rules n (h.reachable.only n (among_contains n h.nodes k))).here);
    spare =
        let p = parted rebuilt.counts g.metadata_blocks (omega (arith, sound.counted)) in
        let free : count_by (λ x. x == 0) (take g.metadata_blocks rebuilt.counts) ≡ count_by (λ x. x == 0) (h.counts.counts Metadata) = ap (count_by (λ x. x == 0)) (same Metadata) in
        omega (arith, p, free, h.counts.spare);
  }
