-- The entries that paths of an image lead to are those of the store's trees.
use Rattle.std.proofs.Common.{◌≡◌, ℕ, zero, suc, ◌+◌, ◌<◌, ◌≤◌, List, [], map, refl, sym, ap, subst, ◌∙◌, arith}
use Rattle.std.specs.Prelude.{Contains}
use Rattle.tp_model.specs.Geometry.{Geometry}
use Rattle.tp_model.specs.Sectors.{Sector}
use Rattle.tp_layout.specs.Node.{FitsEntry, NodeValue, is_long, most_level}
use Rattle.tp_layout.specs.declared.entry.Entry.{Entry}
use Rattle.tp_layout.specs.declared.kind.TreeKind.{TreeKind}
use Rattle.tp_layout.specs.declared.kind.TreeKind.TheVariants.{Device, Mapping}
use Rattle.tp_image.specs.Nodes.{IsNodeAt, LeadsTo, ends, goes}
use Rattle.tp_image.proofs.Uniqueness.{IsNodeAt-one}
use Rattle.tp_refs.specs.Store.{MayName, Node, Store, children, count_of, first_named, moved_by, node_at, node_from, rank_of}
use Rattle.tp_refs.specs.Balance.{Balanced, occurrences}
use Rattle.tp_refs.proofs.Moved.{moved_by_nothing}
use Rattle.tp_refs.proofs.Steps.{child_live}
use Rattle.tp_trees.specs.Tree.{pairs}
use Rattle.tp_trees.proofs.Trees.{children_values}
use Rattle.tp_stored.specs.Commit.{NodesStand}
use Rattle.tp_stored.proofs.Members.{Among, among_contains, among_joined, among_map, among_value, contains_among, joined_among, map_among}

-- ---- ranks

pub rank_split : (kind : TreeKind) (level : ℕ) → rank_of kind level ≡ rank_of kind 0 + level
rank_split Mapping level = omega arith
rank_split Device level = omega arith

pub base_positive : (kind : TreeKind) → 0 < rank_of kind 0
base_positive Mapping = omega arith
base_positive Device = omega arith

-- an inner node is no leaf of the device tree
inner_not_5 : (kind : TreeKind) (level : ℕ) → level ≤ most_level kind → 0 < level → rank_of kind level ≡ 5 → ⊥
inner_not_5 Mapping level most inner e = absurd (omega arith)
inner_not_5 Device level most inner e = absurd (omega arith)

pub first_inner : (m : ℕ) (kind : TreeKind) (level : ℕ) → 0 < level → first_named m kind level ≡ 0
first_inner m Mapping zero h = absurd (omega arith)
first_inner m Mapping (suc level) h = refl
first_inner m Device level h = refl

-- the rank of a good node tells its kind and level
pub rank_tells : (a kind : TreeKind) (level k : ℕ) → level ≤ most_level a → k ≤ most_level kind → rank_of a level ≡ rank_of kind 0 + k → (a ≡ kind) × (level ≡ k)
rank_tells Mapping Mapping level k l h e = (refl, omega arith)
rank_tells Device Device level k l h e = (refl, omega arith)
rank_tells Mapping Device level k l h e = absurd (omega arith)
rank_tells Device Mapping level k l h e = absurd (omega arith)

-- a path to what an entry of the store is
pub record Led (m : ℕ) (image : List Sector) (kind : TreeKind) (b : ℕ) (x : Entry) : Type 0 where
  pub entry : Entry
  pub is : x ≡ moved_by (first_named m kind 0) entry
  pub path : LeadsTo image kind b entry

pub inner_entries : (m : ℕ) (node : Node) (n : NodeValue) → node ≡ node_from m n → 0 < n.level → node.entries ≡ n.entries
inner_entries m node n e inner =
    ap (λ (x : Node). x.entries) e ∙ (ap (λ f. map (moved_by f) n.entries) (first_inner m n.kind n.level inner) ∙ moved_by_nothing n.entries)

pub leaf_entries : (m : ℕ) (node : Node) (n : NodeValue) (kind : TreeKind) → node ≡ node_from m n → n.kind ≡ kind → n.level ≡ 0 → node.entries ≡ map (moved_by (first_named m kind 0)) n.entries
leaf_entries m node n kind e k z =
    ap (λ (x : Node). x.entries) e ∙ (ap (λ l. map (moved_by (first_named m n.kind l)) n.entries) z ∙ ap (λ (x : TreeKind). map (moved_by (first_named m x 0)) n.entries) k)

module _ (g : Geometry) (image : List Sector) (s : Store) (hs : List ℕ) (bal : Balanced s [] hs) (stand : NodesStand g image s) where
  abbrev m : ℕ
  m = g.metadata_blocks

  -- the node that stands in a live block of a rank
  pub node_is : (b : ℕ) (n : NodeValue) → 0 < count_of s b → 0 < (node_at s b).rank → IsNodeAt image b n → node_at s b ≡ node_from m n
  node_is b n live inner at =
      let t = stand b live inner in
      t.1.1 ∙ ap (node_from m) (IsNodeAt-one image b t.0 n t.1.0 at)

  -- a child of an inner node of a tree stands one rank lower
  child_of : (kind : TreeKind) (j b : ℕ) (c : Entry) → 0 < count_of s b → (node_at s b).rank ≡ rank_of kind 0 + suc j → suc j ≤ most_level kind → Among c (node_at s b).entries
      → (0 < count_of s c.value) × ((node_at s c.value).rank ≡ rank_of kind 0 + j)
  child_of kind j b c live r most here =
      let named : 0 < occurrences c.value (children (node_at s b)) =
      subst (λ xs. 0 < occurrences c.value xs) (sym (children_values (node_at s b) (omega (arith, r)))) (among_value c (node_at s b).entries here) in
      let may : MayName (node_at s b).rank (node_at s c.value).rank = bal.ranks b c.value live refl named in
      let next : (node_at s b).rank ≡ (node_at s c.value).rank + 1 = may.next (λ e. inner_not_5 kind (suc j) most (omega arith) (rank_split kind (suc j) ∙ (sym r ∙ e))) in
      (child_live s [] hs b c.value bal live refl named, omega (arith, next, r))

  -- what a path leads to stands in the store's tree
  pub leads_among : (kind : TreeKind) (k b : ℕ) (e : Entry) → 0 < count_of s b → (node_at s b).rank ≡ rank_of kind 0 + k → LeadsTo image kind b e
      → Among (moved_by (first_named m kind 0) e) (pairs k s b)
  leads_among kind zero b e live r (ends n at is leaf has) =
      let node = node_is b n live (omega (arith, r, base_positive kind)) at in
      subst (λ xs. Among (moved_by (first_named m kind 0) e) xs) (sym (leaf_entries m (node_at s b) n kind node is leaf))
      (among_map (moved_by (first_named m kind 0)) e n.entries (contains_among e n.entries has))
  leads_among kind (suc j) b e live r (ends n at is leaf has) =
      let node = node_is b n live (omega (arith, r)) at in
      let rank : (node_at s b).rank ≡ rank_of kind n.level = ap (λ (x : Node). x.rank) node ∙ ap (λ (x : TreeKind). rank_of x n.level) is in
      absurd (omega (arith, r, rank, rank_split kind n.level, leaf))
  leads_among kind zero b e live r (goes n child at is inner has path) =
      let node = node_is b n live (omega (arith, r, base_positive kind)) at in
      let rank : (node_at s b).rank ≡ rank_of kind n.level = ap (λ (x : Node). x.rank) node ∙ ap (λ (x : TreeKind). rank_of x n.level) is in
      absurd (omega (arith, r, rank, rank_split kind n.level, inner))
  leads_among kind (suc j) b e live r (goes n child at is inner has path) =
      let node = node_is b n live (omega (arith, r)) at in
      let rank : (node_at s b).rank ≡ rank_of kind n.level = ap (λ (x : Node). x.rank) node ∙ ap (λ (x : TreeKind). rank_of x n.level) is in
      let level : n.level ≡ suc j = omega (arith, r, rank, rank_split kind n.level) in
      let most : n.level ≤ most_level kind = subst (λ (x : TreeKind). n.level ≤ most_level x) is at.good.form.level in
      let here : Among child (node_at s b).entries = subst (λ xs. Among child xs) (sym (inner_entries m (node_at s b) n node inner)) (contains_among child n.entries has) in
      let c = child_of kind j b child live r (omega (arith, level, most)) here in
      among_joined (pairs j s) child (moved_by (first_named m kind 0) e) (node_at s b).entries here (leads_among kind j child.value e c.0 c.1 path)

  -- and what stands there, a path leads to
  pub among_leads : (kind : TreeKind) (k b : ℕ) (x : Entry) → k ≤ most_level kind → 0 < count_of s b → (node_at s b).rank ≡ rank_of kind 0 + k → Among x (pairs k s b) → Led m image kind b x
  among_leads kind zero b x most live r h =
      let t = stand b live (omega (arith, r, base_positive kind)) in
      let at : IsNodeAt image b t.0 = t.1.0 in
      let rank : rank_of t.0.kind t.0.level ≡ rank_of kind 0 + 0 = sym (ap (λ (x : Node). x.rank) t.1.1) ∙ r in
      let tells = rank_tells t.0.kind kind t.0.level 0 at.good.form.level most rank in
      let p = map_among (moved_by (first_named m kind 0)) x t.0.entries (subst (λ xs. Among x xs) (leaf_entries m (node_at s b) t.0 kind t.1.1 tells.0 tells.1) h) in
      record { entry = p.0; is = p.2; path = ends t.0 at tells.0 tells.1 (among_contains p.0 t.0.entries p.1) }
  among_leads kind (suc j) b x most live r h =
      let t = stand b live (omega (arith, r)) in
      let at : IsNodeAt image b t.0 = t.1.0 in
      let rank : rank_of t.0.kind t.0.level ≡ rank_of kind 0 + suc j = sym (ap (λ (x : Node). x.rank) t.1.1) ∙ r in
      let tells = rank_tells t.0.kind kind t.0.level (suc j) at.good.form.level most rank in
      let inner : 0 < t.0.level = omega (arith, tells.1) in
      let p = joined_among (pairs j s) x (node_at s b).entries h in
      let c = child_of kind j b p.0 live r most p.1 in
      let l = among_leads kind j p.0.value x (omega (arith, most)) c.0 c.1 p.2 in
      let has : Contains t.0.entries p.0 = among_contains p.0 t.0.entries (subst (λ xs. Among p.0 xs) (inner_entries m (node_at s b) t.0 t.1.1 inner) p.1) in
      record { entry = l.entry; is = l.is; path = goes t.0 p.0 at tells.0 inner has l.path }

-- the entries of the leaves of mapping trees have no number of mapped blocks, and no size
pub leads_bare : (image : List Sector) (b : ℕ) (e : Entry) → LeadsTo image Mapping b e → e.mapped ≡ 0
leads_bare image b e (ends n at is leaf has) =
    let fits : FitsEntry (is_long n.kind n.level) e = subst (FitsEntry (is_long n.kind n.level)) has.2 (at.good.form.entries has.0 e has.1) in
    fits.short (ap (λ (x : TreeKind). is_long x n.level) is)
leads_bare image b e (goes n child at is inner has path) = leads_bare image child.value e path

pub leads_sizeless : (image : List Sector) (b : ℕ) (e : Entry) → LeadsTo image Mapping b e → e.size ≡ 0
leads_sizeless image b e (ends n at is leaf has) =
    let fits : FitsEntry (is_long n.kind n.level) e = subst (FitsEntry (is_long n.kind n.level)) has.2 (at.good.form.entries has.0 e has.1) in
    fits.sizeless (ap (λ (x : TreeKind). is_long x n.level) is)
leads_sizeless image b e (goes n child at is inner has path) = leads_sizeless image child.value e path
