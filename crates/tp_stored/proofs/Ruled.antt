-- The trees of a commit keep the rules of nodes.
use Rattle.std.proofs.Common.{◌≡◌, ℕ, zero, suc, ◌+◌, ◌-◌, ◌<◌, ◌≤◌, Bool, true, false, List, [], ◌∷◌, ◌++◌, length, get_or, map, refl, sym, ap, subst, ◌∙◌, arith, inl, inr, Some, option_map}
use Rattle.std.specs.Prelude.{Contains, ◌^◌}
use Rattle.std.proofs.lemmas.Bool.{cases_eq, cases_lt}
use Rattle.std.proofs.lemmas.List.Elements.{Contains-get_or}
use Rattle.std.proofs.lemmas.List.{length-map}
use Rattle.tp_model.specs.Geometry.{Geometry, IsTreeBlock, fixed_part}
use Rattle.tp_model.specs.Told.{told_blocks}
use Rattle.tp_model.specs.Sectors.{Sector}
use Rattle.tp_layout.specs.Entries.{Ascend, found}
use Rattle.tp_layout.specs.Node.{NodeValue, is_long, least_entries, most_level}
use Rattle.tp_layout.specs.declared.entry.Entry.{Entry}
use Rattle.tp_layout.specs.declared.kind.TreeKind.{TreeKind}
use Rattle.tp_layout.specs.declared.kind.TreeKind.TheVariants.{Device, Mapping}
use Rattle.tp_layout.specs.declared.superblock.Version.{Version}
use Rattle.tp_layout.specs.declared.superblock.Version.TheVariants.{OneSize, OwnSizes}
use Rattle.tp_layout.proofs.Ordered.{within_from_ascend}
use Rattle.tp_image.specs.Nodes.{IsDevice, IsNodeAt}
use Rattle.tp_image.specs.Counts.{is_naming_data}
use Rattle.tp_image.specs.Rules as rules
use Rattle.tp_image.specs.Rules.{BeginsAt, Children, IsContent, IsInRange, IsRecordSize, IsWholeTree, Joined, KeepTheRules, KeepsRules}
use Rattle.tp_refs.specs.Store.{Node, Store, children, count_of, first_named, moved_by, node_at, rank_of, values}
use Rattle.tp_refs.specs.Balance.{occurrences}
use Rattle.tp_refs.proofs.Moved.{ascend_moved, moved-append, moved_by_nothing}
use Rattle.tp_refs.proofs.Steps.{child_live, live_below, one_other}
use Rattle.tp_trees.specs.Tree as trees
use Rattle.tp_trees.specs.Tree.{IsTree, IsWhole, Parted, joined, pairs}
use Rattle.tp_trees.proofs.Frames.{Below, parted_map}
use Rattle.tp_trees.proofs.Limits as limits
use Rattle.tp_trees.proofs.Limits.{narrow_whole}
use Rattle.tp_trees.proofs.Trees.{ascend_tree, children_values, least_at_device_leaf, least_elsewhere, node_ascend, rank_inside, tree_rank}
use Rattle.tp_sharing.specs.Forest.{content, held_refs}
use Rattle.tp_sharing.specs.Volumes.{AreSized, Volumes, copy_id, size_of, volumes_below, volumes_of}
use Rattle.tp_sharing.proofs.Copies.{copies_are_listed, size_low}
use Rattle.tp_sharing.proofs.Slots.{lookups_are_listed}
use Rattle.tp_stored.specs.Commit.{IsOfVersion, IsRooted, IsSound, NodesStand, fixed_blocks, held_by}
use Rattle.tp_stored.specs.Laws.{CommitsKeepTheRules}
use Rattle.tp_stored.proofs.Members.{Among, among_found, among_map, among_value, contains_among}
use Rattle.tp_stored.proofs.Naming.{either_names}
use Rattle.tp_stored.proofs.Ranges.{in_range}
use Rattle.tp_stored.proofs.Opened.{device_found_there, devices_low, told_size, volume_is, volume_there}
use Rattle.tp_stored.proofs.Reachable.{held_one, named_live, root_live, root_of, root_rank, rooted}
use Rattle.tp_stored.proofs.Standing.{base_positive, first_inner, inner_entries, leaf_entries, node_is, rank_split, rank_tells}

-- ---- parts of lists

children_parted : (Q : ℕ → ℕ → ℕ → Type 0) (low high : ℕ) (es : List Entry) → Parted Q low high es → Children Q high es
children_parted Q low high [] h = tt
children_parted Q low high (e ∷ []) h = subst (λ n. Q n high e.value) (sym h.0) h.2
children_parted Q low high (e ∷ x ∷ xs) h = (subst (λ n. Q n x.key e.value) (sym h.0) h.2, children_parted Q x.key high (x ∷ xs) h.3)

begins_parted : (Q : ℕ → ℕ → ℕ → Type 0) (low high : ℕ) (es : List Entry) → 0 < length es → Parted Q low high es → BeginsAt low es
begins_parted Q low high [] some h = absurd (omega arith)
begins_parted Q low high (e ∷ es) some h = h.0

-- ---- fillings

least_alike : (kind : TreeKind) (level : ℕ) → level ≤ most_level kind → least_entries (is_long kind level) ≡ trees.least_of (rank_of kind level)
least_alike Mapping level h = sym (least_elsewhere (suc level) (λ e. absurd (omega arith)))
least_alike Device zero h = sym (least_at_device_leaf 5 refl)
least_alike Device (suc level) h = sym (least_elsewhere (5 + suc level) (λ e. absurd (omega arith)))

pub least_below : (kind : TreeKind) (j : ℕ) → suc j ≤ most_level kind → rules.least_of false kind j ≡ trees.least_of (rank_of kind 0 + j)
least_below kind j h = least_alike kind j (omega (arith, h)) ∙ ap trees.least_of (rank_split kind j)

least_some : (is_root : Bool) (kind : TreeKind) (j : ℕ) → 0 < rules.least_of is_root kind (suc j)
least_some true kind j = omega arith
least_some false Mapping j = omega arith
least_some false Device j = omega arith

abbrev listed : ℕ → ℕ → ℕ → ℕ → Entry
listed id r mapped told = record { key = id; value = r; mapped = mapped; size = told }

-- ---- sizes

size_of_version : (version : Version) (g : Geometry) (volumes : Volumes) → AreSized g volumes → IsOfVersion version volumes → (id size : ℕ) → size_of id volumes ≡ Some size → IsRecordSize version g size
size_of_version OneSize g volumes sized old id size h = old id size h
size_of_version OwnSizes g volumes sized old id size h = sized.told id size h

pub all_below : (less : ℕ) (es : List Entry) → ((e : Entry) → Among e es → e.key < less) → limits.Below less es
all_below less [] each = tt
all_below less (e ∷ es) each = (each e (inl refl), all_below less es (λ x k. each x (inr k)))

module _ (g : Geometry) (image : List Sector) (refs : List ℕ) (top : ℕ) (s : Store) (sound : IsRooted g refs top s) (stand : NodesStand g image s) where
  abbrev m : ℕ
  m = g.metadata_blocks

  -- a node of this kind and level stands in the block as in the store
  record StandsThere (kind : TreeKind) (k b : ℕ) (n : NodeValue) : Type 0 where
    here : IsNodeAt image b n
    kind_is : n.kind ≡ kind
    level_is : n.level ≡ k
    entries : (node_at s b).entries ≡ map (moved_by (first_named m kind k)) n.entries

  stands_there : (kind : TreeKind) (k b : ℕ) → k ≤ most_level kind → 0 < count_of s b → (node_at s b).rank ≡ rank_of kind 0 + k → (n : NodeValue) × StandsThere kind k b n
  stands_there kind k b most live r =
      let t = stand b live (omega (arith, r, base_positive kind)) in
      let at : IsNodeAt image b t.0 = t.1.0 in
      let tells = rank_tells t.0.kind kind t.0.level k at.good.form.level most (sym (ap (λ (x : Node). x.rank) t.1.1) ∙ r) in (
        t.0,
        record {
          here = at;
          kind_is = tells.0;
          level_is = tells.1;
          entries = ap (λ (x : Node). x.entries) t.1.1 ∙ (λ i. map (moved_by (first_named m (tells.0 i) (tells.1 i))) t.0.entries);
        },
      )

  value_inside : (kind : TreeKind) (k b : ℕ) (n : NodeValue) → 0 < count_of s b → (node_at s b).rank ≡ rank_of kind 0 + k → StandsThere kind k b n → (e : Entry) → Among e n.entries → IsInRange g (is_naming_data kind k) e.value
  value_inside kind k b n live r st e h =
      let there : Among (moved_by (first_named m kind k) e) (node_at s b).entries = subst (λ xs. Among (moved_by (first_named m kind k) e) xs) (sym st.entries) (among_map (moved_by (first_named m kind k)) e n.entries h) in
      let inner : 0 < (node_at s b).rank = omega (arith, r, base_positive kind) in
      let named : 0 < occurrences (first_named m kind k + e.value) (children (node_at s b)) =
      subst (λ xs. 0 < occurrences (first_named m kind k + e.value) xs) (sym (children_values (node_at s b) inner)) (among_value (moved_by (first_named m kind k) e) (node_at s b).entries there) in
      elim (either_names m kind k) [
        | inl d ↦
            let live_there = child_live s [] refs b (first_named m kind k + e.value) sound.balanced live refl named in
            subst (λ t. IsInRange g t e.value) (sym d.0) (omega (arith, live_below s (first_named m kind k + e.value) live_there, d.1, sound.counted))
        | inr d ↦
            let same : first_named m kind k + e.value ≡ e.value = omega (arith, d.1) in
            let c = named_live g image s refs sound.balanced stand b e.value live (omega (arith, r, rank_split kind k, d.2)) (subst (λ x. 0 < occurrences x (children (node_at s b))) same named) in
            subst (λ t. IsInRange g t e.value) (sym d.0) (tree_block e.value c.1)
      ]
    where
      tree_block : (x : ℕ) → 0 < (node_at s x).rank → IsTreeBlock g x
      tree_block x some = (
        elim (cases_lt x (fixed_part g)) [
          | inl low ↦ absurd (omega (arith, some, sound.forest.bare x (omega (arith, in_range x 0 (fixed_part g) (omega arith) (omega (arith, low))))))
          | inr past ↦ past
        ],
        omega (arith, rank_inside s x some, sound.sized),
      )

  -- the child of an inner node
  child_there : (kind : TreeKind) (j b c : ℕ) → 0 < count_of s b → (node_at s b).rank ≡ rank_of kind 0 + suc j → 0 < occurrences c (values (node_at s b).entries) → 0 < count_of s c
  child_there kind j b c live r here =
      child_live s [] refs b c sound.balanced live refl (subst (λ xs. 0 < occurrences c xs) (sym (children_values (node_at s b) (omega (arith, r)))) here)

  inner_names : (kind : TreeKind) (j b : ℕ) (n : NodeValue) → StandsThere kind (suc j) b n → (node_at s b).entries ≡ n.entries
  inner_names kind j b n st = st.entries ∙ (ap (λ f. map (moved_by f) n.entries) (first_inner m kind (suc j) (omega arith)) ∙ moved_by_nothing n.entries)

  keeps_rules : (kind : TreeKind) (is_root : Bool) (k low high b : ℕ) (n : NodeValue) → 0 < count_of s b → IsTree (rank_of kind 0) k s low high b → rules.least_of is_root kind k ≤ length (node_at s b).entries
      → StandsThere kind k b n → KeepsRules image g kind is_root k low high b n
  keeps_rules kind is_root k low high b n live tree full st =
      let long : length (node_at s b).entries ≡ length n.entries = ap length st.entries ∙ length-map n.entries (moved_by (first_named m kind k)) in
      let up : Ascend low high n.entries = ascend_moved (first_named m kind k) low high n.entries (subst (Ascend low high) st.entries (node_ascend (rank_of kind 0) k s low high b tree)) in
      record {
        here = st.here;
        kind_is = st.kind_is;
        level_is = st.level_is;
        filled = omega (arith, full, long);
        keys = within_from_ascend low high n.entries up;
        values = λ i d lt. value_inside kind k b n live (tree_rank (rank_of kind 0) k s low high b tree) st (get_or n.entries i d) (contains_among (get_or n.entries i d) n.entries (Contains-get_or n.entries i d lt));
      }

  ruled : (kind : TreeKind) (is_root : Bool) (k low high b : ℕ) → k ≤ most_level kind → 0 < count_of s b → IsTree (rank_of kind 0) k s low high b → rules.least_of is_root kind k ≤ length (node_at s b).entries
      → rules.IsTree image g kind is_root k low high b
  unfolding rules.IsTree
  ruled kind is_root zero low high b most live tree full =
      let t = stands_there kind zero b most live (tree_rank (rank_of kind 0) zero s low high b tree) in
      (t.0, keeps_rules kind is_root zero low high b t.0 live tree full t.1)
  ruled kind is_root (suc j) low high b most live tree full =
      let t = stands_there kind (suc j) b most live tree.0 in
      let Q : ℕ → ℕ → ℕ → Type 0 = λ from to c. rules.IsTree image g kind false j from to c in
      let same : (node_at s b).entries ≡ t.0.entries = inner_names kind j b t.0 t.1 in
      let below : Parted Q low high (node_at s b).entries = parted_map (Below (rank_of kind 0) j s) Q low high (node_at s b).entries
      (λ from to c here part. ruled kind false j from to c (omega (arith, most)) (child_there kind j b c live tree.0 here) part.0 (omega (arith, part.1, least_below kind j most))) tree.1 in
      let parted : Parted Q low high t.0.entries = subst (λ xs. Parted Q low high xs) same below in (
        t.0,
        keeps_rules kind is_root (suc j) low high b t.0 live tree full t.1,
        begins_parted Q low high t.0.entries (omega (arith, full, least_some is_root kind j, ap length same)) parted,
        children_parted Q low high t.0.entries parted,
      )

  pub ruled_whole : (kind : TreeKind) (k high b : ℕ) → k ≤ most_level kind → 0 < count_of s b → IsWhole (rank_of kind 0) k s high b → IsWholeTree image g kind (most_level kind) high b
  ruled_whole kind k high b most live h = record { level = k; low_enough = most; tree = ruled kind true k 0 high b most live h.tree (full k refl) }
    where
      full : (j : ℕ) → j ≡ k → rules.least_of_root j ≤ length (node_at s b).entries
      full zero e = omega arith
      full (suc j) e = h.branches (omega (arith, e))

  -- ---- the entries of all leaves

  joined_is : (kind : TreeKind) (j : ℕ) (es all : List Entry) → ((e : Entry) (xs : List Entry) → Among e es → IsContent image kind j e.value xs → map (moved_by (first_named m kind 0)) xs ≡ pairs j s e.value)
      → Joined (λ child entries. IsContent image kind j child entries) es all → map (moved_by (first_named m kind 0)) all ≡ joined (pairs j s) es
  joined_is kind j [] all each h = ap (map (moved_by (first_named m kind 0))) h
  joined_is kind j (e ∷ es) all each h =
      ap (map (moved_by (first_named m kind 0))) h.4
      ∙ (moved-append (first_named m kind 0) h.0 h.1
      ∙ (λ i. each e h.0 (inl refl) h.2 i ++ joined_is kind j es h.1 (λ x xs k. each x xs (inr k)) h.3 i))

  entry_there : (kind : TreeKind) (j b : ℕ) (e : Entry) → 0 < count_of s b → (node_at s b).rank ≡ rank_of kind 0 + suc j → Among e (node_at s b).entries → (0 < count_of s e.value) × (0 < (node_at s e.value).rank)
  entry_there kind j b e live r k =
      named_live g image s refs sound.balanced stand b e.value live (omega (arith, r, base_positive kind))
      (subst (λ es. 0 < occurrences e.value es) (sym (children_values (node_at s b) (omega (arith, r)))) (among_value e (node_at s b).entries k))

  content_is : (kind : TreeKind) (k b : ℕ) (all : List Entry) → 0 < count_of s b → 0 < (node_at s b).rank → IsContent image kind k b all
      → (map (moved_by (first_named m kind 0)) all ≡ pairs k s b) × ((node_at s b).rank ≡ rank_of kind 0 + k)
  unfolding IsContent
  content_is kind zero b all live inner h =
      let is = node_is g image s refs sound.balanced stand b h.0 live inner h.1 in (
        ap (map (moved_by (first_named m kind 0))) h.4 ∙ sym (leaf_entries m (node_at s b) h.0 kind is h.2 h.3),
        ap (λ (x : Node). x.rank) is ∙ ((λ i. rank_of (h.2 i) (h.3 i)) ∙ rank_split kind 0),
      )
  content_is kind (suc j) b all live inner h =
      let is = node_is g image s refs sound.balanced stand b h.0 live inner h.1 in
      let rank : (node_at s b).rank ≡ rank_of kind 0 + suc j = ap (λ (x : Node). x.rank) is ∙ ((λ i. rank_of (h.2 i) (h.3 i)) ∙ rank_split kind (suc j)) in
      let same : (node_at s b).entries ≡ h.0.entries = inner_entries m (node_at s b) h.0 is (omega (arith, h.3)) in (
        joined_is kind j h.0.entries all (λ e xs k c. let x = entry_there kind j b e live rank (subst (λ es. Among e es) (sym same) k) in (content_is kind j e.value xs x.0 x.1 c).0) h.4 ∙ ap (joined (pairs j s)) (sym same),
        rank,
      )

  -- the content of a tree is as long as the store's
  pub content_long : (kind : TreeKind) (k b : ℕ) (all : List Entry) → 0 < count_of s b → 0 < (node_at s b).rank → IsContent image kind k b all → length all ≡ length (content (rank_of kind 0) s b)
  content_long kind k b all live inner h =
      let c = content_is kind k b all live inner h in
      let level : k ≡ (node_at s b).rank - rank_of kind 0 = omega (arith, c.1) in
      sym (length-map all (moved_by (first_named m kind 0))) ∙ (ap length c.0 ∙ ap (λ n. length (pairs n s b)) level)

-- a volume's tree below the size that its record tells
module _ (g : Geometry) (image : List Sector) (refs : List ℕ) (top : ℕ) (s : Store) (sound : IsRooted g refs top s) (stand : NodesStand g image s) (id r mapped told : ℕ) (path : IsDevice image top id r mapped told) where
  there : found id (content 5 s top) ≡ Some (listed id r mapped told)
  there = device_found_there g image refs top s sound stand id r mapped told path

  below_size : (x : Entry) → Among x (content 1 s r) → x.key < told_blocks g told
  below_size x k =
      let at : found x.key (content 1 s r) ≡ Some x = among_found 0 (2 ^ 24) x (content 1 s r) (ascend_tree 1 ((node_at s r).rank - 1) s 0 (2 ^ 24) r (sound.forest.volumes id (listed id r mapped told) there).tree.tree) k in
      sound.sizes.inside id told x.key (x.value - g.metadata_blocks) (told_size g image refs top s sound stand id r mapped told path)
      (lookups_are_listed.slots g.metadata_blocks s top id x.key (listed id r mapped told) there ∙ ap (option_map (λ (y : Entry). y.value - g.metadata_blocks)) at)

  pub own_tree : IsWhole 1 ((node_at s r).rank - 1) s (told_blocks g told) r
  own_tree =
      narrow_whole 1 ((node_at s r).rank - 1) s (2 ^ 24) (told_blocks g told) r (all_below (told_blocks g told) (content 1 s r) below_size)
      (sound.forest.volumes id (listed id r mapped told) there).tree

-- the trees below a root keep them, of a sound store whose nodes stand in the image
pub trees_kept : (version : Version) (g : Geometry) (image : List Sector) (refs : List ℕ) (top : ℕ) (s : Store) → IsRooted g refs top s → NodesStand g image s → IsOfVersion version (volumes_below g.metadata_blocks s top)
    → KeepTheRules image version g top
trees_kept version g image refs top s sound stand old = record {
  devices = ruled_whole g image refs top s sound stand Device ((node_at s top).rank - 5) (2 ^ 24) top (devices_low g image refs top s sound stand) (root_live g image refs top s sound stand) sound.forest.devices;
  sizes = λ id r mapped told path. size_of_version version g (volumes_below g.metadata_blocks s top) sound.sizes old id told (told_size g image refs top s sound stand id r mapped told path);
  volumes = λ id r mapped told path.
      let e = device_found_there g image refs top s sound stand id r mapped told path in
      let there = volume_there g image refs top s sound stand id (listed id r mapped told) e in
      ruled_whole g image refs top s sound stand Mapping ((node_at s r).rank - 1) (told_blocks g told) r (omega (arith, there.2)) there.0 (own_tree g image refs top s sound stand id r mapped told path);
  few_devices = λ level records h.
      let long = content_long g image refs top s sound stand Device level top records (root_live g image refs top s sound stand) (root_rank g image refs top s sound stand) h in omega (arith, long, sound.few);
  mapped_is = λ id r mapped told level entries path h.
      let e = device_found_there g image refs top s sound stand id r mapped told path in
      let there = volume_there g image refs top s sound stand id (listed id r mapped told) e in
      let inner : 0 < (node_at s r).rank = omega (arith, volume_is g image refs top s sound stand id (listed id r mapped told) e) in
      content_long g image refs top s sound stand Mapping level r entries there.0 inner h ∙ sym (sound.forest.volumes id (listed id r mapped told) e).mapped;
}

-- the sizes that a version has are those of each root
version_of : (version : Version) (g : Geometry) (root held : ℕ) (s : Store) → IsSound g root held s → IsOfVersion version (volumes_of g.metadata_blocks s root held)
    → (r : ℕ) → 0 < occurrences r (root ∷ held_refs held) → IsOfVersion version (volumes_below g.metadata_blocks s r)
version_of OwnSizes g root held s sound old r here = tt
version_of OneSize g root held s sound old r here = elim (cases_eq root r) [
  | inl e ↦ subst (λ x. IsOfVersion OneSize (volumes_below g.metadata_blocks s x)) e
      (λ id size h. old id size (copies_are_listed.now_size g.metadata_blocks s root held id (size_low g.metadata_blocks s root (fixed_blocks g) (2 ^ 24) id size sound.forest h) ∙ h))
  | inr d ↦ below held (omega (arith, here, one_other root r d)) old
]
  where
    below : (h : ℕ) → 0 < occurrences r (held_refs h) → IsOfVersion OneSize (volumes_of g.metadata_blocks s root h) → IsOfVersion OneSize (volumes_below g.metadata_blocks s r)
    below zero some of = absurd (omega (arith, some))
    below (suc n) some of =
        subst (λ x. IsOfVersion OneSize (volumes_below g.metadata_blocks s x)) (held_one (suc n) r some)
        (λ id size h. of (copy_id id) size (copies_are_listed.copy_size g.metadata_blocks s root n (fixed_blocks g) (2 ^ 24) id sound.forest ∙ h))

-- below both roots
pub both_kept : (version : Version) (g : Geometry) (image : List Sector) (root held : ℕ) (s : Store) → IsSound g root held s → NodesStand g image s → IsOfVersion version (volumes_of g.metadata_blocks s root held)
    → (r : ℕ) → Contains (root ∷ held_refs held) r → KeepTheRules image version g r
both_kept version g image root held s sound stand old r known =
    let here = root_of g image root held s sound stand r known in
    trees_kept version g image (held_by g root held) r s (rooted g image root held s sound stand r here) stand (version_of version g root held s sound old r here)

pub commits_keep_the_rules : CommitsKeepTheRules
commits_keep_the_rules image superblock s commit r known =
    both_kept superblock.version superblock.geometry image superblock.root superblock.held_root s commit.sound commit.nodes commit.of_version r known
