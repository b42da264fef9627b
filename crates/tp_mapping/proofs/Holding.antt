-- Trees that stand on a disk: what is read of them, and what stands after a call.
use Rattle.std.proofs.Common.{◌≡◌, ℕ, suc, ◌+◌, ◌<◌, ◌≤◌, ◌==◌, List, [], ◌∷◌, ◌++◌, length, map, refl, sym, ap, subst, ◌∙◌, arith, inl, inr, Bool, true, false, Some, None}
use Rattle.std.specs.Prelude.{◌^◌, if◌then◌else◌, IsSome, Option, is_some}
use Rattle.std.specs.Option.{option_map}
use Rattle.std.proofs.lemmas.Bool.{eqb-true, false≢true}
use Rattle.std.proofs.lemmas.List.{length-map}
use Rattle.tp_model.specs.Geometry.{Geometry, IsWithinLimits}
use Rattle.tp_model.specs.Told.{IsToldSize, told_blocks}
use Rattle.tp_model.specs.Disk.{DiskState}
use Rattle.tp_layout.specs.declared.entry.Entry.{Entry}
use Rattle.tp_layout.specs.declared.kind.TreeKind.TheVariants.{Device, Mapping}
use Rattle.tp_layout.specs.Entries.{found}
use Rattle.tp_refs.specs.Store.{Store, count_of, node_at}
use Rattle.tp_refs.specs.Balance.{Frame, occurrences}
use Rattle.tp_refs.proofs.Steps.{frame_part, occurrences-append, one_same}
use Rattle.tp_trees.proofs.Trees.{ascend_tree, rank_inside}
use Rattle.tp_sharing.specs.Forest.{Forest, Forests, HeldForest, IsVolume, content, held_refs, value_at}
use Rattle.tp_sharing.proofs.Copies.{copies_are_listed, sized_copy, sized_now}
use Rattle.tp_sharing.proofs.Held.{forests_of_both, held_stays}
use Rattle.tp_sharing.proofs.Lists.{found_within}
use Rattle.tp_mapping.proofs.Within.{devices_of_both}
use Rattle.tp_sharing.specs.Volumes.{AreSized, Volumes, as_copy, copies_below, device_from, device_of, devices_in, size_of, slot_from, slot_of, volumes_below, volumes_of}
use Rattle.tp_sharing.proofs.Later.{forest_stays}
use Rattle.tp_sharing.proofs.Slots.{lookups_are_listed}
use Rattle.tp_stored.specs.Commit.{fixed_blocks, held_by}
use Rattle.tp_tm.specs.Tm.{Tm}
use Rattle.tp_tm.specs.Holds.{Holds}
use Rattle.tp_btree.specs.Inserts.{Ran}
use Rattle.tp_btree.specs.Trees.{StandsBelow}
use Rattle.tp_mapping.specs.Mapping.{size_for}
use Rattle.tp_mapping.specs.declared.volume.Volume.{Volume}
pub use Rattle.tp_mapping.proofs.Rooted.{height}
use Rattle.tp_mapping.proofs.Rooted as below
use Rattle.tp_mapping.specs.Held.{HasVolume, HoldTrees, HoldsRoot}

none_some : {A : Type 0} (a : Option A) (x : A) → a ≡ None → a ≡ Some x → ⊥
none_some a x e f = cc

-- ---- sizes

pub if_most : (b : Bool) (x y n : ℕ) → x ≤ n → y ≤ n → (if b then x else y) ≤ n
if_most true x y n p q = p
if_most false x y n p q = q

-- no volume has more blocks than virtual blocks have numbers
pub told_most : (g : Geometry) (size : ℕ) → IsWithinLimits g → IsToldSize g size → told_blocks g size ≤ 2 ^ 24
told_most g size limits (inl h) = if_most (size == 0) g.virtual_blocks size (2 ^ 24) limits.virtual_most (omega (arith, h))
told_most g size limits (inr h) = if_most (size == 0) g.virtual_blocks size (2 ^ 24) limits.virtual_most (omega (arith, h.1))

-- the size that a record tells of so many blocks stands for as many, and for no more than there may be
pub for_more : (g : Geometry) (blocks n : ℕ) → n ≤ blocks → n ≤ told_blocks g (size_for g blocks)
for_more g blocks n le = go (blocks == g.virtual_blocks) refl where
  go : (b : Bool) → (blocks == g.virtual_blocks) ≡ b → n ≤ told_blocks g (if b then 0 else blocks)
  go true e = let q : blocks ≡ g.virtual_blocks = eqb-true blocks g.virtual_blocks e in omega (arith, le, q)
  go false e = by (blocks == 0) refl where
    by : (z : Bool) → (blocks == 0) ≡ z → n ≤ (if z then g.virtual_blocks else blocks)
    by true f = let q : blocks ≡ 0 = eqb-true blocks 0 f in omega (arith, le, q)
    by false f = le

-- the sizes are the same, and the counts of the last commit
pub record SameCommit (t u : Tm) : Type 0 where
  pub geometry : u.geometry ≡ t.geometry
  pub metadata_kept : u.metadata_kept ≡ t.metadata_kept
  pub data_kept : u.data_kept ≡ t.data_kept
  pub held_root : u.held_root ≡ t.held_root

pub same_commit : (n : ℕ) (fault : Bool) (t u : Tm) (a b : DiskState) → Ran n fault t u a b → SameCommit t u
same_commit n fault t u a b r = record { geometry = r.geometry; metadata_kept = r.metadata_kept; data_kept = r.data_kept; held_root = r.held_root }

pub same_then : (t u v : Tm) → SameCommit t u → SameCommit u v → SameCommit t v
same_then t u v p q = record { geometry = q.geometry ∙ p.geometry; metadata_kept = q.metadata_kept ∙ p.metadata_kept; data_kept = q.data_kept ∙ p.data_kept; held_root = q.held_root ∙ p.held_root }

-- ---- a root

module _ (g : Geometry) (t : Tm) (disk : DiskState) (root : ℕ) (more : List ℕ) (now : Volumes) (h : HoldTrees g t disk root more now) where
  abbrev s : Store
  s = h.store

  abbrev held : List ℕ
  held = more ++ held_by g root t.held_root

  root_held : 0 < occurrences root held
  root_held = omega (arith, occurrences-append root more (held_by g root t.held_root), one_same root root refl)

  pub devices_told : devices_in now ≡ length (content 5 s root)
  devices_told = ap devices_in h.listed ∙ devices_of_both g.metadata_blocks s root t.held_root (fixed_blocks g) (2 ^ 24) h.forest

  -- an entry's key is a device's id
  pub low_id : (device : ℕ) (e : Entry) → found device (content 5 s root) ≡ Some e → device < 2 ^ 24
  low_id device e there =
      let value : value_at device (content 5 s root) ≡ Some e.value = ap (λ (o : Option Entry). option_map (λ (x : Entry). x.value) o) there in
      (found_within 0 (2 ^ 24) device e.value (content 5 s root) (ascend_tree 5 (height 5 s root) s 0 (2 ^ 24) root h.forest.devices.tree) value).1

  -- what there is of a device in the list
  pub device_in : (device : ℕ) → device < 2 ^ 24 → device_of device now ≡ device_of device (volumes_below g.metadata_blocks s root)
  device_in device low = ap (device_of device) h.listed ∙ copies_are_listed.now g.metadata_blocks s root t.held_root device low

  -- and of its size
  pub size_in : (device : ℕ) → device < 2 ^ 24 → size_of device now ≡ size_of device (volumes_below g.metadata_blocks s root)
  size_in device low = ap (size_of device) h.listed ∙ copies_are_listed.now_size g.metadata_blocks s root t.held_root device low

  pub both : Forests s (root ∷ held_refs t.held_root) (fixed_blocks g) (2 ^ 24)
  both = forests_of_both s root t.held_root (fixed_blocks g) (2 ^ 24) h.forest h.copy

  pub devices_few : length (content 5 s root) ≤ 65536
  devices_few = omega (arith, devices_told, h.few)

  -- both roots

  pub now_root : HoldsRoot g t disk held root s
  now_root = record {
    geometry = h.geometry;
    holds = h.holds;
    named = root_held;
    forest = h.forest;
    few = devices_few;
    sizes = sized_now g g.metadata_blocks s root t.held_root (fixed_blocks g) (2 ^ 24) h.forest (subst (λ (ds : Volumes). AreSized g ds) h.listed h.sizes);
  }

  pub copy_root : (n : ℕ) → t.held_root ≡ suc n → HoldsRoot g t disk held (suc n) s
  copy_root n is =
      let m = g.metadata_blocks in
      let many : length (copies_below m s (suc n)) ≡ length (content 5 s (suc n)) =
      length-map (volumes_below m s (suc n)) as_copy ∙ length-map (content 5 s (suc n)) (device_from m s) in
      record {
        geometry = h.geometry;
        holds = h.holds;
        named = subst (λ r. 0 < occurrences (suc n) (more ++ held_by g root r)) (sym is) (omega (arith, occurrences-append (suc n) more (held_by g root (suc n)), one_same (suc n) (suc n) refl));
        forest = subst (λ r. HeldForest s r (fixed_blocks g) (2 ^ 24)) is h.copy;
        few = omega (arith, many, subst (λ r. length (copies_below m s r) ≤ 65536) is h.few_held);
        sizes = sized_copy g m s root n (fixed_blocks g) (2 ^ 24) h.forest (subst (λ r. AreSized g (volumes_of m s root r)) is (subst (λ (ds : Volumes). AreSized g ds) h.listed h.sizes));
      }

  pub root_low : height 5 s root ≤ 2
  root_low = below.root_low g t disk held root s now_root

  pub root_stands : StandsBelow t disk Device [] held s (height 5 s root) 0 (2 ^ 24) root
  root_stands = below.root_stands g t disk held root s now_root

  pub nodes_many : length s.nodes ≡ g.metadata_blocks
  nodes_many = h.holds.stands.sized ∙ ap (λ (z : Geometry). z.metadata_blocks) h.geometry

  pub ranked_below : (b : ℕ) → 0 < (node_at s b).rank → b < t.geometry.metadata_blocks
  ranked_below b r = omega (arith, rank_inside s b r, h.holds.stands.sized)

  -- ---- a volume

  module _ (device : ℕ) (e : Entry) (there : found device (content 5 s root) ≡ Some e) where
    pub volume_there : IsVolume s (2 ^ 24) e
    volume_there = h.forest.volumes device e there

    pub volume_low : height 1 s e.value ≤ 3
    volume_low = below.volume_low g t disk held root s now_root device e there

    pub volume_inside : e.value < t.geometry.metadata_blocks
    volume_inside = below.volume_inside g t disk held root s now_root device e there

    pub volume_few : e.mapped ≤ 2 ^ 24
    volume_few = below.volume_few g t disk held root s now_root device e there

    pub volume_live : 0 < count_of s e.value
    volume_live = below.volume_live g t disk held root s now_root device e there

    pub volume_stands : StandsBelow t disk Mapping [] held s (height 1 s e.value) 0 (2 ^ 24) e.value
    volume_stands = below.volume_stands g t disk held root s now_root device e there

    pub slots_of_volume : device_of device now ≡ Some (map (slot_from g.metadata_blocks) (content 1 s e.value))
    slots_of_volume =
        device_in device (low_id device e there)
        ∙ (lookups_are_listed.devices g.metadata_blocks s root device ∙ ap (option_map (λ (x : Entry). map (slot_from g.metadata_blocks) (content 1 s x.value))) there)

    -- what its record tells
    pub size_told : size_of device now ≡ Some e.size
    size_told =
        size_in device (low_id device e there)
        ∙ (lookups_are_listed.sizes g.metadata_blocks s root device ∙ ap (option_map (λ (x : Entry). x.size)) there)

    pub may_tell : IsToldSize g e.size
    may_tell = h.sizes.told device e.size size_told

    pub block_below : (block place : ℕ) → slot_of device block now ≡ Some place → block < told_blocks g e.size
    block_below block place at = h.sizes.inside device e.size block place size_told at

  pub none_there : (device : ℕ) → device < 2 ^ 24 → found device (content 5 s root) ≡ None → device_of device now ≡ None
  none_there device low n =
      device_in device low
      ∙ (lookups_are_listed.devices g.metadata_blocks s root device ∙ ap (option_map (λ (x : Entry). map (slot_from g.metadata_blocks) (content 1 s x.value))) n)

  pub none_known : (device : ℕ) → device < 2 ^ 24 → found device (content 5 s root) ≡ None → IsSome (device_of device now) → ⊥
  none_known device low n some = false≢true (ap is_some (sym (none_there device low n)) ∙ some)

  -- ---- after a call

  pub counted_after : (u : Tm) (later : DiskState) (opens next : List ℕ) (v : Store) → SameCommit t u → Holds u later opens next v → length v.counts ≡ g.metadata_blocks + g.data_blocks
  counted_after u later opens next v ran q =
      sym q.balanced.sized_kept
      ∙ (ap length q.stands.kept ∙ (ap length ((λ i. ran.metadata_kept i ++ ran.data_kept i)) ∙ (ap length (sym h.holds.stands.kept) ∙ (h.holds.balanced.sized_kept ∙ h.counted))))

  pub sized_after : (u : Tm) (later : DiskState) (opens next : List ℕ) (v : Store) → SameCommit t u → Holds u later opens next v → length v.nodes ≡ length s.nodes
  sized_after u later opens next v ran q = q.stands.sized ∙ (ap (λ (z : Geometry). z.metadata_blocks) ran.geometry ∙ sym h.holds.stands.sized)

  -- the copies stay where nothing under the held root was written
  pub copies_after : (u : Tm) (later : DiskState) (next : List ℕ) (v : Store) → SameCommit t u → Holds u later [] next v → Frame s v (held_refs t.held_root ++ fixed_blocks g)
      → HeldForest v t.held_root (fixed_blocks g) (2 ^ 24) × ((m : ℕ) → copies_below m v t.held_root ≡ copies_below m s t.held_root)
  copies_after u later next v ran q frame = held_stays s v t.held_root (fixed_blocks g) (2 ^ 24) h.copy (sized_after u later [] next v ran q) frame

  unfoldable pub changed_trees : (u : Tm) (later : DiskState) (top : ℕ) (next : List ℕ) (after : Volumes) (v : Store) → SameCommit t u → Holds u later [] (next ++ held_by g top t.held_root) v
      → Frame s v (held_refs t.held_root ++ fixed_blocks g)
      → Forest v top (fixed_blocks g) (2 ^ 24) → after ≡ volumes_below g.metadata_blocks v top ++ copies_below g.metadata_blocks s t.held_root → devices_in after ≤ 65536 → AreSized g after
      → HoldTrees g u later top next after
  changed_trees u later top next after v ran q frame forest listed few sizes =
      let c = copies_after u later (next ++ held_by g top t.held_root) v ran q frame in
      let same = c.1 g.metadata_blocks in
      record {
        store = v;
        geometry = ran.geometry ∙ h.geometry;
        holds = subst (λ n. Holds u later [] (next ++ held_by g top n) v) (sym ran.held_root) q;
        limits = h.limits;
        counted = counted_after u later [] (next ++ held_by g top t.held_root) v ran q;
        forest = forest;
        copy = subst (λ n. HeldForest v n (fixed_blocks g) (2 ^ 24)) (sym ran.held_root) c.0;
        listed = subst (λ n. after ≡ volumes_of g.metadata_blocks v top n) (sym ran.held_root) (listed ∙ ap (λ (ds : Volumes). volumes_below g.metadata_blocks v top ++ ds) (sym same));
        few = few;
        few_held = subst (λ n. length (copies_below g.metadata_blocks v n) ≤ 65536) (sym ran.held_root) (omega (arith, h.few_held, ap length same));
        sizes = sizes;
      }

  unfoldable pub same_trees : (u : Tm) (later : DiskState) (next : List ℕ) (v : Store) → SameCommit t u → Holds u later [] (next ++ held_by g root t.held_root) v → Frame s v (held_by g root t.held_root) → HoldTrees g u later root next now
  same_trees u later next v ran q frame =
      let sized = sized_after u later [] (next ++ held_by g root t.held_root) v ran q in
      let parts = λ (x : ℕ). occurrences-append x (held_refs t.held_root) (fixed_blocks g) in
      let now_frame = frame_part s v (held_by g root t.held_root) (root ∷ fixed_blocks g) frame (λ x here. omega (arith, here, parts x)) in
      let held_frame = frame_part s v (held_by g root t.held_root) (held_refs t.held_root ++ fixed_blocks g) frame (λ x here. omega (arith, here)) in
      let f = forest_stays s v root (fixed_blocks g) (2 ^ 24) h.forest sized now_frame in
      changed_trees u later root next now v ran q held_frame f.forest
      (h.listed ∙ ap (λ (ds : Volumes). ds ++ copies_below g.metadata_blocks s t.held_root) (sym (f.lists g.metadata_blocks))) h.few h.sizes

-- the same on a disk that is as it was
pub record OnDisk (g : Geometry) (t : Tm) (old new : DiskState) (root : ℕ) (more : List ℕ) (now : Volumes) (device : ℕ) (v : Volume) (h : HasVolume g t old root more now device v) : Type 0 where
  pub there : HasVolume g t new root more now device v
  pub same : (block : ℕ) → found block (content 1 there.trees.store v.root) ≡ found block (content 1 h.trees.store v.root)

pub on_disk : (g : Geometry) (t : Tm) (old new : DiskState) (root : ℕ) (more : List ℕ) (now : Volumes) (device : ℕ) (v : Volume) → old ≡ new → (h : HasVolume g t old root more now device v) → OnDisk g t old new root more now device v h
on_disk g t old new root more now device v e h = record {
  there = record {
    trees = record {
      store = h.trees.store;
      geometry = h.trees.geometry;
      holds = subst (λ (z : DiskState). Holds t z [] (more ++ held_by g root t.held_root) h.trees.store) e h.trees.holds;
      limits = h.trees.limits;
      counted = h.trees.counted;
      forest = h.trees.forest;
      copy = h.trees.copy;
      listed = h.trees.listed;
      few = h.trees.few;
      few_held = h.trees.few_held;
      sizes = h.trees.sizes;
    };
    told = h.told;
  };
  same = λ block. refl;
}
