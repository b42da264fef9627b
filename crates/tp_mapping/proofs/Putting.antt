-- The device tree after a device was put in or taken out.
use Rattle.std.proofs.Common.{◌≡◌, ℕ, ◌+◌, ◌-◌, ◌*◌, ◌<◌, ◌≤◌, List, [], ◌∷◌, ◌++◌, length, map, refl, sym, ap, subst, ◌∙◌, arith, Some, None}
use Rattle.std.specs.Prelude.{◌^◌, IsSome, Option}
use Rattle.std.specs.Option.{option_map}
use Rattle.std.proofs.lemmas.Bool.{false≢true}
use Rattle.tp_model.specs.Geometry.{Geometry}
use Rattle.tp_model.specs.Disk.{DiskState}
use Rattle.tp_layout.specs.declared.entry.Entry.{Entry}
use Rattle.tp_layout.specs.declared.kind.TreeKind.TheVariants.{Device, Mapping}
use Rattle.tp_layout.specs.Entries.{found, with_entry}
use Rattle.tp_layout.proofs.Ordered.{length-with_new}
use Rattle.tp_refs.specs.Store.{MayName, Store, first_named, moved_by, node_at}
use Rattle.tp_refs.specs.Balance.{Balanced, Frame, HasRoomFor, LowerStay}
use Rattle.tp_refs.proofs.Steps.{frame_part, held_live, occurrences-append, one_same}
use Rattle.tp_trees.specs.Tree.{IsWhole, pairs}
use Rattle.tp_trees.proofs.Heights.{device_low, mapping_low}
use Rattle.tp_trees.proofs.Trees.{tree_rank}
use Rattle.tp_sharing.specs.Forest.{Forest, content, held_refs}
use Rattle.tp_sharing.specs.Volumes.{AreSized, BlockSlot, DevicesAscend, Volumes, copies_below, device_from, device_of, devices_in, slot_from, volumes_below, with_device, without_device}
use Rattle.tp_sharing.proofs.Later.{content_stays, device_is_put, device_is_taken}
use Rattle.tp_sharing.proofs.Copies.{lists_ascend}
use Rattle.tp_sharing.proofs.Held.{copies_stay}
use Rattle.tp_sharing.proofs.Slots.{lookups_are_listed}
use Rattle.tp_sharing.proofs.Sized.{sized_with_device, sized_without_device}
use Rattle.tp_sharing.proofs.Use.{over_use, put_use, taken_use}
use Rattle.tp_sharing.specs.Sizes.{metadata_in_use}
use Rattle.tp_stored.specs.Commit.{fixed_blocks, held_by}
use Rattle.tp_tm.specs.Tm.{Tm}
use Rattle.tp_tm.specs.Holds.{Holds}
use Rattle.tp_btree.specs.Inserts.{Insertable, InsertedAt}
use Rattle.tp_btree.specs.Removes.{CanRemove, WasRemoved}
use Rattle.tp_btree.specs.Replaces.{CanReplace, Swapped}
use Rattle.tp_btree.specs.Roots.{Passed}
use Rattle.tp_btree.specs.Trees.{StandsBelow}
use Rattle.tp_btree.specs.declared.replacement.Changed.{Changed}
use Rattle.tp_mapping.specs.declared.volume.Volume.{Volume}
use Rattle.tp_mapping.specs.Held.{HoldTrees, HoldVolume, HoldsOld, entry_of, in_use}
use Rattle.tp_mapping.proofs.Use.{in_use_is, use_passed}
use Rattle.tp_mapping.proofs.Holding.{SameCommit, both, changed_trees, device_in, devices_told, height, low_id, nodes_many, ranked_below, root_low, same_trees, sized_after}
use Rattle.tp_mapping.proofs.Copies.{held_few, other_order}
use Rattle.tp_mapping.proofs.Within.{with_device_length, with_there_length, without_device_length}

none_some : {A : Type 0} (a : Option A) (x : A) → a ≡ None → a ≡ Some x → ⊥
none_some a x e f = cc

some_none : {A : Type 0} (a : Option A) → a ≡ None → IsSome a → ⊥
some_none None e h = false≢true h
some_none (Some x) e h = none_some (Some x) x e refl

some_of : {A : Type 0} (a : Option A) → IsSome a → (x : A) × (a ≡ Some x)
some_of None h = absurd (false≢true h)
some_of (Some x) h = (x, refl)

-- the entry of a device, as the list has it
module _ (g : Geometry) (t : Tm) (disk : DiskState) (root : ℕ) (more : List ℕ) (now : Volumes) (h : HoldTrees g t disk root more now) (device : ℕ) where
  abbrev slots_at : Entry → List BlockSlot
  slots_at e = map (slot_from g.metadata_blocks) (content 1 h.store e.value)

  listed_at : device < 2 ^ 24 → (o : Option Entry) → found device (content 5 h.store root) ≡ o → device_of device now ≡ option_map slots_at o
  listed_at low o e = device_in g t disk root more now h device low ∙ (lookups_are_listed.devices g.metadata_blocks h.store root device ∙ ap (option_map slots_at) e)

  pub no_entry : device_of device now ≡ None → found device (content 5 h.store root) ≡ None
  no_entry n = go (found device (content 5 h.store root)) refl where
    go : (o : Option Entry) → found device (content 5 h.store root) ≡ o → found device (content 5 h.store root) ≡ None
    go None e = e
    go (Some x) e = absurd (none_some (device_of device now) (slots_at x) n (listed_at (low_id g t disk root more now h device x e) (Some x) e))

  pub some_entry : device < 2 ^ 24 → IsSome (device_of device now) → (old : Entry) × (found device (content 5 h.store root) ≡ Some old)
  some_entry low some = go (found device (content 5 h.store root)) refl where
    go : (o : Option Entry) → found device (content 5 h.store root) ≡ o → (old : Entry) × (found device (content 5 h.store root) ≡ Some old)
    go None e = absurd (some_none (device_of device now) (listed_at low None e) some)
    go (Some x) e = (x, e)

  room : (n : ℕ) → n ≤ 10000 → HasRoomFor n [] (held_refs t.held_root ++ fixed_blocks g)
  room n few = omega (arith, few, held_few g t disk root more now h)

-- the device tree and a volume's tree that it does not name
old_held : (g : Geometry) (t : Tm) (disk : DiskState) (root : ℕ) (more : List ℕ) (now : Volumes) (h : HoldTrees g t disk root more now) (u : Tm) (later : DiskState) (c : SameCommit t u) (top old : ℕ) (after : Volumes) (s : Store)
    → Holds u later [] (old ∷ held_by g top t.held_root) s → Frame h.store s (held_refs t.held_root ++ fixed_blocks g) → Forest s top (fixed_blocks g) (2 ^ 24)
    → after ≡ volumes_below g.metadata_blocks s top ++ copies_below g.metadata_blocks h.store t.held_root → devices_in after ≤ 65536 → AreSized g after
    → IsWhole 1 ((node_at s old).rank - 1) s (2 ^ 24) old
    → HoldsOld g u later top old after
unfolding changed_trees
old_held g t disk root more now h u later c top old after s holds frame f is few sizes tree = record {
  trees = changed_trees g t disk root more now h u later top (old ∷ []) after s c holds frame f is few sizes;
  tree = tree;
}

-- what the volume's tree that is given up stands on
module _ (g : Geometry) (t : Tm) (disk : DiskState) (top old : ℕ) (now : Volumes) (h : HoldsOld g t disk top old now) where
  old_rank : (node_at h.trees.store old).rank ≡ 1 + height 1 h.trees.store old
  old_rank = tree_rank 1 (height 1 h.trees.store old) h.trees.store 0 (2 ^ 24) old h.tree.tree

  pub old_inside : old < t.geometry.metadata_blocks
  old_inside = ranked_below g t disk top (old ∷ []) now h.trees old (omega (arith, old_rank))

  pub old_stands : StandsBelow t disk Mapping [] (old ∷ held_by g top t.held_root) h.trees.store (height 1 h.trees.store old) 0 (2 ^ 24) old
  old_stands = record {
    holds = h.trees.holds;
    tree = h.tree.tree;
    levels = mapping_low (height 1 h.trees.store old) h.trees.store (2 ^ 24) old h.tree (omega arith);
    live = held_live h.trees.store [] (old ∷ held_by g top t.held_root) old h.trees.holds.balanced (omega (arith, one_same old old refl));
    closed = refl;
  }

  pub old_in_use : (u : Tm) (later : DiskState) → SameCommit t u → Passed h.trees.store u later [] (held_by g top t.held_root) → in_use u ≤ in_use t
  old_in_use u later c q =
      use_passed t u disk later h.trees.store (old ∷ held_by g top t.held_root) (held_by g top t.held_root) c.geometry h.trees.holds q
      (λ b here. held_live h.trees.store [] (old ∷ held_by g top t.held_root) b h.trees.holds.balanced (omega (arith, here)))

  pub old_dropped : (u : Tm) (later : DiskState) → SameCommit t u → Passed h.trees.store u later [] (held_by g top t.held_root) → HoldTrees g u later top [] now
  old_dropped u later c q = same_trees g t disk top (old ∷ []) now h.trees u later [] q.after c q.holds q.frame

-- an entry is put in
module _ (g : Geometry) (t : Tm) (disk : DiskState) (root : ℕ) (v : Volume) (slots : List BlockSlot) (now : Volumes) (h : HoldVolume g t disk root v slots now) (device : ℕ) (low_id : device < 2 ^ 24) where
  abbrev s : Store
  s = h.trees.store

  abbrev k : ℕ
  k = height 5 s root

  abbrev x : Entry
  x = entry_of device v

  abbrev put : Entry
  put = moved_by (first_named t.geometry.metadata_blocks Device 0) x

  put_is : x ≡ put
  put_is = let e : v.root ≡ 0 + v.root = omega arith in (λ i. record { key = device; value = e i; mapped = v.mapped; size = v.size })

  volume_rank : (0 < (node_at s v.root).rank) × ((node_at s v.root).rank < 5)
  volume_rank =
      let w = (h.volume device).tree in
      let r = tree_rank 1 (height 1 s v.root) s 0 (2 ^ 24) v.root w.tree in
      (omega (arith, r), omega (arith, r, mapping_low (height 1 s v.root) s (2 ^ 24) v.root w (omega arith)))

  leaf_names : MayName 5 (node_at s v.root).rank
  leaf_names = record { below = volume_rank.1; next = λ n. absurd (n refl); root = λ e. volume_rank.0 }

  held_both : Holds t disk [] (root ∷ v.root ∷ (held_refs t.held_root ++ fixed_blocks g)) s
  held_both = other_order t disk v.root root (held_refs t.held_root ++ fixed_blocks g) s h.trees.holds

  put_in : devices_in now < 65536 → device_of device now ≡ None → Insertable t disk Device [] (held_refs t.held_root ++ fixed_blocks g) s k (2 ^ 24) root x
  put_in few none = record {
    holds = held_both;
    whole = h.trees.forest.devices;
    levels = root_low g t disk root (v.root ∷ []) now h.trees;
    upper = low_id;
    absent = no_entry g t disk root (v.root ∷ []) now h.trees device none;
    value_rank = leaf_names;
    few = omega (arith, few, devices_told g t disk root (v.root ∷ []) now h.trees);
    room = room g t disk root (v.root ∷ []) now h.trees device (302 + 252 * k) (omega (arith, root_low g t disk root (v.root ∷ []) now h.trees));
  }

  pub may_put : devices_in now < 65536 → device_of device now ≡ None → Insertable t disk Device [] (held_refs t.held_root ++ fixed_blocks g) s k (2 ^ 24) root put
  may_put few none = subst (λ (y : Entry). Insertable t disk Device [] (held_refs t.held_root ++ fixed_blocks g) s k (2 ^ 24) root y) put_is (put_in few none)

  is_put : (u : Tm) (later : DiskState) (after : Store) (top j : ℕ) (next : List ℕ) → SameCommit t u → Holds u later [] (next ++ held_by g top t.held_root) after → Frame s after (held_refs t.held_root ++ fixed_blocks g)
      → LowerStay 5 [] s after → IsWhole 5 j after (2 ^ 24) top → pairs j after top ≡ with_entry x (content 5 s root)
      → Forest after top (fixed_blocks g) (2 ^ 24) × (with_device (record { id = device; size = v.size; slots = slots }) now ≡ volumes_below g.metadata_blocks after top ++ copies_below g.metadata_blocks s t.held_root)
  is_put u later after top j next c holds frame stay whole is =
      let r = device_is_put s after root top (fixed_blocks g) [] (root ∷ v.root ∷ (held_refs t.held_root ++ fixed_blocks g)) j (2 ^ 24) h.trees.forest
      (record {
        balance = held_both.balanced;
        held_root = omega (arith, one_same root root refl);
        sized = sized_after g t disk root (v.root ∷ []) now h.trees u later [] (next ++ held_by g top t.held_root) after c holds;
        frame = frame_part s after (held_refs t.held_root ++ fixed_blocks g) (fixed_blocks g) frame (λ y here. omega (arith, here, occurrences-append y (held_refs t.held_root) (fixed_blocks g)));
        stay = stay;
        whole = whole;
      }) x is (h.volume device) (omega (arith, one_same v.root v.root refl)) volume_rank.1 in (
        r.0,
        (λ i. with_device (record { id = device; size = v.size; slots = (sym h.content_is) i }) (h.trees.listed i))
            ∙ (copies_stay.with_one (device_from g.metadata_blocks s x) (volumes_below g.metadata_blocks s root) g.metadata_blocks s t.held_root low_id
            ∙ ap (λ (ds : Volumes). ds ++ copies_below g.metadata_blocks s t.held_root) (sym (r.1 g.metadata_blocks))),
      )

  pub was_put : devices_in now < 65536 → (u : Tm) (later : DiskState) (top : ℕ) → SameCommit t u → InsertedAt s u later Device [] (held_refs t.held_root ++ fixed_blocks g) k (2 ^ 24) root put top
      → HoldTrees g u later top [] (with_device (record { id = device; size = v.size; slots = slots }) now)
  was_put few u later top c r =
      let i = r.inserted in
      let f = is_put u later r.after top i.height [] c r.holds i.frame i.stay i.whole (i.content ∙ ap (λ (y : Entry). with_entry y (content 5 s root)) (sym put_is)) in
      changed_trees g t disk root (v.root ∷ []) now h.trees u later top [] (with_device (record { id = device; size = v.size; slots = slots }) now) r.after c r.holds i.frame f.0 f.1
      (omega (arith, with_device_length (record { id = device; size = v.size; slots = slots }) now, few)) (sized_with_device g now h.trees.sizes (record { id = device; size = v.size; slots = slots }) h.told h.inside)

  -- there is one node more for each level of the device tree at most
  pub put_in_use : t.held_root ≡ 0 → devices_in now < 65536 → device_of device now ≡ None → (u : Tm) (later : DiskState) (top : ℕ) → SameCommit t u → InsertedAt s u later Device [] (held_refs t.held_root ++ fixed_blocks g) k (2 ^ 24) root put top → in_use u ≤ in_use t + 3
  put_in_use none_held few none u later top c r =
      let i = r.inserted in
      let m = g.metadata_blocks in
      let entries : pairs i.height r.after top ≡ with_entry x (content 5 s root) = i.content ∙ ap (λ (y : Entry). with_entry y (content 5 s root)) (sym put_is) in
      let told = put_use m s r.after root top (fixed_blocks g) (root ∷ v.root ∷ (held_refs t.held_root ++ fixed_blocks g)) i.height (2 ^ 24) h.trees.forest
      (record {
        balance = held_both.balanced;
        held_root = omega (arith, one_same root root refl);
        sized = sized_after g t disk root (v.root ∷ []) now h.trees u later [] (top ∷ (held_refs t.held_root ++ fixed_blocks g)) r.after c r.holds;
        frame = frame_part s r.after (held_refs t.held_root ++ fixed_blocks g) (fixed_blocks g) i.frame (λ y here. omega (arith, here, occurrences-append y (held_refs t.held_root) (fixed_blocks g)));
        stay = i.stay;
        whole = i.whole;
      }) (λ b here. omega (arith, here, occurrences-append b (held_refs t.held_root) (fixed_blocks g))) (nodes_many g t disk root (v.root ∷ []) now h.trees) x entries (h.volume device) (omega (arith, one_same v.root v.root refl)) volume_rank.1 (subst (λ n. Balanced r.after [] (top ∷ (held_refs n ++ fixed_blocks g))) none_held r.holds.balanced) in
      let blocks : m ≡ t.geometry.metadata_blocks = ap (λ (z : Geometry). z.metadata_blocks) (sym h.trees.geometry) in
      let old : in_use t ≡ metadata_in_use m s = in_use_is m t disk [] (root ∷ v.root ∷ (held_refs t.held_root ++ fixed_blocks g)) s blocks held_both in
      let new : in_use u ≡ metadata_in_use m r.after = in_use_is m u later [] (top ∷ (held_refs t.held_root ++ fixed_blocks g)) r.after (blocks ∙ ap (λ (z : Geometry). z.metadata_blocks) (sym c.geometry)) r.holds in
      let long : length (with_entry x (content 5 s root)) ≤ 65536 = omega (arith, length-with_new x (content 5 s root) (no_entry g t disk root (v.root ∷ []) now h.trees device none), few, devices_told g t disk root (v.root ∷ []) now h.trees) in
      let low : i.height ≤ 2 = device_low i.height r.after (2 ^ 24) top i.whole (omega (arith, long, ap length entries)) in
      omega (arith, told, old, new, low, i.size)

  -- in the place of another one
  pub may_put_over : (old : Entry) → found device (content 5 s root) ≡ Some old → CanReplace t disk Device [] (held_refs t.held_root ++ fixed_blocks g) s k 0 (2 ^ 24) root put old
  may_put_over old there = subst (λ (y : Entry). CanReplace t disk Device [] (held_refs t.held_root ++ fixed_blocks g) s k 0 (2 ^ 24) root y old) put_is (record {
    holds = held_both;
    replacing = record {
      tree = h.trees.forest.devices.tree;
      lower = omega arith;
      upper = low_id;
      present = there;
      balance = held_both.balanced;
      value_rank = leaf_names;
    };
    levels = root_low g t disk root (v.root ∷ []) now h.trees;
    room = room g t disk root (v.root ∷ []) now h.trees device (302 + 252 * k) (omega (arith, root_low g t disk root (v.root ∷ []) now h.trees));
  })

  same_length : IsSome (device_of device now) → devices_in (with_device (record { id = device; size = v.size; slots = slots }) now) ≡ devices_in now
  same_length some =
      with_there_length 0 (record { id = device; size = v.size; slots = slots }) now
      (subst (DevicesAscend 0) (sym h.trees.listed) (lists_ascend g.metadata_blocks s root t.held_root (fixed_blocks g) (2 ^ 24) (both g t disk root (v.root ∷ []) now h.trees))) some

  pub was_put_over : IsSome (device_of device now) → (old : Entry) → found device (content 5 s root) ≡ Some old → (u : Tm) (later : DiskState) → SameCommit t u → (done : Changed)
      → Swapped t.geometry.metadata_blocks s u later Device [] (held_refs t.held_root ++ fixed_blocks g) k 0 (2 ^ 24) root put old done
      → HoldsOld g u later done.root done.was.value (with_device (record { id = device; size = v.size; slots = slots }) now)
  was_put_over some old there u later c done r =
      let i = r.replaced in
      let whole : IsWhole 5 k r.after (2 ^ 24) done.root = record { tree = i.tree; branches = λ more. omega (arith, i.same, h.trees.forest.devices.branches more) } in
      let frame = frame_part s r.after (old.value ∷ (held_refs t.held_root ++ fixed_blocks g)) (held_refs t.held_root ++ fixed_blocks g) i.frame (λ y here. omega (arith, here)) in
      let holds = other_order u later done.root old.value (held_refs t.held_root ++ fixed_blocks g) r.after r.holds in
      let f = is_put u later r.after done.root k (old.value ∷ []) c holds frame i.stay whole (i.content ∙ ap (λ (y : Entry). with_entry y (content 5 s root)) (sym put_is)) in
      let was = h.trees.forest.volumes device old there in
      let e : old.value ≡ done.was.value = omega (arith, ap (λ (y : Entry). y.value) r.told) in
      subst (λ b. HoldsOld g u later done.root b (with_device (record { id = device; size = v.size; slots = slots }) now)) e
      (old_held g t disk root (v.root ∷ []) now h.trees u later c done.root old.value (with_device (record { id = device; size = v.size; slots = slots }) now) r.after holds frame f.0 f.1 (omega (arith, same_length some, h.trees.few)) (sized_with_device g now h.trees.sizes (record { id = device; size = v.size; slots = slots }) h.told h.inside)
      (content_stays 1 s r.after (2 ^ 24) old.value was.tree (λ j. i.frame old.value j (omega (arith, one_same old.value old.value refl)))).0)

  -- the device tree has as many nodes as before
  pub over_in_use : t.held_root ≡ 0 → (old : Entry) → found device (content 5 s root) ≡ Some old → (u : Tm) (later : DiskState) → SameCommit t u → (done : Changed)
      → Swapped t.geometry.metadata_blocks s u later Device [] (held_refs t.held_root ++ fixed_blocks g) k 0 (2 ^ 24) root put old done → in_use u ≤ in_use t
  over_in_use none_held old there u later c done r =
      let i = r.replaced in
      let m = g.metadata_blocks in
      let told = over_use m s r.after root done.root (fixed_blocks g) (root ∷ v.root ∷ (held_refs t.held_root ++ fixed_blocks g)) k (2 ^ 24) h.trees.forest
      (record {
        balance = held_both.balanced;
        held_root = omega (arith, one_same root root refl);
        sized = sized_after g t disk root (v.root ∷ []) now h.trees u later [] (done.root ∷ old.value ∷ (held_refs t.held_root ++ fixed_blocks g)) r.after c r.holds;
        frame = frame_part s r.after (old.value ∷ (held_refs t.held_root ++ fixed_blocks g)) (fixed_blocks g) i.frame (λ y here. omega (arith, here, occurrences-append y (held_refs t.held_root) (fixed_blocks g)));
        stay = i.stay;
        whole = record { tree = i.tree; branches = λ more. omega (arith, i.same, h.trees.forest.devices.branches more) };
      }) (λ b here. omega (arith, here, occurrences-append b (held_refs t.held_root) (fixed_blocks g))) (nodes_many g t disk root (v.root ∷ []) now h.trees) x old there (i.content ∙ ap (λ (y : Entry). with_entry y (content 5 s root)) (sym put_is)) (h.volume device)
      (omega (arith, one_same v.root v.root refl)) volume_rank.1 (subst (λ n. Balanced r.after [] (done.root ∷ old.value ∷ (held_refs n ++ fixed_blocks g))) none_held r.holds.balanced) in
      let blocks : m ≡ t.geometry.metadata_blocks = ap (λ (z : Geometry). z.metadata_blocks) (sym h.trees.geometry) in
      let before : in_use t ≡ metadata_in_use m s = in_use_is m t disk [] (root ∷ v.root ∷ (held_refs t.held_root ++ fixed_blocks g)) s blocks held_both in
      let after : in_use u ≡ metadata_in_use m r.after = in_use_is m u later [] (done.root ∷ old.value ∷ (held_refs t.held_root ++ fixed_blocks g)) r.after (blocks ∙ ap (λ (z : Geometry). z.metadata_blocks) (sym c.geometry)) r.holds in
      omega (arith, told, before, after, i.size)

-- a device is taken out
module _ (g : Geometry) (t : Tm) (disk : DiskState) (root : ℕ) (now : Volumes) (h : HoldTrees g t disk root [] now) (device : ℕ) (low_id : device < 2 ^ 24) (old : Entry) (there : found device (content 5 h.store root) ≡ Some old) where
  pub may_take : CanRemove t disk Device [] (held_refs t.held_root ++ fixed_blocks g) h.store (height 5 h.store root) 0 (2 ^ 24) root device old
  may_take = record {
    holds = h.holds;
    removing = record {
      tree = h.forest.devices.tree;
      lower = omega arith;
      upper = low_id;
      present = there;
      branches = h.forest.devices.branches;
      balance = h.holds.balanced;
    };
    levels = root_low g t disk root [] now h;
    room = room g t disk root [] now h device (808 + 252 * height 5 h.store root) (omega (arith, root_low g t disk root [] now h));
  }

  pub was_taken : (u : Tm) (later : DiskState) → SameCommit t u → (done : Changed) → WasRemoved t.geometry.metadata_blocks h.store u later Device [] (held_refs t.held_root ++ fixed_blocks g) (height 5 h.store root) (2 ^ 24) root device old done
      → HoldsOld g u later done.root done.was.value (without_device device now)
  was_taken u later c done r =
      let s = h.store in
      let i = r.removed in
      let holds = other_order u later done.root old.value (held_refs t.held_root ++ fixed_blocks g) r.after r.holds in
      let f = device_is_taken s r.after root done.root (fixed_blocks g) [] (root ∷ (held_refs t.held_root ++ fixed_blocks g)) i.height (2 ^ 24) h.forest
      (record {
        balance = h.holds.balanced;
        held_root = omega (arith, one_same root root refl);
        sized = sized_after g t disk root [] now h u later [] (old.value ∷ done.root ∷ (held_refs t.held_root ++ fixed_blocks g)) r.after c holds;
        frame = frame_part s r.after (old.value ∷ (held_refs t.held_root ++ fixed_blocks g)) (fixed_blocks g) i.frame (λ y here. omega (arith, here, occurrences-append y (held_refs t.held_root) (fixed_blocks g)));
        stay = i.stay;
        whole = i.whole;
      }) device i.content in
      let was = h.forest.volumes device old there in
      let e : old.value ≡ done.was.value = omega (arith, ap (λ (y : Entry). y.value) r.told) in
      subst (λ b. HoldsOld g u later done.root b (without_device device now)) e
      (old_held g t disk root [] now h u later c done.root old.value (without_device device now) r.after holds (frame_part s r.after (old.value ∷ (held_refs t.held_root ++ fixed_blocks g)) (held_refs t.held_root ++ fixed_blocks g) i.frame (λ y here. omega (arith, here))) f.0
      (ap (without_device device) h.listed ∙ (copies_stay.without_one device (volumes_below g.metadata_blocks s root) g.metadata_blocks s t.held_root low_id
      ∙ ap (λ (ds : Volumes). ds ++ copies_below g.metadata_blocks s t.held_root) (sym (f.1 g.metadata_blocks)))) (omega (arith, without_device_length device now, h.few))
      (sized_without_device g now h.sizes 0 device (subst (DevicesAscend 0) (sym h.listed) (lists_ascend g.metadata_blocks s root t.held_root (fixed_blocks g) (2 ^ 24) (both g t disk root [] now h))))
      (content_stays 1 s r.after (2 ^ 24) old.value was.tree (λ j. i.frame old.value j (omega (arith, one_same old.value old.value refl)))).0)

  -- the device tree has no more nodes than before
  pub taken_in_use : t.held_root ≡ 0 → (u : Tm) (later : DiskState) → SameCommit t u → (done : Changed) → WasRemoved t.geometry.metadata_blocks h.store u later Device [] (held_refs t.held_root ++ fixed_blocks g) (height 5 h.store root) (2 ^ 24) root device old done
      → in_use u ≤ in_use t
  taken_in_use none_held u later c done r =
      let s = h.store in
      let i = r.removed in
      let m = g.metadata_blocks in
      let told = taken_use m s r.after root done.root (fixed_blocks g) (root ∷ (held_refs t.held_root ++ fixed_blocks g)) i.height (2 ^ 24) h.forest
      (record {
        balance = h.holds.balanced;
        held_root = omega (arith, one_same root root refl);
        sized = sized_after g t disk root [] now h u later [] (done.root ∷ old.value ∷ (held_refs t.held_root ++ fixed_blocks g)) r.after c r.holds;
        frame = frame_part s r.after (old.value ∷ (held_refs t.held_root ++ fixed_blocks g)) (fixed_blocks g) i.frame (λ y here. omega (arith, here, occurrences-append y (held_refs t.held_root) (fixed_blocks g)));
        stay = i.stay;
        whole = i.whole;
      }) (λ b here. omega (arith, here, occurrences-append b (held_refs t.held_root) (fixed_blocks g))) (nodes_many g t disk root [] now h) device old there i.content (subst (λ n. Balanced r.after [] (done.root ∷ old.value ∷ (held_refs n ++ fixed_blocks g))) none_held r.holds.balanced) in
      let blocks : m ≡ t.geometry.metadata_blocks = ap (λ (z : Geometry). z.metadata_blocks) (sym h.geometry) in
      let before : in_use t ≡ metadata_in_use m s = in_use_is m t disk [] (root ∷ (held_refs t.held_root ++ fixed_blocks g)) s blocks h.holds in
      let after : in_use u ≡ metadata_in_use m r.after = in_use_is m u later [] (done.root ∷ old.value ∷ (held_refs t.held_root ++ fixed_blocks g)) r.after (blocks ∙ ap (λ (z : Geometry). z.metadata_blocks) (sym c.geometry)) r.holds in
      omega (arith, told, before, after, i.size)
