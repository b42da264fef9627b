-- A volume is taken out of its device's entry, changed where it stands, and put back.
use Rattle.std.proofs.Common.{◌≡◌, ◌⊎◌, ℕ, ◌+◌, ◌-◌, ◌<◌, ◌≤◌, List, [], ◌∷◌, ◌++◌, length, map, refl, sym, ap, subst, ◌∙◌, arith, inl, inr, Some, None, length-append}
use Rattle.std.specs.Prelude.{◌^◌, IsSome, Option}
use Rattle.std.specs.Option.{option_map}
use Rattle.std.proofs.lemmas.Bool.{cases_eq, cases_lt, false≢true}
use Rattle.tp_model.specs.Geometry.{Geometry}
use Rattle.tp_model.specs.Told.{IsToldSize, told_blocks}
use Rattle.tp_model.specs.Disk.{DiskState}
use Rattle.tp_layout.specs.declared.entry.Entry.{Entry}
use Rattle.tp_layout.specs.declared.kind.TreeKind.TheVariants.{Device}
use Rattle.tp_layout.specs.Entries.{found, with_entry, without_key}
use Rattle.tp_refs.specs.Store.{Store, first_named, moved_by, node_at}
use Rattle.tp_refs.specs.Balance.{Balanced}
use Rattle.tp_refs.proofs.Moves.{reordered}
use Rattle.tp_refs.proofs.Steps.{frame_part, occurrences-append, one_same}
use Rattle.tp_trees.specs.Tree.{IsWhole}
use Rattle.tp_trees.proofs.Heights.{mapping_low}
use Rattle.tp_trees.proofs.Trees.{tree_rank}
use Rattle.tp_sharing.specs.Forest.{content, held_refs}
use Rattle.tp_sharing.proofs.Held.{copies_stay}
use Rattle.tp_sharing.specs.Volumes.{BlockSlot, DeviceSlots, Volumes, copies_below, device_from, device_of, place_in, place_or_none, size_of, slot_from, volumes_below, with_device, with_place, without_place}
use Rattle.tp_sharing.proofs.Changed.{slots_with, slots_without}
use Rattle.tp_sharing.proofs.Changes.{device_changes, with_device_first, with_device_here, with_device_later, with_place_first, with_place_here, with_place_later, without_place_here, without_place_later}
use Rattle.tp_sharing.proofs.Sized.{sized_with_device}
use Rattle.tp_sharing.proofs.Later.{device_is_put, volume_kept}
use Rattle.tp_sharing.proofs.Slots.{place_found, place_here, place_later}
use Rattle.tp_stored.specs.Commit.{fixed_blocks, held_by}
use Rattle.tp_tm.specs.Tm.{Tm}
use Rattle.tp_tm.specs.Holds.{Holds}
use Rattle.tp_btree.specs.Replaces.{CanReplace, Swapped}
use Rattle.tp_btree.specs.declared.replacement.Changed.{Changed}
use Rattle.tp_mapping.specs.declared.volume.Volume.{Volume}
use Rattle.tp_mapping.specs.Held.{HoldBeside, HoldVolume, HoldsSlots, Slotted, entry_of, slot_at}
use Rattle.tp_mapping.proofs.Holding.{SameCommit, block_below, changed_trees, height, may_tell, root_low, same_trees, size_told, sized_after, slots_of_volume, volume_few, volume_inside}
use Rattle.tp_mapping.proofs.Copies.{held_few}
use Rattle.tp_mapping.proofs.Between.{is_there, trees_ascend}
use Rattle.tp_mapping.proofs.Within.{with_there_length}

same_some : {A : Type 0} (x y : A) → Some x ≡ Some y → x ≡ y
same_some x y h = cc

none_some : {A : Type 0} (o : Option A) (x : A) → o ≡ None → o ≡ Some x → ⊥
none_some o x e f = cc

not_some : {A : Type 0} (o : Option A) → o ≡ None → IsSome o → ⊥
not_some None e h = false≢true h
not_some (Some x) e h = none_some (Some x) x e refl

-- ---- slots that were there

pub had_with : (b p : ℕ) (x : BlockSlot) (xs : List BlockSlot) → place_in b (with_place x xs) ≡ Some p → (b ≡ x.block) ⊎ ((q : ℕ) × (place_in b xs ≡ Some q))
had_with b p x [] h =
    elim (cases_eq x.block b) [
      | inl e ↦ inl (sym e)
      | inr n ↦ absurd (none_some (place_in b []) p refl (sym (place_later b x [] n) ∙ h))
    ]
had_with b p x (y ∷ ys) h =
    elim (cases_eq x.block b) [
      | inl e ↦ inl (sym e)
      | inr n ↦ elim (cases_lt x.block y.block) [
        | inl l ↦ inr (p, sym (place_later b x (y ∷ ys) n) ∙ (sym (ap (place_in b) (with_place_first x y ys l)) ∙ h))
        | inr g ↦ elim (cases_eq y.block x.block) [
          | inl e ↦
              let other : y.block ≡ b → ⊥ = λ q. n (sym e ∙ q) in
              inr (p, place_later b y ys other ∙ (sym (place_later b x ys n) ∙ (sym (ap (place_in b) (with_place_here x y ys e)) ∙ h)))
          | inr m ↦ elim (cases_eq y.block b) [
            | inl q ↦ inr (y.place, place_here b y ys q)
            | inr q ↦
                let later : place_in b (with_place x ys) ≡ Some p = sym (place_later b y (with_place x ys) q) ∙ (sym (ap (place_in b) (with_place_later x y ys (omega (arith, g, m)))) ∙ h) in
                elim (had_with b p x ys later) [
                  | inl e ↦ inl e
                  | inr w ↦ inr (w.0, place_later b y ys q ∙ w.1)
                ]
          ]
        ]
      ]
    ]

pub had_without : (b p block : ℕ) (xs : List BlockSlot) → place_in b (without_place block xs) ≡ Some p → (q : ℕ) × (place_in b xs ≡ Some q)
had_without b p block [] h = absurd (none_some (place_in b []) p refl h)
had_without b p block (y ∷ ys) h =
    elim (cases_eq y.block b) [
      | inl e ↦ (y.place, place_here b y ys e)
      | inr n ↦ elim (cases_eq y.block block) [
        | inl e ↦ (p, place_later b y ys n ∙ (sym (ap (place_in b) (without_place_here block y ys e)) ∙ h))
        | inr m ↦
            let w = had_without b p block ys (sym (place_later b y (without_place block ys) n) ∙ (sym (ap (place_in b) (without_place_later block y ys m)) ∙ h)) in
            (w.0, place_later b y ys n ∙ w.1)
      ]
    ]

-- ---- a device put in twice

pub put_twice : (x y : DeviceSlots) (ds : Volumes) → x.id ≡ y.id → with_device x (with_device y ds) ≡ with_device x ds
put_twice x y [] e = with_device_here x y [] (sym e)
put_twice x y (d ∷ ds) e =
    elim (cases_lt y.id d.id) [
      | inl l ↦
          ap (with_device x) (with_device_first y d ds l)
          ∙ (with_device_here x y (d ∷ ds) (sym e) ∙ sym (with_device_first x d ds (omega (arith, e, l))))
      | inr g ↦ elim (cases_eq d.id y.id) [
        | inl q ↦ ap (with_device x) (with_device_here y d ds q) ∙ (with_device_here x y ds (sym e) ∙ sym (with_device_here x d ds (q ∙ sym e)))
        | inr n ↦
            ap (with_device x) (with_device_later y d ds (omega (arith, g, n)))
            ∙ (with_device_later x d (with_device y ds) (omega (arith, g, n, e)) ∙ (ap (λ zs. d ∷ zs) (put_twice x y ds e) ∙ sym (with_device_later x d ds (omega (arith, g, n, e)))))
      ]
    ]

-- it is there
pub put_there : (x : DeviceSlots) (ds : Volumes) → IsSome (device_of x.id (with_device x ds))
put_there x ds = subst IsSome (sym (device_changes.with_same x ds)) refl

-- ---- another volume in the entry

module _ (g : Geometry) (t : Tm) (disk : DiskState) (root : ℕ) (more : List ℕ) (v : Volume) (now : Volumes) (h : HoldBeside g t disk root more v [] now) (short : length more ≤ 9) (device : ℕ) (low_id : device < 2 ^ 24) where
  abbrev s : Store
  s = h.trees.store

  abbrev k : ℕ
  k = height 5 s root

  abbrev held : List ℕ
  held = more ++ (held_refs t.held_root ++ fixed_blocks g)

  abbrev x : Entry
  x = entry_of device v

  abbrev put : Entry
  put = moved_by (first_named t.geometry.metadata_blocks Device 0) x

  put_is : x ≡ put
  put_is = let e : v.root ≡ 0 + v.root = omega arith in (λ i. record { key = device; value = e i; mapped = v.mapped; size = v.size })

  volume_rank : (0 < (node_at s v.root).rank) × ((node_at s v.root).rank < 5)
  volume_rank =
      let w = (h.volume device).tree in
      let r = tree_rank 1 (height 1 s v.root) s 0 (2 ^ 24) v.root w.tree in
      (omega (arith, r), omega (arith, r, mapping_low (height 1 s v.root) s (2 ^ 24) v.root w (omega arith)))

  held_both : Holds t disk [] (root ∷ v.root ∷ held) s
  held_both = record {
    stands = h.trees.holds.stands;
    balanced = reordered s [] (v.root ∷ (more ++ held_by g root t.held_root)) (root ∷ v.root ∷ held)
        (λ y. omega (arith, occurrences-append y more (held_by g root t.held_root), occurrences-append y more (held_refs t.held_root ++ fixed_blocks g))) h.trees.holds.balanced;
  }

  pub may_exchange : (old : Entry) → found device (content 5 s root) ≡ Some old → CanReplace t disk Device [] held s k 0 (2 ^ 24) root put old
  may_exchange old there = subst (λ (y : Entry). CanReplace t disk Device [] held s k 0 (2 ^ 24) root y old) put_is (record {
    holds = held_both;
    replacing = record {
      tree = h.trees.forest.devices.tree;
      lower = omega arith;
      upper = low_id;
      present = there;
      balance = held_both.balanced;
      value_rank = record { below = volume_rank.1; next = λ n. absurd (n refl); root = λ e. volume_rank.0 };
    };
    levels = root_low g t disk root (v.root ∷ more) now h.trees;
    room = omega (arith, short, length-append more (held_refs t.held_root ++ fixed_blocks g), held_few g t disk root (v.root ∷ more) now h.trees, root_low g t disk root (v.root ∷ more) now h.trees);
  })

  -- what was in it
  module _ (old : Entry) (there : found device (content 5 s root) ≡ Some old) (u : Tm) (later : DiskState) (c : SameCommit t u) (done : Changed)
      (r : Swapped t.geometry.metadata_blocks s u later Device [] held k 0 (2 ^ 24) root put old done) where
    pub was_value : old.value ≡ done.was.value
    was_value = omega (arith, ap (λ (y : Entry). y.value) r.told)

    was_size : old.size ≡ done.was.size
    was_size = ap (λ (y : Entry). y.size) r.told

    pub was_told : size_of device now ≡ Some done.was.size
    was_told = size_told g t disk root (v.root ∷ more) now h.trees device old there ∙ ap Some was_size

    pub was_may : IsToldSize g done.was.size
    was_may = subst (IsToldSize g) was_size (may_tell g t disk root (v.root ∷ more) now h.trees device old there)

    was_mapped : old.mapped ≡ done.was.mapped
    was_mapped = ap (λ (y : Entry). y.mapped) r.told

    pub was_inside : done.was.value < t.geometry.metadata_blocks
    was_inside = omega (arith, was_value, volume_inside g t disk root (v.root ∷ more) now h.trees device old there)

    pub was_few : done.was.mapped ≤ 2 ^ 24
    was_few = omega (arith, was_mapped, volume_few g t disk root (v.root ∷ more) now h.trees device old there)

    pub was_exchanged : (w : Volume) → w.root ≡ done.was.value → w.mapped ≡ done.was.mapped → w.size ≡ done.was.size → (slots : List BlockSlot) → device_of device now ≡ Some slots
        → HoldBeside g u later done.root more w slots (with_device (record { id = device; size = v.size; slots = [] }) now)
    unfolding changed_trees
    was_exchanged w value mapped size slots is =
        let i = r.replaced in
        let whole : IsWhole 5 k r.after (2 ^ 24) done.root = record { tree = i.tree; branches = λ some. omega (arith, i.same, h.trees.forest.devices.branches some) } in
        let frame = frame_part s r.after (old.value ∷ held) (held_refs t.held_root ++ fixed_blocks g) i.frame (λ y here. omega (arith, here, occurrences-append y more (held_refs t.held_root ++ fixed_blocks g))) in
        let fixed = frame_part s r.after (held_refs t.held_root ++ fixed_blocks g) (fixed_blocks g) frame (λ y here. omega (arith, here, occurrences-append y (held_refs t.held_root) (fixed_blocks g))) in
        let order : Holds u later [] (w.root ∷ (more ++ held_by g done.root t.held_root)) r.after = record {
          stands = r.holds.stands;
          balanced = subst (λ b. Balanced r.after [] (b ∷ (more ++ held_by g done.root t.held_root))) (was_value ∙ sym value)
              (reordered r.after [] (done.root ∷ old.value ∷ held) (old.value ∷ (more ++ held_by g done.root t.held_root))
              (λ y. omega (arith, occurrences-append y more (held_by g done.root t.held_root), occurrences-append y more (held_refs t.held_root ++ fixed_blocks g))) r.holds.balanced);
        } in
        let len = sized_after g t disk root (v.root ∷ more) now h.trees u later [] (w.root ∷ (more ++ held_by g done.root t.held_root)) r.after c order in
        let f = device_is_put s r.after root done.root (fixed_blocks g) [] (root ∷ v.root ∷ held) k (2 ^ 24) h.trees.forest
        (record {
          balance = held_both.balanced;
          held_root = omega (arith, one_same root root refl);
          sized = len;
          frame = fixed;
          stay = i.stay;
          whole = whole;
        }) x (i.content ∙ ap (λ (y : Entry). with_entry y (content 5 s root)) (sym put_is)) (h.volume device) (omega (arith, one_same v.root v.root refl)) volume_rank.1 in
        let listed = (λ j. with_device (record { id = device; size = v.size; slots = (sym h.content_is) j }) (h.trees.listed j))
        ∙ (copies_stay.with_one (device_from g.metadata_blocks s x) (volumes_below g.metadata_blocks s root) g.metadata_blocks s t.held_root low_id
        ∙ ap (λ (ds : Volumes). ds ++ copies_below g.metadata_blocks s t.held_root) (sym (f.1 g.metadata_blocks))) in
        let kept = λ (id : ℕ).
        volume_kept s r.after (2 ^ 24) old (entry_of id w) (h.trees.forest.volumes device old there) len (value ∙ sym was_value) (mapped ∙ sym was_mapped)
        (λ j. i.frame old.value j (omega (arith, one_same old.value old.value refl))) in
        record {
          trees = changed_trees g t disk root (v.root ∷ more) now h.trees u later done.root (w.root ∷ more) (with_device (record { id = device; size = v.size; slots = [] }) now) r.after c order frame f.0 listed
              (omega (arith, with_there_length 0 (record { id = device; size = v.size; slots = [] }) now (trees_ascend g t disk root (v.root ∷ more) now h.trees) (is_there _ slots is), h.trees.few))
              (sized_with_device g now h.trees.sizes (record { id = device; size = v.size; slots = [] }) h.told h.inside);
          volume = λ id. (kept id).0;
          content_is = ap (map (slot_from g.metadata_blocks)) (kept device).1
              ∙ same_some _ slots (sym (slots_of_volume g t disk root (v.root ∷ more) now h.trees device old there) ∙ is);
          told = subst (IsToldSize g) (sym size) was_may;
          inside = λ b p at. subst (λ n. b < told_blocks g n) (was_size ∙ sym size) (block_below g t disk root (v.root ∷ more) now h.trees device old there b p (ap (place_or_none b) is ∙ at));
        }

-- ---- a volume beside the device tree is changed

pub volume_slots : (g : Geometry) (t : Tm) (disk : DiskState) (root : ℕ) (more : List ℕ) (v : Volume) (slots : List BlockSlot) (now : Volumes) (h : HoldBeside g t disk root more v slots now) → length more ≤ 8
    → HoldsSlots t disk [] (more ++ held_by g root t.held_root) h.trees.store (2 ^ 24) v
volume_slots g t disk root more v slots now h short = record {
  holds = h.trees.holds;
  volume = h.volume;
  most = omega arith;
  room = omega (arith, short, length-append more (held_by g root t.held_root), held_few g t disk root (v.root ∷ more) now h.trees);
}

module _ (g : Geometry) (t : Tm) (disk : DiskState) (root : ℕ) (more : List ℕ) (v : Volume) (slots : List BlockSlot) (now : Volumes) (h : HoldBeside g t disk root more v slots now) where
  changed_beside : (u : Tm) (later : DiskState) → SameCommit t u → (w : Volume) (es : List Entry) (after : List BlockSlot) → map (slot_from g.metadata_blocks) es ≡ after
      → w.size ≡ v.size → ((block place : ℕ) → place_in block after ≡ Some place → block < told_blocks g v.size) → Slotted h.trees.store u later [] (held_by g root t.held_root) (2 ^ 24) w es → HoldVolume g u later root w after now
  unfolding same_trees changed_trees
  changed_beside u later c w es after is size below q = record {
    trees = same_trees g t disk root (v.root ∷ more) now h.trees u later (w.root ∷ []) q.after c q.holds q.frame;
    volume = q.volume;
    content_is = ap (map (slot_from g.metadata_blocks)) q.content_is ∙ is;
    told = subst (IsToldSize g) (sym size) h.told;
    inside = λ b p at. subst (λ n. b < told_blocks g n) (sym size) (below b p at);
  }

  slot_is : (block place : ℕ) → slot_from g.metadata_blocks (slot_at t.geometry.metadata_blocks block place) ≡ record { block = block; place = place }
  slot_is block place =
      let e : (t.geometry.metadata_blocks + place) - g.metadata_blocks ≡ place = omega (arith, ap (λ (z : Geometry). z.metadata_blocks) h.trees.geometry) in
      (λ i. record { block = block; place = e i })

  pub volume_with : (u : Tm) (later : DiskState) → SameCommit t u → (w : Volume) (block place : ℕ) → w.size ≡ v.size → block < told_blocks g v.size
      → Slotted h.trees.store u later [] (held_by g root t.held_root) (2 ^ 24) w (with_entry (slot_at t.geometry.metadata_blocks block place) (content 1 h.trees.store v.root))
      → HoldVolume g u later root w (with_place (record { block = block; place = place }) slots) now
  volume_with u later c w block place size below q =
      changed_beside u later c w (with_entry (slot_at t.geometry.metadata_blocks block place) (content 1 h.trees.store v.root)) (with_place (record { block = block; place = place }) slots)
      (slots_with g.metadata_blocks (slot_at t.geometry.metadata_blocks block place) (content 1 h.trees.store v.root) ∙ (λ i. with_place (slot_is block place i) (h.content_is i))) size
      (λ b p at. elim (had_with b p (record { block = block; place = place }) slots at) [
        | inl e ↦ subst (λ n. n < told_blocks g v.size) (sym e) below
        | inr w ↦ h.inside b w.0 w.1
      ]) q

  pub volume_without : (u : Tm) (later : DiskState) → SameCommit t u → (w : Volume) (block : ℕ) → w.size ≡ v.size
      → Slotted h.trees.store u later [] (held_by g root t.held_root) (2 ^ 24) w (without_key block (content 1 h.trees.store v.root))
      → HoldVolume g u later root w (without_place block slots) now
  volume_without u later c w block size q =
      changed_beside u later c w (without_key block (content 1 h.trees.store v.root)) (without_place block slots)
      (slots_without g.metadata_blocks block (content 1 h.trees.store v.root) ∙ ap (without_place block) h.content_is) size (λ b p at. let w = had_without b p block slots at in h.inside b w.0 w.1) q

  -- the same with another size
  pub beside_resized : (size : ℕ) → IsToldSize g size → told_blocks g v.size ≤ told_blocks g size → HoldBeside g t disk root more (record { root = v.root; mapped = v.mapped; size = size }) slots now
  beside_resized size may grown = record {
    trees = h.trees;
    volume = λ device. let w = h.volume device in record { tree = w.tree; data_blocks = w.data_blocks; mapped = w.mapped };
    content_is = h.content_is;
    told = may;
    inside = λ b p at. let low = h.inside b p at in omega (arith, low, grown);
  }

  -- the entry of a slot
  pub slot_there : (block : ℕ) → IsSome (place_in block slots) → (old : Entry) × (found block (content 1 h.trees.store v.root) ≡ Some old)
  slot_there block some = go (found block (content 1 h.trees.store v.root)) refl where
    go : (o : Option Entry) → found block (content 1 h.trees.store v.root) ≡ o → (old : Entry) × (found block (content 1 h.trees.store v.root) ≡ Some old)
    go None e =
        let n : place_in block slots ≡ None =
        ap (place_in block) (sym h.content_is)
        ∙ (place_found g.metadata_blocks block (content 1 h.trees.store v.root) ∙ ap (option_map (λ (y : Entry). y.value - g.metadata_blocks)) e) in
        absurd (not_some (place_in block slots) n some)
    go (Some old) e = (old, e)
