-- A held copy of the device tree is made, and given up.
use Rattle.std.proofs.Common.{◌≡◌, ℕ, zero, suc, ◌+◌, ◌<◌, ◌≤◌, List, [], ◌∷◌, ◌++◌, length, map, get_or, inl, inr, refl, sym, ap, subst, ◌∙◌, arith}
use Rattle.std.specs.Prelude.{◌^◌, set, slice_index}
use Rattle.std.proofs.lemmas.Bool.{cases_eq, cases_lt}
use Rattle.std.proofs.lemmas.List.{append-nil, get_or-set_other, get_or-set_same, get_or_past, length-map}
use Rattle.tp_model.specs.Geometry.{Geometry, fixed_part}
use Rattle.tp_model.specs.Disk.{DiskState}
use Rattle.tp_layout.specs.declared.kind.TreeKind.TheVariants.{Device}
use Rattle.tp_refs.specs.Store.{Store, node_at}
use Rattle.tp_refs.proofs.Bounds.{count_fits}
use Rattle.tp_refs.proofs.Steps.{frame_part, held_live, one_same}
use Rattle.tp_trees.proofs.Heights.{device_low}
use Rattle.tp_trees.proofs.Trees.{tree_rank}
use Rattle.tp_sharing.specs.Forest.{Forest, HeldForest, content}
use Rattle.tp_sharing.specs.Volumes.{AreSized, Volumes, as_copy, copies_below, device_from, devices_in, volumes_below, volumes_of}
use Rattle.tp_sharing.proofs.Copies.{sized_both, sized_now}
use Rattle.tp_sharing.proofs.Later.{forest_stays}
use Rattle.tp_stored.specs.Commit.{fixed_blocks, held_by}
use Rattle.tp_stored.proofs.Ranges.{in_range}
use Rattle.tp_tm.specs.Tm.{IsSized, NoneTaken, Tm, free_metadata, used_metadata}
use Rattle.tp_tm.proofs.Free.{untaken_free, untaken_used}
use Rattle.tp_tm.proofs.Standing.{now_at}
use Rattle.tp_tm.specs.Holds.{Holds}
use Rattle.tp_btree.specs.Roots.{Passed}
use Rattle.tp_btree.specs.Trees.{StandsBelow}
use Rattle.tp_mapping.specs.Held.{HoldTrees}
use Rattle.tp_mapping.proofs.Copies.{held_few, other_order}
use Rattle.tp_mapping.proofs.Holding.{SameCommit, counted_after, devices_few, height, same_trees, sized_after}
use Rattle.tp_mapping.proofs.Within.{alone_below, devices_of_both}
use Rattle.tp_mapping.specs.Mapping.{without_copies}

-- the store of nodes with another held root
abbrev pub holding : Tm → ℕ → Tm
holding t r = record t { held_root = r }

-- what it holds is no matter of which of the roots is held
pub holds_as : (t : Tm) (disk : DiskState) (held : List ℕ) (s : Store) (r : ℕ) → Holds t disk [] held s → Holds (holding t r) disk [] held s
holds_as t disk held s r h = record {
  stands = record { counts = h.stands.counts; kept = h.stands.kept; sized = h.stands.sized; nodes = h.stands.nodes };
  balanced = h.balanced;
}

-- a root of nodes is not block 0
not_start : (g : Geometry) (s : Store) (root : ℕ) → 0 < root → (P : ℕ → Type 0) → ((n : ℕ) → root ≡ suc n → P (suc n)) → P root
not_start g s zero h P f = absurd (omega (arith, h))
not_start g s (suc n) h P f = f n refl

module _ (g : Geometry) (t : Tm) (disk : DiskState) (root : ℕ) (now : Volumes) (h : HoldTrees g t disk root [] now) where
  pub root_some : 0 < root
  root_some =
      elim (cases_eq root 0) [
        | inl e ↦
            let bare = h.forest.bare 0 (omega (arith, in_range 0 0 (fixed_part g) (omega arith) (omega arith))) in
            let rank = tree_rank 5 (height 5 h.store root) h.store 0 (2 ^ 24) root h.forest.devices.tree in
            let same : (node_at h.store root).rank ≡ (node_at h.store 0).rank = ap (λ b. (node_at h.store b).rank) e in
            absurd (omega (arith, bare, rank, same))
        | inr d ↦ omega (arith, d)
      ]

  pub root_fits : IsSized t → root < t.geometry.metadata_blocks → get_or t.metadata_now root 0 + 1 ≡ 2 ^ 32 → ⊥
  root_fits sized inside full =
      let c = count_fits h.store [] (held_by g root t.held_root) root h.holds.balanced (omega (arith, held_few g t disk root [] now h)) in
      omega (arith, c, full, now_at t h.store root sized.metadata_now inside h.holds.stands.counts)

  pub root_counts : IsSized t → root < t.geometry.metadata_blocks → 0 < slice_index t.metadata_now root
  root_counts sized inside =
      let live = held_live h.store [] (held_by g root t.held_root) root h.holds.balanced (omega (arith, one_same root root refl)) in
      omega (arith, live, now_at t h.store root sized.metadata_now inside h.holds.stands.counts)

  -- the root is named once more: the copies are those of the volumes of now
  pub reserved : t.held_root ≡ 0 → 0 < root → (u : Tm) → SameCommit t u → Passed h.store u disk [] (root ∷ held_by g root 0)
      → HoldTrees g (holding u root) disk root [] (now ++ map as_copy now)
  reserved none some u c q =
      let s = q.after in
      let m = g.metadata_blocks in
      let sized = sized_after g t disk root [] now h u disk [] (root ∷ held_by g root 0) s c q.holds in
      let frame = frame_part h.store s (root ∷ held_by g root 0) (root ∷ fixed_blocks g) q.frame (λ x here. omega (arith, here)) in
      let f = forest_stays h.store s root (fixed_blocks g) (2 ^ 24) h.forest sized frame in
      let long : length (content 5 s root) ≤ 65536 = omega (arith, ap length f.devices, devices_few g t disk root [] now h) in
      let is : now ≡ volumes_below m s root =
      h.listed ∙ (ap (volumes_of m h.store root) none ∙ (append-nil (volumes_below m h.store root) ∙ sym (f.lists m))) in
      let may : AreSized g (volumes_below m s root) = subst (λ (ds : Volumes). AreSized g ds) is h.sizes in
      let refs : (n : ℕ) → root ≡ suc n → Holds (holding u root) disk [] (held_by g root (suc n)) s =
      λ n e. subst (λ r. Holds (holding u root) disk [] (root ∷ r ∷ fixed_blocks g) s) e (holds_as u disk (root ∷ root ∷ fixed_blocks g) s root q.holds) in
      let copies : copies_below m s root ≡ map as_copy (volumes_below m s root) =
      not_start g s root some (λ r. copies_below m s r ≡ map as_copy (volumes_below m s r)) (λ n e. refl) in
      let all : now ++ map as_copy now ≡ volumes_of m s root root = (λ i. is i ++ map as_copy (is i)) ∙ ap (λ (ds : Volumes). volumes_below m s root ++ ds) (sym copies) in
      record {
        store = s;
        geometry = c.geometry ∙ h.geometry;
        holds = not_start g s root some (λ r. Holds (holding u root) disk [] (held_by g root r) s) refs;
        limits = h.limits;
        counted = counted_after g t disk root [] now h u disk [] (root ∷ held_by g root 0) s c q.holds;
        forest = f.forest;
        copy = not_start g s root some (λ r. HeldForest s r (fixed_blocks g) (2 ^ 24)) (λ n e. subst (λ r. Forest s r (fixed_blocks g) (2 ^ 24)) e f.forest);
        listed = all;
        few = omega (arith, ap devices_in all, devices_of_both m s root root (fixed_blocks g) (2 ^ 24) f.forest, long);
        few_held = omega (arith, ap length copies, length-map (volumes_below m s root) as_copy, length-map (content 5 s root) (device_from m s), long);
        sizes = subst (λ (ds : Volumes). AreSized g ds) (sym all) (sized_both g m s root root (fixed_blocks g) (2 ^ 24) f.forest may (λ n e. subst (λ r. AreSized g (volumes_below m s r)) e may));
      }

  module _ (n : ℕ) (held : t.held_root ≡ suc n) where
    copy_there : Forest h.store (suc n) (fixed_blocks g) (2 ^ 24)
    copy_there = subst (λ r. HeldForest h.store r (fixed_blocks g) (2 ^ 24)) held h.copy

    both_held : Holds t disk [] (root ∷ suc n ∷ fixed_blocks g) h.store
    both_held = subst (λ r. Holds t disk [] (held_by g root r) h.store) held h.holds

    pub now_held : Holds (holding t 0) disk [] (suc n ∷ held_by g root 0) h.store
    now_held = other_order (holding t 0) disk root (suc n) (fixed_blocks g) h.store (holds_as t disk (root ∷ suc n ∷ fixed_blocks g) h.store 0 both_held)

    -- the copy is not held any more: a reference to its root is
    unfoldable pub let_go : HoldTrees g (holding t 0) disk root (suc n ∷ []) (volumes_below g.metadata_blocks h.store root)
    let_go = record {
      store = h.store;
      geometry = h.geometry;
      holds = now_held;
      limits = h.limits;
      counted = h.counted;
      forest = h.forest;
      copy = tt;
      listed = sym (append-nil (volumes_below g.metadata_blocks h.store root));
      few = omega (arith, ap devices_in (sym (append-nil (volumes_below g.metadata_blocks h.store root))), devices_of_both g.metadata_blocks h.store root 0 (fixed_blocks g) (2 ^ 24) h.forest, devices_few g t disk root [] now h);
      few_held = omega arith;
      sizes = sized_now g g.metadata_blocks h.store root t.held_root (fixed_blocks g) (2 ^ 24) h.forest (subst (λ (ds : Volumes). AreSized g ds) h.listed h.sizes);
    }

    -- so its tree can be dropped
    pub copy_stands : StandsBelow (holding t 0) disk Device [] (suc n ∷ held_by g root 0) h.store (height 5 h.store (suc n)) 0 (2 ^ 24) (suc n)
    copy_stands =
        let many : length (copies_below g.metadata_blocks h.store (suc n)) ≡ length (content 5 h.store (suc n)) =
        length-map (volumes_below g.metadata_blocks h.store (suc n)) as_copy ∙ length-map (content 5 h.store (suc n)) (device_from g.metadata_blocks h.store) in
        let few : length (content 5 h.store (suc n)) ≤ 65536 = omega (arith, many, subst (λ r. length (copies_below g.metadata_blocks h.store r) ≤ 65536) held h.few_held) in
        record {
          holds = now_held;
          tree = copy_there.devices.tree;
          levels = device_low (height 5 h.store (suc n)) h.store (2 ^ 24) (suc n) copy_there.devices few;
          live = held_live h.store [] (suc n ∷ held_by g root 0) (suc n) now_held.balanced (omega (arith, one_same (suc n) (suc n) refl));
          closed = refl;
        }

    -- it was dropped
    pub released : (u : Tm) (later : DiskState) → SameCommit (holding t 0) u → Passed h.store u later [] (held_by g root 0) → HoldTrees g u later root [] (without_copies now)
    unfolding let_go
    released u later c q =
        subst (λ (ds : Volumes). HoldTrees g u later root [] ds)
        (sym (ap without_copies h.listed ∙ alone_below g.metadata_blocks h.store root t.held_root (fixed_blocks g) (2 ^ 24) h.forest))
        (same_trees g (holding t 0) disk root (suc n ∷ []) (volumes_below g.metadata_blocks h.store root) let_go u later [] q.after c q.holds q.frame)

-- ---- the counts where a block that counts is named once more

module _ (t : Tm) (x : ℕ) (live : 0 < slice_index t.metadata_now x) where
  abbrev more : ℕ
  more = slice_index t.metadata_now x + 1

  abbrev raised : Tm
  raised = record t { metadata_now = set t.metadata_now x more }

  at_place : slice_index raised.metadata_now x ≡ more
  at_place = get_or-set_same t.metadata_now x more 0 (elim (cases_lt x (length t.metadata_now)) [ inl l ↦ l | inr past ↦ absurd (omega (arith, live, get_or_past t.metadata_now x 0 past)) ])

  still_none : (b : ℕ) → slice_index t.metadata_now b ≡ 0 → slice_index raised.metadata_now b ≡ 0
  still_none b none =
      elim (cases_eq b x) [
        | inl e ↦ absurd (omega (arith, live, subst (λ y. slice_index t.metadata_now y ≡ 0) e none))
        | inr d ↦ get_or-set_other t.metadata_now x b more 0 d ∙ none
      ]

  none_before : (b : ℕ) → slice_index raised.metadata_now b ≡ 0 → slice_index t.metadata_now b ≡ 0
  none_before b none =
      elim (cases_eq b x) [
        | inl e ↦ absurd (omega (arith, at_place, subst (λ y. slice_index raised.metadata_now y ≡ 0) e none))
        | inr d ↦ sym (get_or-set_other t.metadata_now x b more 0 d) ∙ none
      ]

  -- as many blocks are in use, and none of the free ones is taken
  pub same_use : (used_metadata raised ≡ used_metadata t) × (free_metadata t ≤ free_metadata raised)
  same_use =
      let untaken : NoneTaken t raised = record { geometry = refl; metadata_kept = refl; data_kept = refl; held_root = refl; metadata = still_none; others = λ b h. h } in
      let back : NoneTaken raised t = record { geometry = refl; metadata_kept = refl; data_kept = refl; held_root = refl; metadata = none_before; others = λ b h. h } in
      (omega (arith, untaken_used t raised untaken, untaken_used raised t back), untaken_free t raised untaken)

-- a held root is that of some block
pub held_some : (n : ℕ) → 0 < n → (k : ℕ) × (n ≡ suc k)
held_some zero h = absurd (omega (arith, h))
held_some (suc k) h = (k, refl)
