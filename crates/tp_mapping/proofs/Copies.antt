-- A volume's tree is copied and changed beside the device tree.
use Rattle.std.proofs.Common.{◌≡◌, ℕ, zero, suc, ◌+◌, ◌<◌, ◌≤◌, List, [], ◌∷◌, ◌++◌, length, map, get_or, refl, sym, ap, subst, ◌∙◌, arith, inl, Some, None}
use Rattle.std.specs.Prelude.{◌^◌, Err, IfErr, IsSome, Ok, OnOk, Option, Result, set}
use Rattle.tp_counts.specs.declared.error.StoreError.{StoreError}
use Rattle.tp_counts.specs.declared.error.StoreError.TheVariants.{Damaged}
use Rattle.tp_counts.specs.StoreErrors.{is_fault}
use Rattle.tp_counts.proofs.Free.{one_taken}
use Rattle.tp_counts.proofs.Refusing.{not_fault}
use Rattle.tp_tm.proofs.Used.{one_used}
use Rattle.tp_btree.proofs.Running.{ran_still}
use Rattle.std.proofs.lemmas.List.{length-append}
use Rattle.std.specs.List.{range_with_len}
use Rattle.tp_model.specs.Geometry.{Geometry, fixed_part}
use Rattle.tp_model.specs.Told.{IsToldSize, told_blocks}
use Rattle.tp_model.specs.Disk.{DiskState}
use Rattle.tp_layout.specs.declared.entry.Entry.{Entry}
use Rattle.tp_layout.specs.declared.kind.TreeKind.TheVariants.{Mapping}
use Rattle.tp_refs.specs.Store.{Node, Store, count_of, node_at}
use Rattle.tp_refs.specs.Balance.{Frame, SameBelow}
use Rattle.tp_refs.proofs.Bounds.{count_fits, held_below}
use Rattle.tp_refs.proofs.Moves.{reordered}
use Rattle.tp_refs.proofs.Steps.{frame_part, held_live, occurrences-append, one_same}
use Rattle.tp_trees.specs.Tree.{IsWhole, pairs}
use Rattle.tp_trees.proofs.Frames.{pairs_same, tree_same}
use Rattle.tp_sharing.specs.Forest.{IsVolume, content, held_refs}
use Rattle.tp_sharing.specs.Volumes.{BlockSlot, Volumes, device_of, place_in, place_or_none, slot_from}
use Rattle.tp_sharing.proofs.Later.{content_is_pairs, new_volume, volume_kept}
use Rattle.std.proofs.lemmas.Bool.{false≢true}
use Rattle.tp_stored.specs.Commit.{fixed_blocks, held_by}
use Rattle.tp_tm.specs.Tm.{IsSized, Tm, free_metadata, used_metadata}
use Rattle.tp_tm.specs.Holds.{Holds}
use Rattle.tp_tm.proofs.Counting.{data_at}
use Rattle.tp_tm.proofs.Standing.{now_at}
use Rattle.tp_btree.specs.Inserts.{Ran}
use Rattle.tp_btree.specs.Roots.{Begun, Passed}
use Rattle.tp_mapping.specs.declared.volume.Volume.{Volume}
use Rattle.tp_mapping.specs.Held.{HasVolume, HoldBeside, HoldTrees, HoldVolume, entry_of}
use Rattle.tp_mapping.proofs.Holding.{SameCommit, block_below, changed_trees, may_tell, height, same_trees, sized_after, slots_of_volume, volume_live, volume_there}

length-range : (from n : ℕ) → length (range_with_len from n) ≡ n
length-range from zero = refl
length-range from (suc n) = ap suc (length-range (from + 1) n)

refs_short : (held : ℕ) → length (held_refs held) ≤ 1
refs_short zero = omega arith
refs_short (suc n) = omega arith

-- few references are held
pub held_few : (g : Geometry) (t : Tm) (disk : DiskState) (root : ℕ) (more : List ℕ) (now : Volumes) → HoldTrees g t disk root more now → length (held_by g root t.held_root) ≤ 65538
held_few g t disk root more now h =
    omega (arith, length-append (held_refs t.held_root) (fixed_blocks g), refs_short t.held_root, length-range 0 (fixed_part g), h.limits.metadata_least, h.limits.metadata_most)

same_some : {A : Type 0} (x y : A) → Some x ≡ Some y → x ≡ y
same_some x y h = cc

none_some : {A : Type 0} (a : Option A) (x : A) → a ≡ None → a ≡ Some x → ⊥
none_some a x e f = cc

not_some : {A : Type 0} (o : Option A) → o ≡ None → IsSome o → ⊥
not_some None e h = false≢true h
not_some (Some x) e h = none_some (Some x) x e refl

-- no node was written below a block
pub all_below : (s t : Store) → ((b : ℕ) → node_at t b ≡ node_at s b) → (k b : ℕ) → SameBelow k s t b
all_below s t e zero b = e b
all_below s t e (suc k) b = (e b, λ c here. all_below s t e k c)

-- two references in another order
pub other_order : (t : Tm) (disk : DiskState) (a b : ℕ) (held : List ℕ) (s : Store) → Holds t disk [] (a ∷ b ∷ held) s → Holds t disk [] (b ∷ a ∷ held) s
other_order t disk a b held s h = record { stands = h.stands; balanced = reordered s [] (a ∷ b ∷ held) (b ∷ a ∷ held) (λ x. omega arith) h.balanced }

-- ---- one reference more

module _ (g : Geometry) (t : Tm) (disk : DiskState) (root : ℕ) (more : List ℕ) (now : Volumes) (device : ℕ) (v : Volume) (h : HasVolume g t disk root more now device v) where
  pub has_live : 0 < count_of h.trees.store v.root
  has_live = volume_live g t disk root more now h.trees device (entry_of device v) h.told

  pub not_shared : length more ≤ 8 → IsSized t → v.root < t.geometry.metadata_blocks → get_or t.metadata_now v.root 0 + 1 ≡ 2 ^ 32 → ⊥
  not_shared few sized inside full =
      let c = count_fits h.trees.store [] (more ++ held_by g root t.held_root) v.root h.trees.holds.balanced (omega (arith, few, length-append more (held_by g root t.held_root), held_few g t disk root more now h.trees)) in
      omega (arith, c, full, now_at t h.trees.store v.root sized.metadata_now inside h.trees.holds.stands.counts)

pub err_of : {A E : Type 0} (r : Result A E) (x : E) (P : E → Type 0) → r ≡ Err x → IfErr r P → P x
err_of r x P e h = subst (λ y. IfErr y P) e h

pub shared_ran : (r : Result (Unit {0}) StoreError) (t u : Tm) (x n : ℕ) (Q : Type 0) (disk : DiskState) → x < t.geometry.metadata_blocks → OnOk r (u ≡ record t { metadata_now = set t.metadata_now x n }) → IfErr r (λ refusal. (refusal ≡ Damaged) × (u ≡ t) × Q)
    → Ran 1 (is_fault r) t u disk disk
shared_ran (Ok y) t u x n Q disk inside e h =
    let same : free_metadata t ≤ free_metadata u + 1 = subst (λ z. free_metadata t ≤ free_metadata z + 1) (sym e) (one_taken t.geometry.metadata_blocks t.metadata_now t.metadata_kept x n inside) in
    let used : used_metadata u ≤ used_metadata t + 1 = subst (λ z. used_metadata z ≤ used_metadata t + 1) (sym e) (one_used t.geometry.metadata_blocks t.metadata_now x n inside) in
    ran_still 1 t u disk (ap (λ (z : Tm). z.geometry) e) (ap (λ (z : Tm). z.metadata_kept) e) (ap (λ (z : Tm). z.data_kept) e) (ap (λ (z : Tm). z.held_root) e) same used
shared_ran (Err y) t u x n Q disk inside e h =
    let same : free_metadata t ≤ free_metadata u + 1 = subst (λ z. free_metadata t ≤ free_metadata z + 1) (sym h.1) (omega arith) in
    let used : used_metadata u ≤ used_metadata t + 1 = subst (λ z. used_metadata z ≤ used_metadata t + 1) (sym h.1) (omega arith) in
    subst (λ b. Ran 1 b t u disk disk) (sym (not_fault {T = Unit {0}} (Err y) h.0))
    (ran_still 1 t u disk (ap (λ (z : Tm). z.geometry) h.1) (ap (λ (z : Tm). z.metadata_kept) h.1) (ap (λ (z : Tm). z.data_kept) h.1) (ap (λ (z : Tm). z.held_root) h.1) same used)

-- ---- a data block given up

pub not_released : (t : Tm) (disk : DiskState) (opens held : List ℕ) (s : Store) (p : ℕ) → IsSized t → p < t.geometry.data_blocks → Holds t disk opens ((t.geometry.metadata_blocks + p) ∷ held) s → get_or t.data_now p 0 ≡ 0 → ⊥
not_released t disk opens held s p sized inside h none =
    let x = t.geometry.metadata_blocks + p in
    let live = held_live s opens (x ∷ held) x h.balanced (omega (arith, one_same x x refl)) in
    omega (arith, live, ap (λ l. get_or l x 0) h.stands.counts, data_at t sized p inside, none)

pub data_below : (t : Tm) (disk : DiskState) (opens held : List ℕ) (s : Store) (p : ℕ) → IsSized t → Holds t disk opens ((t.geometry.metadata_blocks + p) ∷ held) s → p < t.geometry.data_blocks
data_below t disk opens held s p sized h =
    let b = held_below s opens held (t.geometry.metadata_blocks + p) h.balanced in
    omega (arith, b, ap length h.stands.counts, length-append t.metadata_now t.data_now, sized.metadata_now, sized.data_now)

-- ---- what stands after a change

module _ (g : Geometry) (t : Tm) (disk : DiskState) (root : ℕ) (more : List ℕ) (now : Volumes) (h : HoldTrees g t disk root more now) (u : Tm) (later : DiskState) (ran : SameCommit t u) where
  pub beside : (s : Store) (next : List ℕ) (v : Volume) (k : ℕ) (ps : List Entry) (slots : List BlockSlot) → Holds u later [] (v.root ∷ (next ++ held_by g root t.held_root)) s → Frame h.store s (held_by g root t.held_root) → IsWhole 1 k s (2 ^ 24) v.root → pairs k s v.root ≡ ps
      → ((device : ℕ) → IsVolume s (2 ^ 24) (entry_of device v)) → map (slot_from g.metadata_blocks) ps ≡ slots
      → IsToldSize g v.size → ((block place : ℕ) → place_in block slots ≡ Some place → block < told_blocks g v.size) → HoldBeside g u later root next v slots now
  unfolding same_trees changed_trees
  beside s next v k ps slots holds frame whole is volume same may below = record {
    trees = same_trees g t disk root more now h u later (v.root ∷ next) s ran holds frame;
    volume = volume;
    content_is = ap (map (slot_from g.metadata_blocks)) (content_is_pairs 1 k s 0 (2 ^ 24) v.root whole.tree ∙ is) ∙ same;
    told = may;
    inside = below;
  }

-- a tree without slots
pub volume_begun : (g : Geometry) (t : Tm) (disk : DiskState) (root : ℕ) (more : List ℕ) (now : Volumes) (h : HoldTrees g t disk root more now) (u : Tm) (later : DiskState) (ran : SameCommit t u)
    → (top : ℕ) → Begun h.store u later Mapping [] (more ++ held_by g root t.held_root) top → HoldBeside g u later root more (record { root = top; mapped = 0; size = 0 }) [] now
volume_begun g t disk root more now h u later ran top q =
    let whole : IsWhole 1 0 q.after (2 ^ 24) top = record { tree = q.tree (2 ^ 24); branches = λ some. absurd (omega (arith, some)) } in
    beside g t disk root more now h u later ran q.after more (record { root = top; mapped = 0; size = 0 }) 0 [] [] q.holds
    (frame_part h.store q.after (more ++ held_by g root t.held_root) (held_by g root t.held_root) q.frame (λ r here. omega (arith, here, occurrences-append r more (held_by g root t.held_root)))) whole q.content
    (λ device. new_volume q.after (2 ^ 24) (entry_of device (record { root = top; mapped = 0; size = 0 })) whole q.content refl) refl (inl refl) (λ block place h. absurd (none_some (place_in block []) place refl h))

-- the tree of a device once more
pub volume_shared : (g : Geometry) (t : Tm) (disk : DiskState) (root : ℕ) (now : Volumes) (device : ℕ) (v : Volume) (h : HasVolume g t disk root [] now device v) (u : Tm) (later : DiskState) (ran : SameCommit t u)
    → (slots : List BlockSlot) → device_of device now ≡ Some slots → Passed h.trees.store u later [] (v.root ∷ held_by g root t.held_root) → HoldVolume g u later root v slots now
volume_shared g t disk root now device v h u later ran slots is q =
    let s = h.trees.store in
    let was = volume_there g t disk root [] now h.trees device (entry_of device v) h.told in
    let k = height 1 s v.root in
    let same = λ (j : ℕ). all_below s q.after q.nodes j v.root in
    let kept = λ (d : ℕ). volume_kept s q.after (2 ^ 24) (entry_of device v) (entry_of d v) was (sized_after g t disk root [] now h.trees u later [] (v.root ∷ held_by g root t.held_root) q.after ran q.holds) refl refl same in
    let whole : IsWhole 1 k q.after (2 ^ 24) v.root = record { tree = tree_same 1 k s q.after 0 (2 ^ 24) v.root (same k) was.tree.tree; branches = λ some. subst (λ (y : Node). 2 ≤ length y.entries) (sym (q.nodes v.root)) (was.tree.branches some) } in
    beside g t disk root [] now h.trees u later ran q.after [] v k (content 1 s v.root) slots q.holds (frame_part s q.after (v.root ∷ held_by g root t.held_root) (held_by g root t.held_root) q.frame (λ r here. omega (arith, here))) whole
    (pairs_same 1 k s q.after 0 (2 ^ 24) v.root (same k) was.tree.tree) (λ d. (kept d).0)
    (same_some _ slots (sym (slots_of_volume g t disk root [] now h.trees device (entry_of device v) h.told) ∙ is))
    (may_tell g t disk root [] now h.trees device (entry_of device v) h.told)
    (λ block place p. block_below g t disk root [] now h.trees device (entry_of device v) h.told block place (ap (place_or_none block) is ∙ p))
