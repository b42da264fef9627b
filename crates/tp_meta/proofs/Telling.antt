-- What the one who opens an image is told where it is that of a commit, and where it is not.
use Rattle.std.proofs.Common.{◌≡◌, ◌⊎◌, inl, inr, ⊎_elim, ℕ, zero, suc, ◌+◌, ◌-◌, ◌^◌, ◌<◌, ◌≤◌, List, [], ◌++◌, length, take, drop, get_or, refl, sym, ap, subst, ◌∙◌, arith, take-append-drop}
use Rattle.std.specs.Prelude.{Ok, Err, ◌%◌, nat_lt, slice_index}
use Rattle.std.proofs.lemmas.Bool.{cases_eq}
use Rattle.std.proofs.lemmas.List.{get_or-take, get_or_append_left, length-map}
use Rattle.tp_model.specs.declared.refusal.Refusal.{Refusal}
use Rattle.tp_model.specs.declared.refusal.Refusal.TheVariants.{Damaged, Fault, Memory}
use Rattle.tp_model.specs.Geometry.{Geometry, fixed_part}
use Rattle.tp_model.specs.Sectors.{Sector}
use Rattle.tp_model.specs.Disk.{DiskState, IsWellFormed, newest, seen}
use Rattle.tp_model.proofs.Counting.{count_agree}
use Rattle.tp_layout.specs.Super.{slot_number}
use Rattle.tp_layout.specs.declared.counts.Part.{Part}
use Rattle.tp_layout.specs.declared.counts.Part.TheVariants.{Data, Metadata}
use Rattle.tp_layout.specs.declared.superblock.SlotId.{SlotId}
use Rattle.tp_layout.specs.declared.superblock.SlotId.TheVariants.{Zero, One}
use Rattle.tp_layout.specs.declared.superblock.Superblock.{Superblock}
use Rattle.tp_image.specs.Slots.{Chooses}
use Rattle.tp_image.proofs.AreaLaws.{HoldsCounts-one}
use Rattle.tp_counts.specs.Counts.{used_in}
use Rattle.tp_refs.specs.Store.{Store, node_at}
use Rattle.tp_refs.specs.Balance.{occurrences}
use Rattle.tp_refs.proofs.Steps.{held_live, occurrences-append, one_same}
use Rattle.tp_trees.proofs.Trees.{rank_inside, tree_rank}
use Rattle.tp_sharing.specs.Forest.{Forest, HeldForest, held_refs}
use Rattle.tp_stored.specs.Commit.{IsCommit, counts_of_part, fixed_blocks, held_by, use_of}
use Rattle.tp_stored.proofs.Ranges.{in_range}
use Rattle.tp_tm.specs.Tm.{Tm, counts_kept, counts_now, kept_now, now_of, used_metadata}
use Rattle.tp_tm.specs.Holds.{Holds, IsSpelled}
use Rattle.tp_meta.specs.Opening.{AreCounted, HasCounts, IsFull, IsShort, IsToldOf, IsUncounted, LacksCounts}
use Rattle.tp_meta.proofs.Clearing.{no_refusal, same_superblock}

area_of : (n : ℕ) → (area : SlotId) × (slot_number area ≡ n % 2)
area_of n = ⊎_elim {C = (area : SlotId) × (slot_number area ≡ n % 2)} (λ e. (Zero, sym e)) (λ differ. (One, odd n differ)) (cases_eq (n % 2) 0)
  where
    odd : (n : ℕ) → (n % 2 ≡ 0 → ⊥) → 1 ≡ n % 2
    odd n differ = ⊎_elim (λ e. sym e) (λ none. absurd (differ (omega (arith, none)))) (cases_eq (n % 2) 1)

-- the area holds one list
counts_one : (image : List Sector) (superblock : Superblock) (part : Part) (xs ys : List ℕ) → HasCounts image superblock part xs → HasCounts image superblock part ys → xs ≡ ys
counts_one image superblock part xs ys x y =
    let area = area_of superblock.sequence in
    HoldsCounts-one image superblock.geometry part area.0 xs ys (x area.0 area.1) (y area.0 area.1)

-- the counts of metadata blocks tell how many are in use
pub used_is_use : (m : ℕ) (xs ys : List ℕ) → m ≤ length xs → used_in m xs ≡ used_in m (xs ++ ys)
used_is_use m xs ys long = count_agree (λ b. nat_lt 0 (get_or xs b 0)) (λ b. nat_lt 0 (get_or (xs ++ ys) b 0)) m
    (λ b lt. ap (λ n. nat_lt 0 n) (sym (get_or_append_left xs ys 0 b (omega (arith, lt, long)))))

-- a commit stands in the memory that has its counts
pub commit_holds : (t : Tm) (disk : DiskState) (last : Superblock) (s : Store) → IsCommit (seen disk.cells) last s → t.geometry ≡ last.geometry → s.counts ≡ counts_now t → s.kept ≡ counts_kept t
    → Holds t disk [] (held_by last.geometry last.root last.held_root) s
commit_holds t disk last s c geometry now kept = record {
  stands = record {
    counts = now;
    kept = kept;
    sized = c.sound.sized ∙ sym (ap (λ (g : Geometry). g.metadata_blocks) geometry);
    nodes = λ b live closed ranked. subst (λ (g : Geometry). IsSpelled g.metadata_blocks (seen disk.cells) b (node_at s b)) (sym geometry) (c.nodes b live ranked);
  };
  balanced = c.sound.balanced;
}

module _ (image : List Sector) (last : Superblock) (s : Store) (c : IsCommit image last s) where
  abbrev m : ℕ
  m = last.geometry.metadata_blocks

  both_parts : (t : Tm) → ((part : Part) → HasCounts image last part (now_of t part)) → s.counts ≡ counts_now t
  both_parts t has =
      let metadata : t.metadata_now ≡ take m s.counts = counts_one image last Metadata t.metadata_now (take m s.counts) (has Metadata) (c.counts Metadata) in
      let others : t.data_now ≡ drop m s.counts = counts_one image last Data t.data_now (drop m s.counts) (has Data) (c.counts Data) in
      sym (ap (λ (l : List ℕ). l ++ t.data_now) metadata ∙ ap (λ (l : List ℕ). take m s.counts ++ l) others ∙ take-append-drop m s.counts)

  pub opened_holds : (t : Tm) (superblock : Superblock) (disk : DiskState) → seen disk.cells ≡ image → Chooses image (Ok superblock)
      → ((part : Part) → HasCounts image superblock part (now_of t part)) → t.geometry ≡ superblock.geometry → kept_now t ≡ t
      → (superblock ≡ last) × Holds t disk [] (held_by last.geometry last.root last.held_root) s
  opened_holds t superblock disk sees chosen has geometry alike =
      let same = same_superblock image last superblock c.chosen chosen in
      let now = both_parts t (subst (λ (x : Superblock). (part : Part) → HasCounts image x part (now_of t part)) same has) in (
        same,
        commit_holds t disk last s (subst (λ (l : List Sector). IsCommit l last s) (sym sees) c) (geometry ∙ ap (λ (x : Superblock). x.geometry) same) now (c.kept ∙ now ∙ ap counts_kept alike),
      )

  not_full : IsFull image last → ⊥
  not_full full =
      let is : full.0 ≡ take m s.counts = counts_one image last Metadata full.0 (take m s.counts) full.1 (c.counts Metadata) in
      let area = area_of last.sequence in
      let long = (c.counts Metadata area.0 area.1).long in
      let used : used_in m full.0 ≡ use_of last.geometry s =
      ap (used_in m) is ∙ used_is_use m (take m s.counts) (drop m s.counts) (omega (arith, long)) ∙ ap (used_in m) (take-append-drop m s.counts) in
      omega (arith, used, full.2, c.spare)

  -- the counts of the blocks that the pool holds
  abbrev fixed : List ℕ
  fixed = fixed_blocks last.geometry

  held_counts : (b : ℕ) → b < m → 0 < occurrences b (held_by last.geometry last.root last.held_root) → 0 < slice_index (take m s.counts) b
  held_counts b lt held =
      omega (arith, get_or-take m s.counts b 0 lt, held_live s [] (held_by last.geometry last.root last.held_root) b c.sound.balanced held)

  fixed_counts : (b : ℕ) → b < fixed_part last.geometry → 0 < slice_index (take m s.counts) b
  fixed_counts b lt =
      held_counts b (omega (arith, lt, c.sound.limits.metadata_least))
      (omega (arith, occurrences-append b (held_refs last.held_root) fixed, in_range b 0 (fixed_part last.geometry) (omega arith) (omega (arith, lt))))

  root_in : (r : ℕ) → Forest s r fixed (2 ^ 24) → r < m
  root_in r forest =
      let rank = tree_rank 5 ((node_at s r).rank - 5) s 0 (2 ^ 24) r forest.devices.tree in
      omega (arith, rank_inside s r (omega (arith, rank)), c.sound.sized)

  copy_counts : (h : ℕ) → h ≡ last.held_root → HeldForest s h fixed (2 ^ 24) → 0 < slice_index (take m s.counts) h
  copy_counts zero is copy = fixed_counts 0 (omega arith)
  copy_counts (suc n) is copy =
      held_counts (suc n) (root_in (suc n) copy)
      (subst (λ (h : ℕ). 0 < occurrences (suc n) (held_by last.geometry last.root h)) is
      (omega (arith, occurrences-append (suc n) (held_refs (suc n)) fixed, one_same (suc n) (suc n) refl)))

  commit_counts : AreCounted last (take m s.counts)
  commit_counts = record {
    fixed = fixed_counts;
    root = held_counts last.root (root_in last.root c.sound.forest) (omega (arith, one_same last.root last.root refl));
    held = copy_counts last.held_root refl c.sound.copy;
  }

  not_uncounted : IsUncounted image last → ⊥
  not_uncounted un =
      let is : un.0 ≡ take m s.counts = counts_one image last Metadata un.0 (take m s.counts) un.1 (c.counts Metadata) in
      un.2 (subst (λ (l : List ℕ). AreCounted last l) (sym is) commit_counts)

  pub not_refused : (refusal : Refusal) → IsToldOf image (Err refusal) → ⊥
  not_refused refusal (inl chooses) = no_refusal image last refusal c.chosen chooses
  not_refused refusal (inr why) =
      let same = same_superblock image last why.1.0 c.chosen why.1.1 in
      ⊎_elim
      (λ small. omega (arith, c.whole, subst (λ (x : Superblock). IsShort image x) same small))
      (λ rest. ⊎_elim
      (λ lacks. let none = subst (λ (x : Superblock). LacksCounts image x) same lacks in none.1 (counts_of_part last.geometry none.0 s.counts) (c.counts none.0))
      (λ more. ⊎_elim
      (λ full. not_full (subst (λ (x : Superblock). IsFull image x) same full))
      (λ un. not_uncounted (subst (λ (x : Superblock). IsUncounted image x) same un))
      more)
      rest)
      why.1.2

-- the counts cannot be read
pub told_of_counts : (image : List Sector) (superblock : Superblock) (refusal : Refusal) → Chooses image (Ok superblock) → ((refusal ≡ Memory) ⊎ (refusal ≡ Fault) ⊎ (refusal ≡ Damaged))
    → (refusal ≡ Damaged → IsShort image superblock ⊎ LacksCounts image superblock) → (refusal ≡ Fault → ⊥) → (refusal ≡ Memory → ⊥) → IsToldOf image (Err refusal)
told_of_counts image superblock refusal chosen (inl memory) why no_fault no_memory = absurd (no_memory memory)
told_of_counts image superblock refusal chosen (inr (inl fault)) why no_fault no_memory = absurd (no_fault fault)
told_of_counts image superblock refusal chosen (inr (inr damaged)) why no_fault no_memory =
    inr (damaged, (superblock, chosen, ⊎_elim {C = IsShort image superblock ⊎ LacksCounts image superblock ⊎ IsFull image superblock ⊎ IsUncounted image superblock} (λ small. inl small) (λ lacks. inr (inl lacks)) (why damaged)))

-- too few blocks are left
pub told_full : (image : List Sector) (superblock : Superblock) (t : Tm) → Chooses image (Ok superblock) → ((part : Part) → HasCounts image superblock part (now_of t part))
    → t.geometry ≡ superblock.geometry → superblock.geometry.metadata_blocks < used_metadata t + 128 → IsToldOf image (Err Damaged)
told_full image superblock t chosen has geometry full =
    inr (refl, (superblock, chosen, inr (inr (inl (t.metadata_now, has Metadata, subst (λ (g : Geometry). superblock.geometry.metadata_blocks < used_in g.metadata_blocks t.metadata_now + 128) geometry full)))))

-- a block that the pool holds has no count
pub told_uncounted : (image : List Sector) (superblock : Superblock) (t : Tm) → Chooses image (Ok superblock) → ((part : Part) → HasCounts image superblock part (now_of t part))
    → (AreCounted superblock t.metadata_now → ⊥) → IsToldOf image (Err Damaged)
told_uncounted image superblock t chosen has none = inr (refl, (superblock, chosen, inr (inr (inr (t.metadata_now, has Metadata, none)))))

pub seen_size : (disk : DiskState) → IsWellFormed disk.size disk.cells → disk.size ≡ length (seen disk.cells)
seen_size disk sound = sym (length-map disk.cells newest ∙ sound.size_is)
