-- Internal: metadata that stand are within the sizes, and stand in the metadata blocks alone (own).
use Rattle.std.proofs.Common.{◌≡◌, ℕ, zero, suc, None, ◌+◌, ◌-◌, ◌*◌, ◌<◌, ◌==◌, ◌&&◌, Bool, cond, drop, false, not, List, ◌≤◌, length, replicate, take, refl, sym, ap, subst, ◌∙◌, arith}
use Rattle.std.specs.Prelude.{◌^◌, nat_lt, slice_index}
use Rattle.std.specs.List.{count_by, range_with_len}
use Rattle.std.proofs.lemmas.Bool.{lt-ltb, ne_eqb}
use Rattle.std.proofs.lemmas.List.{append-nil, length-take-le, take-append-drop, take_at}
use Rattle.tp_model.specs.Geometry.{Geometry}
use Rattle.tp_model.specs.Disk.{DiskState, seen}
use Rattle.tp_model.specs.Pool.{PlainPool}
use Rattle.tp_image.specs.Stands.{HasTrees}
use Rattle.tp_stored.specs.Commit.{IsSound, fixed_blocks, use_of}
use Rattle.tp_stored.proofs.Trees.{has_trees}
use Rattle.tp_model.specs.DiskStops.{Leaves}
use Rattle.tp_model.proofs.Counting.{count_agree, count_more, count_opposite}
use Rattle.tp_model.proofs.DiskStopLaws.{AfterStop-seen, bytes_at-same}
use Rattle.tp_image.specs.Areas.{counts_start}
use Rattle.tp_image.proofs.AreaLaws.{counts_fixed}
use Rattle.tp_counts.specs.Counts.{free_in, is_free, is_used, used_in}
use Rattle.tp_image.specs.Bound.{metadata_bound}
use Rattle.tp_sharing.specs.Sizes.{mapped_counts}
use Rattle.tp_sharing.specs.Volumes.{Volumes, copy_id, device_of, volumes_below, volumes_of}
use Rattle.tp_sharing.proofs.Copies.{copies_are_listed}
use Rattle.tp_stored.specs.Contents.{Contents, HasContents, HoldsContents, SameMetadata}
use Rattle.tp_stored.specs.Laws.{AreBounded}
use Rattle.tp_stored.proofs.Bounded.{sound_are_bounded}
use Rattle.tp_stored.proofs.Metadata.{commit_stays}
use Rattle.tp_tm.specs.Tm.{free_metadata}
use Rattle.tp_mapping.specs.Framing as trees
use Rattle.tp_mapping.specs.One.{trees_stand_for_one}
use Rattle.tp_mapping.proofs.Fresh.{more_free}
use Rattle.tp_mapping.proofs.Use.{used_alike}
use Rattle.tp_meta.specs.Metadata.{AreWithin, IsTracked, KeepsMetadata}
use Rattle.tp_meta.specs.Standing.{StandsFor, marks_of}
use Rattle.tp_meta.specs.declared.whole.Meta.{Meta}

-- ---- room

free_or_used : (x : ℕ) → (x == 0 && x == 0) ≡ not (nat_lt 0 x)
free_or_used zero = refl
free_or_used (suc x) =
    let no : (suc x == 0) ≡ false = ne_eqb (suc x) 0 (λ e. omega (arith, e)) in
    let yes = lt-ltb 0 (suc x) (omega arith) in
    (λ i. no i && no i) ∙ sym (ap not yes)

-- a commit leaves each block free or in use
pub room_kept : (n : ℕ) (now : List ℕ) → free_in n now now + used_in n now ≡ n
room_kept n now =
    let same : free_in n now now ≡ count_by (λ k. not (is_used now k)) (range_with_len 0 n) = count_agree (is_free now now)
    (λ k. not (is_used now k)) n (λ k h. free_or_used (slice_index now k)) in
    omega (arith, same, count_opposite (is_used now) n)

free_or_used_once : (x y : ℕ) → 1 ≤ cond (x == 0 && y == 0) 1 0 + cond (nat_lt 0 x) 1 0 + cond (nat_lt 0 y) 1 0
free_or_used_once zero zero = omega arith
free_or_used_once zero (suc y) = omega (arith, ap {B = ℕ} (λ (b : Bool). cond b 1 0) (lt-ltb 0 (suc y) (omega arith)))
free_or_used_once (suc x) y = omega (arith, ap {B = ℕ} (λ (b : Bool). cond b 1 0) (lt-ltb 0 (suc x) (omega arith)))

-- each block is free, or in use now, or was at the last commit
pub room_covers : (n : ℕ) (now kept : List ℕ) → n ≤ free_in n now kept + used_in n now + used_in n kept
room_covers zero now kept = omega arith
room_covers (suc n) now kept =
    let k : n + 1 ≡ suc n = omega arith in
    let free = ap (λ j. free_in j now kept) (sym k) ∙ count_more (is_free now kept) n in
    let used = ap (λ j. used_in j now) (sym k) ∙ count_more (is_used now) n in
    let named = ap (λ j. used_in j kept) (sym k) ∙ count_more (is_used kept) n in
    omega (arith, free, used, named, room_covers n now kept, free_or_used_once (slice_index now n) (slice_index kept n))

-- ---- the laws of metadata

pub marks_whole : (m : Meta) → length m.marks ≡ m.mapping.tm.geometry.data_blocks → marks_of m ≡ m.marks
marks_whole m long = take_at m.marks (replicate {A = Bool} m.mapping.tm.geometry.data_blocks false) m.mapping.tm.geometry.data_blocks long

-- where they stand, there is a mark for each data block
pub marks_are : (m : Meta) (disk : DiskState) (now kept : Contents) → StandsFor m disk now kept → marks_of m ≡ m.marks
marks_are m disk now kept st = marks_whole m st.marks_long

-- the last commit uses as many metadata blocks as its counts tell
used_by_commit : (m : Meta) (disk : DiskState) (now kept : Contents) → StandsFor m disk now kept
    → kept.meta_used ≡ used_in m.mapping.tm.geometry.metadata_blocks m.mapping.tm.metadata_kept
used_by_commit m disk now kept st =
    let n = m.last.geometry.metadata_blocks in
    let counts = st.commit.counts in
    let counted = (st.left (seen disk.cells) (AfterStop-seen disk.cells)).sound.counted in
    let long : length (take n counts) ≡ n = length-take-le n counts (omega (arith, counted)) in
    ap (λ (c : Contents). c.meta_used) st.kept_contents
    ∙ ap (used_in n) (sym (take-append-drop n counts))
    ∙ sym (used_alike n (take n counts) (drop n counts) (omega (arith, long)))
    ∙ (λ i. used_in (sym st.geometry i).metadata_blocks (sym st.kept_counts i))

-- where no root is held, no id from 2 ^ 24 on has slots
no_copies : (m : Meta) (disk : DiskState) (now kept : Contents) → StandsFor m disk now kept → now.held_root ≡ 0 → (id : ℕ) → 2 ^ 24 ≤ id → device_of id now.volumes ≡ None
no_copies m disk now kept st none id high =
    let n = m.mapping.tm.geometry.metadata_blocks in
    let s = st.mapping.store in
    let e : copy_id (id - 2 ^ 24) ≡ id = omega (arith, high) in
    ap (device_of id) (st.mapping.listed ∙ ap (volumes_of n s m.mapping.root) (st.held_root ∙ none))
    ∙ subst (λ i. device_of i (volumes_of n s m.mapping.root 0) ≡ None) e
    (copies_are_listed.none n s m.mapping.root (fixed_blocks m.mapping.tm.geometry) (2 ^ 24) (id - 2 ^ 24) st.mapping.sound.forest)

pub stands_within : (m : Meta) (disk : DiskState) (now kept : Contents) → StandsFor m disk now kept
    → AreWithin m.mapping.tm.geometry (free_metadata m.mapping.tm) (marks_of m) now kept
stands_within m disk now kept st =
    let t = m.mapping.tm in
    let n = t.geometry.metadata_blocks in record {
      limits = st.mapping.within.limits;
      volumes_now = st.mapping.within.volumes_now;
      volumes_kept = st.mapping.within.volumes_kept;
      tracked = subst (λ (l : List Bool). IsTracked now.volumes kept.volumes l) (sym (marks_are m disk now kept st)) st.tracked;
      copies = no_copies m disk now kept st;
      room = omega (arith, st.meta_used, room_kept n t.metadata_now, more_free n t.metadata_now t.metadata_kept);
      no_less_room = omega (arith, st.meta_used, used_by_commit m disk now kept st, room_covers n t.metadata_now t.metadata_kept);
    }

pub stands_left : (m : Meta) (disk : DiskState) (now kept : Contents) → StandsFor m disk now kept
    → Leaves (HoldsContents m.mapping.tm.geometry kept) disk.cells
stands_left m disk now kept st image stop = (m.last, st.commit, st.left image stop, sym st.geometry, st.kept_contents)

-- as many metadata blocks are in use as the trees have a count for
used_by_trees : (m : Meta) (disk : DiskState) (now kept : Contents) → (st : StandsFor m disk now kept) → now.meta_used ≡ use_of m.mapping.tm.geometry st.mapping.store
used_by_trees m disk now kept st =
    let t = m.mapping.tm in
    st.meta_used ∙ used_alike t.geometry.metadata_blocks t.metadata_now t.data_now (omega (arith, st.sized)) ∙ ap (used_in t.geometry.metadata_blocks) (sym st.mapping.holds.stands.counts)

-- on the disk as it is read the trees of these contents stand
pub stands_trees : (m : Meta) (disk : DiskState) (now kept : Contents) (p : PlainPool) → StandsFor m disk now kept → HasContents m.mapping.tm.geometry now (seen disk.cells) p
    → HasTrees (seen disk.cells) p
stands_trees m disk now kept p st has =
    let t = m.mapping.tm in
    let s = st.mapping.store in
    has_trees t.geometry (seen disk.cells) m.mapping.root t.held_root s st.mapping.sound (λ b live ranked. st.mapping.holds.stands.nodes b live refl ranked) now st.mapping.listed (used_by_trees m disk now kept st) (sym st.held_root)
    (seen disk.cells) p has

pub frame_stands : (m : Meta) (old new : DiskState) (now kept : Contents) → KeepsMetadata m.mapping.tm.geometry old new → StandsFor m old now kept
    → StandsFor m new now kept
frame_stands m old new now kept keeps st = record {
  honest = keeps.same_disk.is_honest ∙ st.honest;
  mapping =
      trees.frame_stands m.mapping old new now.volumes kept.volumes
      (record { same_length = keeps.seen_same.same_length; same = λ i low high. keeps.seen_same.same i high }) st.mapping;
  held_root = st.held_root;
  numbered = st.numbered;
  transaction_id = st.transaction_id;
  needs_check = st.needs_check;
  sized = st.sized;
  meta_used = st.meta_used;
  geometry = st.geometry;
  commit = st.commit;
  left = λ image stop.
      let from = keeps.left image stop in
      commit_stays from.0 image m.last st.commit (subst (λ (g : Geometry). SameMetadata g from.0 image) st.geometry from.2) (st.left from.0 from.1);
  kept_counts = st.kept_counts;
  kept_contents = st.kept_contents;
  current = λ area part j lt unmarked.
      let g = m.mapping.tm.geometry in
      let b = counts_start g part area + j in
      let low : b < g.metadata_blocks = omega (arith, lt, (counts_fixed g part area).1, st.mapping.within.limits.metadata_least) in
      bytes_at-same (8 * b) 8 (seen new.cells) (seen old.cells) keeps.seen_same.same_length (λ i from to. keeps.seen_same.same i (omega (arith, to, low)))
      ∙ st.current area part j lt unmarked;
  marks_long = st.marks_long;
  tracked = st.tracked;
  same_contents = st.same_contents;
  same_counts = st.same_counts;
}

-- however what stands is told, as many metadata blocks are in use
pub stands_counted : (m : Meta) (disk : DiskState) (now kept next last : Contents) → StandsFor m disk now kept → StandsFor m disk next last → next.meta_used ≡ now.meta_used
stands_counted m disk now kept next last st then = then.meta_used ∙ sym st.meta_used

-- and the volumes are the same
pub stands_one : (m : Meta) (disk : DiskState) (now kept next last : Contents) → StandsFor m disk now kept → StandsFor m disk next last → next.volumes ≡ now.volumes
stands_one m disk now kept next last st then =
    trees_stand_for_one m.mapping disk now.volumes kept.volumes next.volumes last.volumes st.mapping then.mapping

-- where no root is held, the metadata blocks in use are within the bound
pub stands_bounded : (m : Meta) (disk : DiskState) (now kept : Contents) → StandsFor m disk now kept → AreBounded m.mapping.tm.geometry now
stands_bounded m disk now kept st none =
    let g = m.mapping.tm.geometry in
    let s = st.mapping.store in
    let root = m.mapping.root in
    let unheld : m.mapping.tm.held_root ≡ 0 = st.held_root ∙ none in
    let low = sound_are_bounded g root s (subst (λ h. IsSound g root h s) unheld st.mapping.sound) in
    let same : now.volumes ≡ volumes_below g.metadata_blocks s root =
    st.mapping.listed ∙ (ap (volumes_of g.metadata_blocks s root) unheld ∙ append-nil (volumes_below g.metadata_blocks s root)) in
    let bound : use_of g s ≤ metadata_bound g (mapped_counts now.volumes) = subst (λ (v : Volumes). use_of g s ≤ metadata_bound g (mapped_counts v)) (sym same) low in
    omega (arith, used_by_trees m disk now kept st, bound)
