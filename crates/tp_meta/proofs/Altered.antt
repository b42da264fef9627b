-- What a change of the trees makes of metadata that stand.
use Rattle.std.proofs.Common.{◌≡◌, ◌⊎◌, inl, inr, ℕ, zero, suc, ◌+◌, ◌<◌, ◌≤◌, ◌==◌, Bool, true, false, None, Some, Option, List, [], ◌∷◌, ◌++◌, map, replicate, length, take, get_or, set, refl, sym, ap, subst, ◌∙◌, arith}
use Rattle.std.specs.Prelude.{IfSome, IsSome, IsTrue, if◌then◌else◌}
use Rattle.std.specs.Option.{option_map, option_map_or}
use Rattle.std.proofs.lemmas.Bool.{cases_eq, cases_lt, eq-eqb, false≢true, ne_eqb}
use Rattle.std.proofs.lemmas.Option.{none-some}
use Rattle.std.proofs.lemmas.List.{get_or-replicate, get_or_past, get_or-set_same, get_or-set_other, length-set}
use Rattle.tp_model.specs.Geometry.{Geometry}
use Rattle.tp_model.specs.Disk.{DiskState, seen}
use Rattle.tp_model.proofs.DiskStopLaws.{AfterStop-seen}
use Rattle.tp_layout.specs.declared.superblock.Superblock.{Superblock}
use Rattle.tp_sharing.specs.Volumes.{BlockSlot, DeviceSlots, Volumes, as_copy, device_of, devices_in, place_in, place_or_none, resized, size_of, slot_of, with_device, with_slot, without_device}
use Rattle.tp_sharing.proofs.Changes.{device_changes, slot_changes}
use Rattle.tp_sharing.proofs.Sized.{resized_devices}
use Rattle.tp_sharing.proofs.Slots.{device_here, device_later, place_here, place_later}
use Rattle.tp_stored.specs.Commit.{IsCommit}
use Rattle.tp_stored.specs.Contents.{Contents, contents_of}
use Rattle.tp_tm.specs.Tm.{Tm, used_metadata}
use Rattle.tp_tm.specs.Keeps.{LeavesKept}
use Rattle.tp_mapping.specs.Mapping as told
use Rattle.tp_mapping.specs.Runs.{without_run}
use Rattle.tp_mapping.proofs.WithoutRuns.{run_other}
use Rattle.tp_mapping.specs.Trees.{StandForVolumes}
use Rattle.tp_mapping.specs.declared.mapped.Mapped.{Mapped}
use Rattle.tp_meta.specs.Framing.{marks_are}
use Rattle.tp_meta.specs.Metadata.{IsChanging, IsHot, IsTracked, marked, marked_all, marked_run}
use Rattle.tp_meta.specs.Standing.{StandsFor, marks_of}
use Rattle.tp_meta.specs.Stale.{AreCurrent}
use Rattle.tp_meta.specs.declared.stale.StaleBlocks.{StaleBlocks}
use Rattle.tp_meta.specs.declared.whole.Meta.{Meta}
use Rattle.tp_meta.proofs.Areas.{named_fixed, same_current, still_current}
use Rattle.tp_meta.proofs.Changing.{changing, commit_left}
use Rattle.tp_meta.proofs.Pieces.{own_place}

-- the size of a device that is there
pub size_or : (id : ℕ) (ds : Volumes) (size : ℕ) → size_of id ds ≡ Some size → told.size_or_none ds id ≡ size
size_or id ds size h = ap (λ (o : Option ℕ). option_map_or (λ n. n) o 0) h

-- ---- marks

hot_inside : (marks : List Bool) (place : ℕ) → IsHot marks place → place < length marks
hot_inside marks place hot =
    elim (cases_lt place (length marks)) [ inl lt ↦ lt | inr past ↦ absurd (false≢true (sym (get_or_past marks place false past) ∙ hot)) ]

still_hot : (was : Option ℕ) (marks : List Bool) (place : ℕ) → IsHot marks place → IsHot (marked was marks) place
still_hot None marks place hot = hot
still_hot (Some other) marks place hot =
    elim (cases_eq place other) [
      | inl e ↦ subst (λ n. get_or (set marks n true) place false ≡ true) e (get_or-set_same marks place true false (hot_inside marks place hot))
      | inr differ ↦ get_or-set_other marks other place true false differ ∙ hot
    ]

lost_hot : (was : Option ℕ) (marks : List Bool) (place : ℕ) → was ≡ Some place → place < length marks → IsHot (marked was marks) place
lost_hot was marks place e inside = subst (λ (o : Option ℕ). IsHot (marked o marks) place) (sym e) (get_or-set_same marks place true false inside)

length-marked : (was : Option ℕ) (marks : List Bool) → length (marked was marks) ≡ length marks
length-marked None marks = refl
length-marked (Some place) marks = length-set marks place true

still_hot_all : (xs : List BlockSlot) (marks : List Bool) (place : ℕ) → IsHot marks place → IsHot (marked_all xs marks) place
still_hot_all [] marks place hot = hot
still_hot_all (x ∷ xs) marks place hot = still_hot_all xs (marked (Some x.place) marks) place (still_hot (Some x.place) marks place hot)

lost_hot_all : (block place : ℕ) (xs : List BlockSlot) (marks : List Bool) → place_in block xs ≡ Some place → place < length marks → IsHot (marked_all xs marks) place
lost_hot_all block place [] marks e inside = absurd (none-some place e)
lost_hot_all block place (x ∷ xs) marks e inside =
    elim (cases_eq x.block block) [
      | inl same ↦
          still_hot_all xs (marked (Some x.place) marks) place
          (lost_hot (Some x.place) marks place (sym (place_here block x xs same) ∙ e) inside)
      | inr differ ↦
          lost_hot_all block place xs (marked (Some x.place) marks) (sym (place_later block x xs differ) ∙ e)
          (omega (arith, inside, length-marked (Some x.place) marks))
    ]

length-marked_all : (xs : List BlockSlot) (marks : List Bool) → length (marked_all xs marks) ≡ length marks
length-marked_all [] marks = refl
length-marked_all (x ∷ xs) marks = length-marked_all xs (marked (Some x.place) marks) ∙ length-marked (Some x.place) marks

pub length-marked_run : (id first n : ℕ) (volumes : Volumes) (marks : List Bool) → length (marked_run id first n volumes marks) ≡ length marks
length-marked_run id first zero volumes marks = refl
length-marked_run id first (suc n) volumes marks =
    length-marked (slot_of id (first + n) volumes) (marked_run id first n volumes marks) ∙ length-marked_run id first n volumes marks

-- the data block that was told
pub lost_is : (id block : ℕ) (volumes : Volumes) (o : Option Mapped) → told.IsTold id block volumes o
    → option_map (λ (at : Mapped). at.place) o ≡ slot_of id block volumes
lost_is id block volumes None none = sym none
lost_is id block volumes (Some at) here = sym here.0

-- ---- uses

-- as many metadata blocks at most are in use where no root is held, and else n more
pub few_more : (held n before after : ℕ) → (held ≡ 0 → after ≤ before) → after ≤ before + n → after ≤ before + (if held == 0 then 0 else n)
few_more held n before after none most =
    elim (cases_eq held 0) [
      | inl e ↦
          let few = none e in
          let z : (if held == 0 then 0 else n) ≡ 0 = ap {B = ℕ} (λ b. if b then 0 else n) (eq-eqb held 0 e) in
          omega (arith, few, z)
      | inr differ ↦
          let z : (if held == 0 then 0 else n) ≡ n = ap {B = ℕ} (λ b. if b then 0 else n) (ne_eqb held 0 differ) in
          omega (arith, most, z)
    ]

-- ---- slots

-- a device of the first of two lists is one of both
device_in_front : (id : ℕ) (xs : List BlockSlot) (ds es : Volumes) → device_of id ds ≡ Some xs → device_of id (ds ++ es) ≡ Some xs
device_in_front id xs [] es h = absurd (none-some xs h)
device_in_front id xs (d ∷ ds) es h =
    elim (cases_eq d.id id) [
      | inl e ↦ device_here id d (ds ++ es) e ∙ (sym (device_here id d ds e) ∙ h)
      | inr n ↦ device_later id d (ds ++ es) n ∙ device_in_front id xs ds es (sym (device_later id d ds n) ∙ h)
    ]

slot_in_front : (id block place : ℕ) (ds es : Volumes) → slot_of id block ds ≡ Some place → slot_of id block (ds ++ es) ≡ Some place
slot_in_front id block place ds es h = go (device_of id ds) refl where
  go : (o : Option (List BlockSlot)) → device_of id ds ≡ o → slot_of id block (ds ++ es) ≡ Some place
  go None e = absurd (none-some place (sym (ap (place_or_none block) e) ∙ h))
  go (Some xs) e = ap (place_or_none block) (device_in_front id xs ds es e) ∙ (sym (ap (place_or_none block) e) ∙ h)

differ_by : (id block other at : ℕ) → ((other ≡ id) × (at ≡ block)) ⊎ (((other ≡ id) × (at ≡ block)) → ⊥)
differ_by id block other at =
    elim (cases_eq other id) [
      | inl e ↦ elim (cases_eq at block) [ inl f ↦ inl (e, f) | inr differ ↦ inr (λ both. differ both.1) ]
      | inr differ ↦ inr (λ both. differ both.0)
    ]

slots_here : (o : Option (List BlockSlot)) → IsSome o → o ≡ Some (told.slots_or_none o)
slots_here None some = absurd (false≢true some)
slots_here (Some slots) some = refl

-- the slots of a device that is there
pub slots_there : (id : ℕ) (volumes : Volumes) → IsSome (device_of id volumes) → device_of id volumes ≡ Some (told.slots_of id volumes)
slots_there id volumes some = slots_here (device_of id volumes) some

module _ (m : Meta) (disk : DiskState) (now kept : Contents) (st : StandsFor m disk now kept) where
  abbrev t : Tm
  t = m.mapping.tm

  long : length t.metadata_kept ≡ m.last.geometry.metadata_blocks
  long = st.mapping.within.sized ∙ ap (λ (g : Geometry). g.metadata_blocks) st.geometry

  pub is_changing : (after : DiskState) → LeavesKept t.metadata_kept disk after → IsChanging t.geometry kept disk after
  is_changing after run =
      subst (λ (g : Geometry). IsChanging g kept disk after) (sym st.geometry)
      (subst (λ (c : Contents). IsChanging m.last.geometry c disk after) (sym st.kept_contents)
      (changing t m.last st.commit disk after st.left long st.kept_counts run))

  -- the trees stand for other volumes, with these marks, and this root is held
  pub altered_held : (new : Meta) (after : DiskState) (volumes : Volumes) (held : ℕ) (marks : List Bool) → StandForVolumes new.mapping after volumes kept.volumes
      → new.mapping.tm.held_root ≡ held → IfSome new.devices (λ n. n ≡ devices_in volumes)
      → IsTrue after.is_honest → new.mapping.tm.geometry ≡ t.geometry
      → new.mapping.tm.metadata_kept ≡ t.metadata_kept → new.mapping.tm.data_kept ≡ t.data_kept → new.stale.value ≡ m.stale.value → LeavesKept t.metadata_kept disk after → new.last ≡ m.last
      → new.transaction_id ≡ m.transaction_id → new.needs_check ≡ m.needs_check → new.is_changed ≡ true
      → new.marks ≡ marks → length marks ≡ length m.marks → IsTracked volumes kept.volumes marks
      → length new.mapping.tm.metadata_now ≡ new.mapping.tm.geometry.metadata_blocks
      → StandsFor new after (record now { volumes = volumes; held_root = held; meta_used = used_metadata new.mapping.tm }) kept
  altered_held new after volumes held marks mapping copy numbered honest geometry counts others stale run last transaction_id needs_check changed is as_many tracked sized = record {
    sized = sized;
    honest = honest;
    mapping = mapping;
    held_root = copy;
    numbered = numbered;
    transaction_id = transaction_id ∙ st.transaction_id;
    needs_check = needs_check ∙ st.needs_check;
    meta_used = refl;
    geometry = geometry ∙ st.geometry ∙ ap (λ (b : Superblock). b.geometry) (sym last);
    commit = st.commit;
    left = λ image stop. subst (λ (b : Superblock). IsCommit image b st.commit) (sym last)
        (commit_left t m.last st.commit disk after st.left long st.kept_counts run image stop);
    kept_counts = counts ∙ st.kept_counts ∙ ap (λ (b : Superblock). take b.geometry.metadata_blocks st.commit.counts) (sym last);
    kept_contents = st.kept_contents ∙ ap (λ (b : Superblock). contents_of b st.commit) (sym last);
    current =
        subst (λ (z : StaleBlocks). AreCurrent new.mapping.tm z (seen after.cells)) (sym stale)
        (same_current t new.mapping.tm m.stale.value (seen after.cells) geometry counts others
        (still_current t m.stale.value (seen disk.cells) (seen after.cells)
        (named_fixed t m.last st.commit (seen disk.cells) (st.left (seen disk.cells) (AfterStop-seen disk.cells)) st.kept_counts st.geometry) run.reads st.current));
    marks_long = ap length is ∙ as_many ∙ st.marks_long ∙ ap (λ (g : Geometry). g.data_blocks) (sym geometry);
    tracked = subst (λ (l : List Bool). IsTracked volumes kept.volumes l) (sym is) tracked;
    same_contents = λ not_changed. absurd (false≢true (sym not_changed ∙ changed));
    same_counts = λ not_changed. absurd (false≢true (sym not_changed ∙ changed));
  }

  -- the same where the held root stays
  pub altered_to : (new : Meta) (after : DiskState) (volumes : Volumes) (marks : List Bool) → StandForVolumes new.mapping after volumes kept.volumes
      → new.mapping.tm.held_root ≡ t.held_root → IfSome new.devices (λ n. n ≡ devices_in volumes)
      → IsTrue after.is_honest → new.mapping.tm.geometry ≡ t.geometry
      → new.mapping.tm.metadata_kept ≡ t.metadata_kept → new.mapping.tm.data_kept ≡ t.data_kept → new.stale.value ≡ m.stale.value → LeavesKept t.metadata_kept disk after → new.last ≡ m.last
      → new.transaction_id ≡ m.transaction_id → new.needs_check ≡ m.needs_check → new.is_changed ≡ true
      → new.marks ≡ marks → length marks ≡ length m.marks → IsTracked volumes kept.volumes marks
      → length new.mapping.tm.metadata_now ≡ new.mapping.tm.geometry.metadata_blocks
      → StandsFor new after (record now { volumes = volumes; meta_used = used_metadata new.mapping.tm }) kept
  altered_to new after volumes marks mapping same_held = altered_held new after volumes now.held_root marks mapping (same_held ∙ st.held_root)

  -- the same where one slot at most lost its data block
  pub altered : (new : Meta) (after : DiskState) (volumes : Volumes) (was : Option ℕ) → StandForVolumes new.mapping after volumes kept.volumes
      → new.mapping.tm.held_root ≡ t.held_root → IfSome new.devices (λ n. n ≡ devices_in volumes)
      → IsTrue after.is_honest → new.mapping.tm.geometry ≡ t.geometry
      → new.mapping.tm.metadata_kept ≡ t.metadata_kept → new.mapping.tm.data_kept ≡ t.data_kept → new.stale.value ≡ m.stale.value → LeavesKept t.metadata_kept disk after → new.last ≡ m.last
      → new.transaction_id ≡ m.transaction_id → new.needs_check ≡ m.needs_check → new.is_changed ≡ true
      → new.marks ≡ marked was m.marks → IsTracked volumes kept.volumes (marked was m.marks)
      → length new.mapping.tm.metadata_now ≡ new.mapping.tm.geometry.metadata_blocks
      → StandsFor new after (record now { volumes = volumes; meta_used = used_metadata new.mapping.tm }) kept
  altered new after volumes was mapping same_held numbered honest geometry counts others stale run last transaction_id needs_check changed marks tracked sized =
      altered_to new after volumes (marked was m.marks) mapping same_held numbered honest geometry counts others stale run last transaction_id needs_check changed marks
      (length-marked was m.marks) tracked sized

  -- the marks after it
  pub altered_marks : (new : Meta) (after : DiskState) (contents : Contents) (was : Option ℕ) → StandsFor new after contents kept
      → new.marks ≡ marked was m.marks → marks_of new ≡ marked was (marks_of m)
  altered_marks new after contents was stands marks =
      marks_are new after contents kept stands ∙ marks ∙ ap (λ (l : List Bool). marked was l) (sym (marks_are m disk now kept st))

  -- one slot alone was changed, and the data block that it lost is marked
  pub tracked_changed : (id block : ℕ) (volumes : Volumes)
      → ((other at : ℕ) → (((other ≡ id) × (at ≡ block)) → ⊥) → slot_of other at volumes ≡ slot_of other at now.volumes)
      → IsTracked volumes kept.volumes (marked (slot_of id block now.volumes) m.marks)
  tracked_changed id block volumes others other at p h =
      let was = slot_of id block now.volumes in
      let inside : slot_of other at now.volumes ≡ Some p → p < length m.marks =
      λ e. omega (arith, (st.mapping.within.volumes_now.slots other at p e).1, st.marks_long) in
      elim (st.tracked other at p h) [
        | inl e ↦ elim (differ_by id block other at) [
          | inl both ↦ inr (lost_hot was m.marks p ((λ i. slot_of (sym both.0 i) (sym both.1 i) now.volumes) ∙ e) (inside e))
          | inr differ ↦ inl (others other at differ ∙ e)
        ]
        | inr hot ↦ inr (still_hot was m.marks p hot)
      ]

  -- a slot was given another data block
  pub tracked_slot : (id block place : ℕ)
      → IsTracked (with_slot id (record { block = block; place = place }) now.volumes) kept.volumes (marked (slot_of id block now.volumes) m.marks)
  tracked_slot id block place =
      let x : BlockSlot = record { block = block; place = place } in
      tracked_changed id block (with_slot id x now.volumes) (λ other at differ. slot_changes.with_other id x other at now.volumes differ)

  -- slots of a run lost their data blocks
  pub tracked_run : (id first n : ℕ) → IsTracked (without_run id first n now.volumes) kept.volumes (marked_run id first n now.volumes m.marks)
  tracked_run id first zero = st.tracked
  tracked_run id first (suc n) = λ other at p h.
      let b = first + n in
      let before = without_run id first n now.volumes in
      let marks = marked_run id first n now.volumes m.marks in
      let was = slot_of id b now.volumes in
      elim (tracked_run id first n other at p h) [
        | inl e ↦ elim (differ_by id b other at) [
          | inl both ↦
              let own : slot_of id b before ≡ Some p = (λ i. slot_of (sym both.0 i) (sym both.1 i) before) ∙ e in
              let first_own : was ≡ Some p = sym (run_other id first n id b now.volumes (λ q. absurd (omega (arith, q.2)))) ∙ own in
              let inside : p < length marks = omega (arith, (st.mapping.within.volumes_now.slots id b p first_own).1, st.marks_long, length-marked_run id first n now.volumes m.marks) in
              inr (lost_hot was marks p first_own inside)
          | inr differ ↦ inl (slot_changes.without_other id b other at before differ ∙ e)
        ]
        | inr hot ↦ inr (still_hot was marks p hot)
      ]

  -- a device was added of an id that no device had
  pub tracked_device : (x : DeviceSlots) → device_of x.id now.volumes ≡ None → IsTracked (with_device x now.volumes) kept.volumes m.marks
  tracked_device x none other at p h =
      elim (st.tracked other at p h) [
        | inl e ↦ elim (cases_eq other x.id) [
          | inl same ↦ absurd (none-some p (sym (ap (place_or_none at) (ap (λ n. device_of n now.volumes) same ∙ none)) ∙ e))
          | inr differ ↦ inl (ap (place_or_none at) (device_changes.with_other x other now.volumes differ) ∙ e)
        ]
        | inr hot ↦ inr hot
      ]

  -- a device tells another size
  pub tracked_resized : (id size : ℕ) → IsTracked (resized id size now.volumes) kept.volumes m.marks
  tracked_resized id size other at p h =
      elim (st.tracked other at p h) [
        | inl e ↦ inl (ap (place_or_none at) (resized_devices id size other now.volumes) ∙ e)
        | inr hot ↦ inr hot
      ]

  -- a device was removed, and the data blocks that its slots lost are marked
  pub tracked_without_device : (id : ℕ) → IsTracked (without_device id now.volumes) kept.volumes (marked_all (told.slots_of id now.volumes) m.marks)
  tracked_without_device id other at p h =
      let lost = told.slots_of id now.volumes in
      elim (st.tracked other at p h) [
        | inl e ↦ elim (cases_eq other id) [
          | inl same ↦
              inr (lost_hot_all at p lost m.marks
              (sym (own_place at (device_of id now.volumes)) ∙ (ap (λ n. slot_of n at now.volumes) (sym same) ∙ e))
              (omega (arith, (st.mapping.within.volumes_now.slots other at p e).1, st.marks_long)))
          | inr differ ↦ inl (ap (place_or_none at) (device_changes.without_other id other now.volumes differ) ∙ e)
        ]
        | inr hot ↦ inr (still_hot_all lost m.marks p hot)
      ]

  -- the copies of all volumes stand behind them
  pub tracked_copied : IsTracked (now.volumes ++ map as_copy now.volumes) kept.volumes m.marks
  tracked_copied other at p h =
      elim (st.tracked other at p h) [
        | inl e ↦ inl (slot_in_front other at p now.volumes (map as_copy now.volumes) e)
        | inr hot ↦ inr hot
      ]

  -- each data block is marked
  pub tracked_all : (volumes : Volumes) → IsTracked volumes kept.volumes (replicate (length m.marks) true)
  tracked_all volumes other at p h =
      let inside : p < length m.marks = omega (arith, (st.mapping.within.volumes_kept.slots other at p h).1, st.marks_long) in
      inr (get_or-replicate (length m.marks) p true false inside)

  -- the marks after it
  pub marks_all : (new : Meta) (after : DiskState) (contents : Contents) → StandsFor new after contents kept → new.marks ≡ replicate (length m.marks) true
      → marks_of new ≡ replicate t.geometry.data_blocks true
  marks_all new after contents stands marks = marks_are new after contents kept stands ∙ marks ∙ ap (λ n. replicate {A = Bool} n true) st.marks_long

  pub as_many_marks : (xs : List BlockSlot) → length (marked_all xs m.marks) ≡ length m.marks
  as_many_marks xs = length-marked_all xs m.marks

  -- the marks after it
  pub marks_without : (new : Meta) (after : DiskState) (contents : Contents) (xs : List BlockSlot) → StandsFor new after contents kept
      → new.marks ≡ marked_all xs m.marks → marks_of new ≡ marked_all xs (marks_of m)
  marks_without new after contents xs stands marks =
      marks_are new after contents kept stands ∙ marks ∙ ap (λ (l : List Bool). marked_all xs l) (sym (marks_are m disk now kept st))

  pub marks_without_run : (new : Meta) (after : DiskState) (contents : Contents) (id first n : ℕ) → StandsFor new after contents kept
      → new.marks ≡ marked_run id first n now.volumes m.marks → marks_of new ≡ marked_run id first n now.volumes (marks_of m)
  marks_without_run new after contents id first n stands marks =
      marks_are new after contents kept stands ∙ marks ∙ ap (λ (l : List Bool). marked_run id first n now.volumes l) (sym (marks_are m disk now kept st))
