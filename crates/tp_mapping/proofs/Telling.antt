-- What trees that stand tell of a device and its slots.
use Rattle.std.proofs.Common.{◌≡◌, ℕ, ◌+◌, ◌-◌, ◌<◌, ◌≤◌, ◌||◌, Bool, List, [], length, sym, ap, subst, ◌∙◌, arith, Option, Some, None}
use Rattle.std.specs.Prelude.{is_some, ◌^◌, IsTrue, MatchOption, not, Result, Ok, Err, IfOk}
use Rattle.std.specs.Option.{option_map}
use Rattle.std.proofs.lemmas.List.{length-map}
use Rattle.tp_model.specs.Disk.{DiskState, after_read}
use Rattle.tp_counts.specs.StoreErrors.{is_fault}
use Rattle.tp_counts.specs.declared.error.StoreError.{StoreError}
use Rattle.tp_model.specs.Geometry.{Geometry}
use Rattle.tp_layout.specs.declared.entry.Entry.{Entry}
use Rattle.tp_layout.specs.declared.kind.TreeKind.TheVariants.{Mapping}
use Rattle.tp_layout.specs.Entries.{found}
use Rattle.tp_refs.specs.Store.{Store, first_named, moved_by}
use Rattle.tp_trees.specs.Tree.{is_shared_path}
use Rattle.tp_sharing.specs.Forest.{content}
use Rattle.tp_sharing.specs.Volumes.{OtherSlot, Volumes, device_of, devices_in, mapped_of, place_or_none, size_of, slot_from, slot_of}
use Rattle.tp_sharing.proofs.InUse.{shared_is_other, slots_are_within}
use Rattle.tp_sharing.proofs.Slots.{lookups_are_listed}
use Rattle.tp_sharing.proofs.Told.{size_changes}
use Rattle.tp_stored.specs.Commit.{fixed_blocks, held_by}
use Rattle.tp_tm.specs.Tm.{Tm}
use Rattle.tp_btree.specs.declared.look_up.Found.{Found}
use Rattle.tp_btree.specs.Trees.{Told}
use Rattle.tp_mapping.specs.declared.mapped.Mapped.{Mapped}
use Rattle.tp_mapping.specs.declared.trees.TreeMapping.{TreeMapping}
use Rattle.tp_mapping.specs.declared.volume.There.{There}
use Rattle.tp_mapping.specs.declared.volume.Volume.{Volume}
use Rattle.tp_mapping.specs.Held.{HasThere, HasVolume, HoldTrees, HoldsRoot, TellsVolume, entry_of}
use Rattle.tp_mapping.specs.Mapping.{IsTold}
use Rattle.tp_mapping.specs.Telling.{IsMappedOf, IsThere}
use Rattle.tp_mapping.specs.Trees.{StandForVolumes}
use Rattle.tp_mapping.proofs.Between.{held_trees}
use Rattle.tp_mapping.proofs.WithoutRuns.{none_when}
use Rattle.tp_mapping.proofs.Holding.{both, device_in, devices_told, height, low_id, nodes_many, none_there, now_root, size_told, slots_of_volume, volume_there}

-- ---- a device

-- what the device tree told, on a disk that is as it was
pub there_again : (m : TreeMapping) (old new : DiskState) (now : Volumes) (h : HoldTrees m.tm.geometry m.tm old m.root [] now) → new ≡ old → (device : ℕ) (answer : Option There)
    → TellsVolume device h.store m.root answer → IsThere m new now device answer
there_again m old new now h e device None told = none_there m.tm.geometry m.tm old m.root [] now h device told.0 told.1
there_again m old new now h e device (Some x) told =
    subst (λ (z : DiskState). HasThere m.tm.geometry m.tm z m.root now device x) (sym e) (record { volume = record { trees = h; told = told.0 }; shared = told.1 })

pub told_there : (m : TreeMapping) (old new : DiskState) (place device : ℕ) (r : Result (Option There) StoreError) → place ≡ m.root → new ≡ after_read (not (is_fault r)) old
    → IfOk r (λ answer. IsTrue old.is_honest → (g : Geometry) (refs : List ℕ) (s : Store) → HoldsRoot g m.tm old refs place s → TellsVolume device s place answer)
    → IfOk r (λ answer. IsTrue old.is_honest → (now kept : Volumes) → StandForVolumes m old now kept → IsThere m new now device answer)
told_there m old new place device (Err x) at e told = tt
told_there m old new place device (Ok answer) at e told = λ honest now kept s.
    let h = held_trees m old now kept s in
    let refs = held_by m.tm.geometry m.root m.tm.held_root in
    let all : HoldsRoot m.tm.geometry m.tm old refs m.root h.store → TellsVolume device h.store m.root answer =
    subst (λ (b : ℕ). HoldsRoot m.tm.geometry m.tm old refs b h.store → TellsVolume device h.store b answer) at (told honest m.tm.geometry refs h.store) in
    there_again m old new now h e device answer (all (now_root m.tm.geometry m.tm old m.root [] now h))

pub mapped_told : (m : TreeMapping) (disk : DiskState) (now : Volumes) (device : ℕ) (x : There) → IsThere m disk now device (Some x) → Some x.volume.mapped ≡ mapped_of device now
mapped_told m disk now device x there =
    let v = x.volume in
    let h = there.volume in
    let e = entry_of device v in
    let s = h.trees.store in
    ap Some (volume_there m.tm.geometry m.tm disk m.root [] now h.trees device e h.told).mapped
    ∙ ap Some (sym (length-map (content 1 s v.root) (slot_from m.tm.geometry.metadata_blocks)))
    ∙ sym (ap (option_map length) (slots_of_volume m.tm.geometry m.tm disk m.root [] now h.trees device e h.told))

pub size_told_there : (m : TreeMapping) (disk : DiskState) (now : Volumes) (device : ℕ) (x : There) → IsThere m disk now device (Some x) → size_of device now ≡ Some x.volume.size
size_told_there m disk now device x there = let h = there.volume in size_told m.tm.geometry m.tm disk m.root [] now h.trees device (entry_of device x.volume) h.told

pub none_sized : (device : ℕ) (now : Volumes) → device_of device now ≡ None → size_of device now ≡ None
none_sized device now e = none_when (size_of device now) (size_changes.told device now ∙ ap is_some e)

pub none_mapped : (device : ℕ) (now : Volumes) → device_of device now ≡ None → ◌≡◌ {A = Option ℕ} None (mapped_of device now)
none_mapped device now e = sym (ap (option_map length) e)

-- ---- a slot

module _ (g : Geometry) (t : Tm) (disk : DiskState) (root : ℕ) (now : Volumes) (device : ℕ) (v : Volume) (h : HasVolume g t disk root [] now device v) (block : ℕ) where
  abbrev s : Store
  s = h.trees.store

  slot_is : slot_of device block now ≡ option_map (λ (x : Entry). x.value - g.metadata_blocks) (found block (content 1 s v.root))
  slot_is = ap (place_or_none block) (device_in g t disk root [] now h.trees device (low_id g t disk root [] now h.trees device (entry_of device v) h.told)) ∙ lookups_are_listed.slots g.metadata_blocks s root device block (entry_of device v) h.told

  pub none_told : found block (content 1 s v.root) ≡ None → slot_of device block now ≡ None
  none_told n = slot_is ∙ ap (option_map (λ (x : Entry). x.value - g.metadata_blocks)) n

  module _ (x : Entry) (there : found block (content 1 s v.root) ≡ Some (moved_by (first_named t.geometry.metadata_blocks Mapping 0) x)) where
    value_is : t.geometry.metadata_blocks + x.value - g.metadata_blocks ≡ x.value
    value_is = omega (arith, ap (λ (z : Geometry). z.metadata_blocks) h.trees.geometry)

    slot_there : slot_of device block now ≡ Some x.value
    slot_there = slot_is ∙ ap (option_map (λ (y : Entry). y.value - g.metadata_blocks)) there ∙ ap Some value_is

    pub slot_inside : x.value < t.geometry.data_blocks
    slot_inside =
        let r = slots_are_within g.metadata_blocks s root t.held_root (fixed_blocks g) (2 ^ 24) h.trees.holds.balanced (both g t disk root [] now h.trees) (nodes_many g t disk root [] now h.trees) device block x.value
        (sym (ap (slot_of device block) h.trees.listed) ∙ slot_there) in
        omega (arith, r.2, h.trees.counted, ap (λ (z : Geometry). z.data_blocks) h.trees.geometry)

    pub some_told : (at : Mapped) → at.place ≡ x.value → at.is_shared ≡ (is_shared_path (height 5 s root) s device root || is_shared_path (height 1 s v.root) s block v.root) → IsTold device block now (Some at)
    some_told at is shared =
        let y = moved_by (first_named t.geometry.metadata_blocks Mapping 0) x in
        let both = shared_is_other g.metadata_blocks s root t.held_root (fixed_blocks g) (2 ^ 24) h.trees.holds.balanced (both g t disk root [] now h.trees) (nodes_many g t disk root [] now h.trees) device block (entry_of device v) y h.told there in
        let e : t.geometry.metadata_blocks + x.value - g.metadata_blocks ≡ at.place = value_is ∙ sym is in (
          slot_there ∙ ap Some (sym is),
          (
            λ p. subst (λ (n : ℕ). OtherSlot device block n now) e (subst (OtherSlot device block (t.geometry.metadata_blocks + x.value - g.metadata_blocks)) (sym h.trees.listed) (both.0 (sym shared ∙ p))),
            λ o. shared ∙ both.1 (subst (OtherSlot device block (t.geometry.metadata_blocks + x.value - g.metadata_blocks)) h.trees.listed (subst (λ (n : ℕ). OtherSlot device block n now) (sym e) o)),
          ),
        )

  -- the place that what a look-up tells of the slot's key says
  pub told_of : (o : Option Found) (p : Option Mapped) → IsMappedOf (is_shared_path (height 5 s root) s device root) o p → Told t.geometry.metadata_blocks Mapping (found block (content 1 s v.root)) (is_shared_path (height 1 s v.root) s block v.root) o
      → IsTold device block now p
  told_of None None e w = none_told w
  told_of None (Some at) e w = absurd e
  told_of (Some x) None e w = absurd e
  told_of (Some x) (Some at) e w = some_told x.entry w.0 at e.0 (e.1 ∙ ap (λ b. is_shared_path (height 5 s root) s device root || b) w.1)

  pub inside_of : (o : Option Found) → MatchOption o ⊥ (λ x. t.geometry.data_blocks ≤ x.entry.value)
      → Told t.geometry.metadata_blocks Mapping (found block (content 1 s v.root)) (is_shared_path (height 1 s v.root) s block v.root) o → ⊥
  inside_of None e w = e
  inside_of (Some x) e w = omega (arith, e, slot_inside x.entry w.0)

-- ---- a volume of either root

-- the data block that a look-up tells of an entry
pub named_of : (m : ℕ) (above shared : Bool) (e : Option Entry) (o : Option Found) (p : Option Mapped) → IsMappedOf above o p → Told m Mapping e shared o
    → option_map (λ (at : Mapped). at.place) p ≡ option_map (λ (x : Entry). x.value - m) e
named_of m above shared e None None same told = sym (ap (option_map (λ (x : Entry). x.value - m)) told)
named_of m above shared e None (Some at) same told = absurd same
named_of m above shared e (Some x) None same told = absurd same
named_of m above shared e (Some x) (Some at) same told =
    let is : m + x.entry.value - m ≡ x.entry.value = omega arith in
    ap Some (same.0 ∙ sym is) ∙ sym (ap (option_map (λ (y : Entry). y.value - m)) told.0)

-- and it is inside where the values are
pub beyond_of : (m n : ℕ) (shared : Bool) (e : Option Entry) (o : Option Found) → MatchOption o ⊥ (λ x. n ≤ x.entry.value) → Told m Mapping e shared o
    → ((x : Entry) → e ≡ Some x → x.value < m + n) → ⊥
beyond_of m n shared e None past told inside = past
beyond_of m n shared e (Some x) past told inside =
    let low : m + x.entry.value < m + n = inside (moved_by (first_named m Mapping 0) x.entry) told.0 in
    omega (arith, past, low)

-- ---- the devices

pub devices_many : (g : Geometry) (t : Tm) (disk : DiskState) (root : ℕ) (more : List ℕ) (now : Volumes) (h : HoldTrees g t disk root more now) → length (content 5 h.store root) ≡ devices_in now
devices_many g t disk root more now h = sym (devices_told g t disk root more now h)
