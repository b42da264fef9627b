-- What trees that stand tell of a held copy.
use Rattle.std.proofs.Common.{◌≡◌, ℕ, suc, ◌+◌, ◌-◌, ◌<◌, List, [], map, refl, sym, ap, subst, ◌∙◌, arith, Option, Some, None}
use Rattle.std.specs.Prelude.{◌^◌, Err, IfOk, IsSome, IsTrue, Ok, Result, not}
use Rattle.std.specs.Option.{option_map}
use Rattle.tp_model.specs.Disk.{DiskState, after_read}
use Rattle.tp_model.specs.Geometry.{Geometry}
use Rattle.tp_counts.specs.StoreErrors.{is_fault}
use Rattle.tp_counts.specs.declared.error.StoreError.{StoreError}
use Rattle.tp_layout.specs.declared.entry.Entry.{Entry}
use Rattle.tp_layout.specs.Entries.{found}
use Rattle.tp_refs.specs.Store.{Store}
use Rattle.tp_sharing.specs.Forest.{content}
use Rattle.tp_sharing.specs.Volumes.{Volumes, copy_id, device_of, place_or_none, size_of, slot_from, slot_of, volumes_of}
use Rattle.tp_sharing.proofs.Copies.{copies_are_listed}
use Rattle.tp_sharing.proofs.InUse.{slots_are_within}
use Rattle.tp_sharing.proofs.Slots.{lookups_are_listed}
use Rattle.tp_stored.specs.Commit.{fixed_blocks, held_by}
use Rattle.tp_mapping.specs.declared.trees.TreeMapping.{TreeMapping}
use Rattle.tp_mapping.specs.declared.volume.There.{There}
use Rattle.tp_mapping.specs.declared.volume.Volume.{Volume}
use Rattle.tp_mapping.specs.Held.{HoldTrees, HoldsRoot, TellsVolume, entry_of}
use Rattle.tp_mapping.specs.Telling.{HasCopy, IsCopied}
use Rattle.tp_mapping.specs.Trees.{StandForVolumes}
use Rattle.tp_mapping.proofs.Between.{held_trees}
use Rattle.tp_mapping.proofs.Holding.{both, copy_root, nodes_many}
use Rattle.tp_mapping.proofs.Holdings.{held_some}
use Rattle.tp_mapping.proofs.Rooted.{volume_stands, volume_there}

-- without a held root there are no copies
pub none_held : (m : TreeMapping) (disk : DiskState) (now : Volumes) → HoldTrees m.tm.geometry m.tm disk m.root [] now → m.tm.held_root ≡ 0 → (device : ℕ) → device_of (copy_id device) now ≡ None
none_held m disk now h is device =
    let g = m.tm.geometry in
    ap (device_of (copy_id device)) (h.listed ∙ ap (volumes_of g.metadata_blocks h.store m.root) is)
    ∙ copies_are_listed.none g.metadata_blocks h.store m.root (fixed_blocks g) (2 ^ 24) device h.forest

module _ (m : TreeMapping) (disk : DiskState) (now : Volumes) (h : HoldTrees m.tm.geometry m.tm disk m.root [] now) (n : ℕ) (is : m.tm.held_root ≡ suc n) (device : ℕ) where
  abbrev g : Geometry
  g = m.tm.geometry

  abbrev blocks : ℕ
  blocks = g.metadata_blocks

  abbrev s : Store
  s = h.store

  abbrev refs : List ℕ
  refs = held_by g m.root m.tm.held_root

  listed : now ≡ volumes_of blocks s m.root (suc n)
  listed = h.listed ∙ ap (volumes_of blocks s m.root) is

  device_is : device_of (copy_id device) now ≡ option_map (λ (x : Entry). map (slot_from blocks) (content 1 s x.value)) (found device (content 5 s (suc n)))
  device_is =
      ap (device_of (copy_id device)) listed
      ∙ (copies_are_listed.copy blocks s m.root n (fixed_blocks g) (2 ^ 24) device h.forest ∙ lookups_are_listed.devices blocks s (suc n) device)

  none_copied : found device (content 5 s (suc n)) ≡ None → device_of (copy_id device) now ≡ None
  none_copied e = device_is ∙ ap (option_map (λ (x : Entry). map (slot_from blocks) (content 1 s x.value))) e

  module _ (v : Volume) (there : found device (content 5 s (suc n)) ≡ Some (entry_of device v)) where
    slots_are : (block : ℕ) → slot_of (copy_id device) block now ≡ option_map (λ (x : Entry). x.value - blocks) (found block (content 1 s v.root))
    slots_are block =
        ap (slot_of (copy_id device) block) listed
        ∙ (ap (place_or_none block) (copies_are_listed.copy blocks s m.root n (fixed_blocks g) (2 ^ 24) device h.forest) ∙ lookups_are_listed.slots blocks s (suc n) device block (entry_of device v) there)

    blocks_inside : (block : ℕ) (x : Entry) → found block (content 1 s v.root) ≡ Some x → x.value < g.metadata_blocks + g.data_blocks
    blocks_inside block x at =
        let w = volume_there g m.tm disk refs (suc n) s (copy_root g m.tm disk m.root [] now h n is) device (entry_of device v) there in
        let many = nodes_many g m.tm disk m.root [] now h in
        let slot : slot_of (copy_id device) block (volumes_of blocks s m.root m.tm.held_root) ≡ Some (x.value - blocks) =
        sym (ap (slot_of (copy_id device) block) h.listed) ∙ (slots_are block ∙ ap (option_map (λ (y : Entry). y.value - blocks)) at) in
        let r = slots_are_within blocks s m.root m.tm.held_root (fixed_blocks g) (2 ^ 24) h.holds.balanced (both g m.tm disk m.root [] now h) many (copy_id device) block (x.value - blocks) slot in
        omega (arith, w.data_blocks block x at, many, r.2, h.counted)

    has_copy : HasCopy m disk now device v
    has_copy = record {
      refs = refs;
      store = s;
      volume = record {
        stands = volume_stands g m.tm disk refs (suc n) s (copy_root g m.tm disk m.root [] now h n is) device (entry_of device v) there;
        blocks = blocks_inside;
      };
      there = subst IsSome (sym (device_is ∙ ap (option_map (λ (x : Entry). map (slot_from blocks) (content 1 s x.value))) there)) refl;
      size = ap (size_of (copy_id device)) listed
          ∙ (copies_are_listed.copy_size blocks s m.root n (fixed_blocks g) (2 ^ 24) device h.forest
          ∙ (lookups_are_listed.sizes blocks s (suc n) device ∙ ap (option_map (λ (x : Entry). x.size)) there));
      slots = slots_are;
    }

  -- what the device tree of the copy told, on a disk that is as it was
  pub copied_told : (new : DiskState) → new ≡ disk → (answer : Option There) → TellsVolume device s (suc n) answer → IsCopied m new now device answer
  copied_told new e None told = none_copied told.1
  copied_told new e (Some x) told = subst (λ (z : DiskState). HasCopy m z now device x.volume) (sym e) (has_copy x.volume told.0)

pub copied_there : (m : TreeMapping) (old new : DiskState) (place device : ℕ) (r : Result (Option There) StoreError) → place ≡ m.tm.held_root → 0 < place → new ≡ after_read (not (is_fault r)) old
    → IfOk r (λ answer. IsTrue old.is_honest → (g : Geometry) (refs : List ℕ) (s : Store) → HoldsRoot g m.tm old refs place s → TellsVolume device s place answer)
    → IfOk r (λ answer. IsTrue old.is_honest → (now kept : Volumes) → StandForVolumes m old now kept → IsCopied m new now device answer)
copied_there m old new place device (Err x) at some e told = tt
copied_there m old new place device (Ok answer) at some e told = λ honest now kept st.
    let g = m.tm.geometry in
    let h = held_trees m old now kept st in
    let refs = held_by g m.root m.tm.held_root in
    let k = held_some m.tm.held_root (omega (arith, at, some)) in
    let all : HoldsRoot g m.tm old refs (suc k.0) h.store → TellsVolume device h.store (suc k.0) answer =
    subst (λ (b : ℕ). HoldsRoot g m.tm old refs b h.store → TellsVolume device h.store b answer) (at ∙ k.1) (told honest g refs h.store) in
    copied_told m old now h k.0 k.1 device new e answer (all (copy_root g m.tm old m.root [] now h k.0 k.1))

-- the root of the copy is one, as a look-up wants it
pub copy_holds : (m : TreeMapping) (disk : DiskState) (now kept : Volumes) (st : StandForVolumes m disk now kept) (place : ℕ) → place ≡ m.tm.held_root → 0 < place
    → HoldsRoot m.tm.geometry m.tm disk (held_by m.tm.geometry m.root m.tm.held_root) place (held_trees m disk now kept st).store
copy_holds m disk now kept st place at some =
    let g = m.tm.geometry in
    let k = held_some m.tm.held_root (omega (arith, at, some)) in
    let h = held_trees m disk now kept st in
    subst (λ (b : ℕ). HoldsRoot g m.tm disk (held_by g m.root m.tm.held_root) b h.store) (sym (at ∙ k.1)) (copy_root g m.tm disk m.root [] now h k.0 k.1)
