-- The last entry of a volume's tree is that of the greatest virtual block.
use Rattle.std.proofs.Common.{◌≡◌, ℕ, ◌≤◌, List, [], ◌∷◌, map, refl, sym, ap, ◌∙◌, arith, Option, Some, None}
use Rattle.std.specs.Prelude.{◌^◌}
use Rattle.std.specs.Option.{option_map}
use Rattle.tp_model.specs.Disk.{DiskState}
use Rattle.tp_model.specs.Geometry.{Geometry}
use Rattle.tp_layout.specs.declared.entry.Entry.{Entry}
use Rattle.tp_layout.specs.declared.kind.TreeKind.TheVariants.{Mapping}
use Rattle.tp_refs.specs.Store.{Store, first_named, moved_by}
use Rattle.tp_sharing.specs.Forest.{content}
use Rattle.tp_sharing.specs.Volumes.{BlockSlot, DevicesAscend, SlotsAscend, Volumes, slot_from, slot_of}
use Rattle.tp_sharing.proofs.InUse.{slots_are_within}
use Rattle.tp_stored.specs.Commit.{fixed_blocks}
use Rattle.tp_tm.specs.Tm.{Tm}
use Rattle.tp_btree.specs.Walks.{last_entry}
use Rattle.tp_mapping.specs.declared.volume.Volume.{Volume}
use Rattle.tp_mapping.specs.Held.{HasVolume, entry_of}
use Rattle.tp_mapping.specs.Mapping.{IsHighest}
use Rattle.tp_mapping.specs.Slots.{last_block}
use Rattle.tp_mapping.proofs.Between.{some_there, trees_ascend}
use Rattle.tp_mapping.proofs.Holding.{both, nodes_many, slots_of_volume}
use Rattle.tp_mapping.proofs.Within.{slots_ascend}
use Rattle.tp_mapping.proofs.Tops.{is_highest}

last_slot : (m : ℕ) (es : List Entry) → last_block (map (slot_from m) es) ≡ option_map (λ (e : Entry). e.key) (last_entry es)
last_slot m [] = refl
last_slot m (e ∷ []) = refl
last_slot m (e ∷ f ∷ es) = last_slot m (f ∷ es)

pub moved_key : (n : ℕ) (o : Option Entry) → option_map (λ (e : Entry). e.key) (option_map (moved_by n) o) ≡ option_map (λ (e : Entry). e.key) o
moved_key n None = refl
moved_key n (Some e) = refl

module _ (g : Geometry) (t : Tm) (disk : DiskState) (root : ℕ) (now : Volumes) (device : ℕ) (v : Volume) (h : HasVolume g t disk root [] now device v) where
  abbrev s : Store
  s = h.trees.store

  abbrev slots : List BlockSlot
  slots = map (slot_from g.metadata_blocks) (content 1 s v.root)

  now_ascends : DevicesAscend 0 now
  now_ascends = trees_ascend g t disk root [] now h.trees

  own_slots : SlotsAscend 0 slots
  own_slots = slots_ascend 0 device now slots now_ascends (slots_of_volume g t disk root [] now h.trees device (entry_of device v) h.told)

  pub highest_told : (o : Option Entry) → option_map (moved_by (first_named t.geometry.metadata_blocks Mapping 0)) o ≡ last_entry (content 1 s v.root)
      → (top : Option ℕ) → top ≡ option_map (λ (e : Entry). e.key) o → IsHighest device now top
  highest_told o last top e =
      is_highest device now (Some slots) (slots_of_volume g t disk root [] now h.trees device (entry_of device v) h.told) own_slots top
      (e ∙ sym (moved_key (first_named t.geometry.metadata_blocks Mapping 0) o) ∙ ap (option_map (λ (x : Entry). x.key)) last ∙ sym (last_slot g.metadata_blocks (content 1 s v.root)))

  pub last_inside : (x : Entry) → option_map (moved_by (first_named t.geometry.metadata_blocks Mapping 0)) (Some x) ≡ last_entry (content 1 s v.root) → 2 ^ 24 ≤ x.key → ⊥
  last_inside x last high =
      let r = some_there (slot_of device x.key now) (highest_told (Some x) last (Some x.key) refl).0 in
      let w = slots_are_within g.metadata_blocks s root t.held_root (fixed_blocks g) (2 ^ 24) h.trees.holds.balanced (both g t disk root [] now h.trees) (nodes_many g t disk root [] now h.trees) device x.key r.0
      (sym (ap (slot_of device x.key) h.trees.listed) ∙ r.1) in
      omega (arith, high, w.1)
