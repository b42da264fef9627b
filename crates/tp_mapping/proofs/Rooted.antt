-- What stands below a root, that of the devices or that of a held copy.
use Rattle.std.proofs.Common.{◌≡◌, ℕ, ◌+◌, ◌-◌, ◌<◌, ◌≤◌, List, [], refl, sym, ap, subst, ◌∙◌, arith, Some}
use Rattle.std.specs.Prelude.{◌^◌}
use Rattle.std.specs.Option.{option_map}
use Rattle.tp_model.specs.Geometry.{Geometry}
use Rattle.tp_model.specs.Told.{IsToldSize}
use Rattle.tp_model.specs.Disk.{DiskState}
use Rattle.tp_layout.specs.declared.entry.Entry.{Entry}
use Rattle.tp_layout.specs.declared.kind.TreeKind.TheVariants.{Device, Mapping}
use Rattle.tp_layout.specs.Entries.{found}
use Rattle.tp_layout.proofs.Ordered.{found_key}
use Rattle.tp_refs.specs.Store.{Store, count_of, first_named, moved_by, node_at}
use Rattle.tp_refs.proofs.Steps.{held_live}
use Rattle.tp_trees.proofs.Heights.{device_low, mapping_low, tree_few}
use Rattle.tp_trees.proofs.Trees.{rank_inside, tree_rank}
use Rattle.tp_sharing.specs.Forest.{IsVolume, content}
use Rattle.tp_sharing.proofs.Later.{volumes_are_live}
use Rattle.tp_sharing.proofs.Slots.{lookups_are_listed}
use Rattle.tp_stored.specs.Commit.{fixed_blocks}
use Rattle.tp_tm.specs.Tm.{Tm}
use Rattle.tp_btree.specs.Trees.{StandsBelow}
use Rattle.tp_mapping.specs.declared.volume.Volume.{Volume}
use Rattle.tp_mapping.specs.Held.{HoldsRoot, entry_of}

-- the height of the tree below a block
abbrev pub height : ℕ → Store → ℕ → ℕ
height base s b = (node_at s b).rank - base

module _ (g : Geometry) (t : Tm) (disk : DiskState) (refs : List ℕ) (root : ℕ) (s : Store) (h : HoldsRoot g t disk refs root s) where
  pub root_low : height 5 s root ≤ 2
  root_low = device_low (height 5 s root) s (2 ^ 24) root h.forest.devices h.few

  pub root_stands : StandsBelow t disk Device [] refs s (height 5 s root) 0 (2 ^ 24) root
  root_stands = record {
    holds = h.holds;
    tree = h.forest.devices.tree;
    levels = root_low;
    live = held_live s [] refs root h.holds.balanced h.named;
    closed = refl;
  }

  -- ---- a volume

  module _ (device : ℕ) (e : Entry) (there : found device (content 5 s root) ≡ Some e) where
    pub volume_there : IsVolume s (2 ^ 24) e
    volume_there = h.forest.volumes device e there

    pub volume_low : height 1 s e.value ≤ 3
    volume_low = mapping_low (height 1 s e.value) s (2 ^ 24) e.value volume_there.tree (omega arith)

    pub volume_rank : 0 < (node_at s e.value).rank
    volume_rank = omega (arith, tree_rank 1 (height 1 s e.value) s 0 (2 ^ 24) e.value volume_there.tree.tree)

    pub volume_inside : e.value < t.geometry.metadata_blocks
    volume_inside = omega (arith, rank_inside s e.value volume_rank, h.holds.stands.sized)

    pub volume_few : e.mapped ≤ 2 ^ 24
    volume_few = omega (arith, volume_there.mapped, tree_few 1 (height 1 s e.value) s 0 (2 ^ 24) e.value volume_there.tree.tree)

    pub volume_live : 0 < count_of s e.value
    volume_live = (volumes_are_live s [] refs root (fixed_blocks g) (2 ^ 24) h.holds.balanced h.named h.forest device e there).0

    pub volume_stands : StandsBelow t disk Mapping [] refs s (height 1 s e.value) 0 (2 ^ 24) e.value
    volume_stands = record {
      holds = h.holds;
      tree = volume_there.tree.tree;
      levels = volume_low;
      live = volume_live;
      closed = refl;
    }

    -- what its record tells
    may_tell : IsToldSize g e.size
    may_tell = h.sizes.told device e.size (lookups_are_listed.sizes g.metadata_blocks s root device ∙ ap (option_map (λ (x : Entry). x.size)) there)

  -- ---- what is told of it

  pub told_volume : (device : ℕ) (e : Entry) (v : Volume) → found device (content 5 s root) ≡ Some (moved_by (first_named t.geometry.metadata_blocks Device 0) e) → v.root ≡ e.value → v.mapped ≡ e.mapped → v.size ≡ e.size
      → found device (content 5 s root) ≡ Some (entry_of device v)
  told_volume device e v there r m z =
      let k : e.key ≡ device = found_key device (moved_by 0 e) (content 5 s root) there in
      let w : 0 + e.value ≡ v.root = omega (arith, r) in
      there ∙ (λ i. Some (record { key = k i; value = w i; mapped = (sym m) i; size = (sym z) i }))

  pub volume_bad : (device : ℕ) (e : Entry) → found device (content 5 s root) ≡ Some (moved_by (first_named t.geometry.metadata_blocks Device 0) e)
      → ((e.value < t.geometry.metadata_blocks) → e.mapped ≤ 2 ^ 24 → IsToldSize t.geometry e.size → ⊥) → ⊥
  volume_bad device e there not =
      not (omega (arith, volume_inside device (moved_by 0 e) there)) (volume_few device (moved_by 0 e) there)
      (subst (λ (z : Geometry). IsToldSize z e.size) (sym h.geometry) (may_tell device (moved_by 0 e) there))
