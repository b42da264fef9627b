-- Trusted reading: what formatting leaves, and what a stop leaves while a disk is formatted (own).
use Rattle.std.specs.Prelude.{◌≡◌, ◌⊎◌, ℕ, ◌-◌, ◌%◌, List, ◌∷◌, [], replicate, set, Ok, Err}
use Rattle.tp_model.specs.declared.refusal.Refusal.TheVariants.{NotAPool}
use Rattle.tp_model.specs.Geometry.{Geometry, fixed_part, metadata_sector}
use Rattle.tp_model.specs.Sectors.{Sector, sector_at, zero_sector}
use Rattle.tp_model.specs.Disk.{Cell}
use Rattle.tp_model.specs.DiskStops.{AfterStop, IsFrom, PartlyOverlaid}
use Rattle.tp_layout.specs.declared.counts.Part.TheVariants.{Data, Metadata}
use Rattle.tp_layout.specs.declared.superblock.Superblock.{Superblock}
use Rattle.tp_layout.specs.declared.superblock.SlotId.{SlotId}
use Rattle.tp_layout.specs.declared.superblock.SlotId.TheVariants.{Zero, One}
use Rattle.tp_image.specs.Slots.{Chooses, slot_sector}
use Rattle.tp_image.specs.Fresh.{IsFreshOf, fresh_counts, fresh_leaf}
use Rattle.tp_refs.specs.Store.{Store, no_node, node_from}
use Rattle.tp_tm.specs.Tm.{Tm, counts_kept, counts_now}

-- the store of nodes of a pool just formatted, whose counts are those of now and of the last commit alike
abbrev pub fresh_store : Geometry → Tm
fresh_store g = record {
  geometry = g;
  metadata_now = fresh_counts g Metadata;
  metadata_kept = fresh_counts g Metadata;
  data_now = fresh_counts g Data;
  data_kept = fresh_counts g Data;
  held_root = 0;
}

-- the same as nodes by block: the empty leaf in the first tree block, and no other node
abbrev pub fresh_nodes : Geometry → Store
fresh_nodes g = record {
  counts = counts_now (fresh_store g);
  kept = counts_kept (fresh_store g);
  nodes = set (replicate g.metadata_blocks no_node) (fixed_part g) (node_from g.metadata_blocks (fresh_leaf g));
}

abbrev pub other_slot : SlotId → SlotId
other_slot Zero = One
other_slot One = Zero

-- both slots are zeros
pub record IsBlank (image : List Sector) : Type 0 where
  pub first : sector_at image 0 ≡ zero_sector
  pub second : sector_at image 8 ≡ zero_sector

-- while a slot is cleared: the image is one that a stop might have left before, or that with zeros in the slot
abbrev pub IsClearing : SlotId → List Cell → List Sector → Type 0
IsClearing slot cells image = (before : List Sector) × AfterStop cells before × PartlyOverlaid (slot_sector slot) (zero_sector ∷ []) before image

-- the sector of the slot that this superblock does not stand in
abbrev pub other_sector : Superblock → ℕ
other_sector s = metadata_sector (1 - s.sequence % 2)

-- the old pool: its superblock is chosen, and all but the sector of the slot that was not chosen is as a stop might
-- have left it before
abbrev pub IsOldPool : Superblock → List Cell → List Sector → Type 0
IsOldPool last cells image = Chooses image (Ok last) × IsFrom (other_sector last) 1 cells image

abbrev pub IsNoPool : List Sector → Type 0
IsNoPool image = Chooses image (Err NotAPool)

-- while a disk is formatted: the old pool, no pool, or the new one
abbrev pub IsFormatting : Superblock → Geometry → List Cell → List Sector → Type 0
IsFormatting last g cells image = IsOldPool last cells image ⊎ IsNoPool image ⊎ IsFreshOf g image
