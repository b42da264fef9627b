-- Trusted reading: what an image stands for (own).
use Rattle.std.specs.Prelude.{◌≡◌, ℕ, ◌+◌, ◌/◌, ◌%◌, ◌<◌, ◌≤◌, ◌↔◌, if◌then◌else◌, List, ◌∷◌, length, Contains, None, Some, Ok}
use Rattle.std.specs.FinMap.{empty}
use Rattle.tp_model.specs.declared.mode.Mode.TheVariants.{Writable, ReadOnly}
use Rattle.tp_model.specs.Geometry.{Geometry, data_sector, sectors_of_image}
use Rattle.tp_model.specs.Told.{told_sectors}
use Rattle.tp_model.specs.Sectors.{Sector, zero_sector, sector_at}
use Rattle.tp_model.specs.Pool.{PlainPool, volume_size, volume_sector, slot_at}
use Rattle.tp_layout.specs.Node.{NodeValue}
use Rattle.tp_layout.specs.Super.{held_refs, roots_of}
use Rattle.tp_layout.specs.declared.superblock.Superblock.{Superblock}
use Rattle.tp_layout.specs.declared.superblock.Version.TheVariants.{OwnSizes}
use Rattle.tp_image.specs.Slots.{Chooses}
use Rattle.tp_image.specs.Nodes.{IsDeviceOf, IsMappedOf}
use Rattle.tp_image.specs.Counts.{AreReachable, metadata_use}
use Rattle.tp_image.specs.Rules.{KeepTheRules}

-- the sectors of a volume are those at its data blocks, and zero where it has none
pub record HasSectors (image : List Sector) (g : Geometry) (p : PlainPool) : Type 0 where
  pub mapped : (id k place size : ℕ) → volume_size p id ≡ Some size → k < size → slot_at p id (k / g.block_sectors) ≡ Some place
      → volume_sector p id k ≡ Some (sector_at image (data_sector g place + k % g.block_sectors))
  pub unmapped : (id k size : ℕ) → volume_size p id ≡ Some size → k < size → slot_at p id (k / g.block_sectors) ≡ None
      → volume_sector p id k ≡ Some zero_sector

-- The image stands for this pool: what its chosen superblock says, the volumes and blocks to which paths lead from the root,
-- with the data blocks as labels, and as many metadata blocks in use as have a true count.
pub record StandsFor (image : List Sector) (p : PlainPool) : Type 0 where
  pub superblock : Superblock
  pub chosen : Chooses image (Ok superblock)
  pub whole : sectors_of_image superblock.geometry ≤ length image
  pub geometry : p.geometry ≡ superblock.geometry
  pub transaction_id : p.transaction_id ≡ superblock.transaction_id
  pub needs_check : p.needs_check ≡ superblock.needs_check
  pub mode : p.mode ≡ (if superblock.needs_check then ReadOnly else Writable)
  pub holds : p.holds ≡ empty
  pub held_root : p.held_root ≡ superblock.held_root
  -- each record on a path is a volume of the size that it tells, or a held copy of one, and there are no others
  pub volumes : (id volume_root mapped size : ℕ) → IsDeviceOf image superblock.root superblock.held_root id volume_root mapped size → volume_size p id ≡ Some (told_sectors p.geometry size)
  pub no_others : (id sectors : ℕ) → volume_size p id ≡ Some sectors → (volume_root : ℕ) × (mapped : ℕ) × (size : ℕ) × IsDeviceOf image superblock.root superblock.held_root id volume_root mapped size
  -- each block on a path has its data block, and no other block has one
  pub slots : (id block place : ℕ) → (slot_at p id block ≡ Some place) ↔ IsMappedOf image superblock.root superblock.held_root id block place
  pub sectors : HasSectors image p.geometry p
  pub nodes : List NodeValue
  pub reachable : AreReachable image (roots_of superblock) nodes
  pub meta_used : p.meta_used ≡ metadata_use p.geometry (roots_of superblock) nodes

-- Below some root in the image, and below its held one, stand the trees of this pool, within the rules of trees: the volumes and the blocks to which paths lead, with
-- the data blocks as labels, and as many metadata blocks in use as have a true count.
pub record HasTrees (image : List Sector) (p : PlainPool) : Type 0 where
  pub root : ℕ
  pub rules : (r : ℕ) → Contains (root ∷ held_refs p.held_root) r → KeepTheRules image OwnSizes p.geometry r
  pub volumes : (id volume_root mapped size : ℕ) → IsDeviceOf image root p.held_root id volume_root mapped size → volume_size p id ≡ Some (told_sectors p.geometry size)
  pub no_others : (id sectors : ℕ) → volume_size p id ≡ Some sectors → (volume_root : ℕ) × (mapped : ℕ) × (size : ℕ) × IsDeviceOf image root p.held_root id volume_root mapped size
  pub slots : (id block place : ℕ) → (slot_at p id block ≡ Some place) ↔ IsMappedOf image root p.held_root id block place
  pub nodes : List NodeValue
  pub reachable : AreReachable image (root ∷ held_refs p.held_root) nodes
  pub meta_used : p.meta_used ≡ metadata_use p.geometry (root ∷ held_refs p.held_root) nodes
