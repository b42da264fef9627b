-- Trusted reading: what a commit says of a pool, and the pools that an image with it stands for (own).
use Rattle.std.specs.Prelude.{◌≡◌, ℕ, ◌*◌, ◌<◌, ◌≤◌, Bool, List, length, if◌then◌else◌}
use Rattle.std.specs.Option.{option_map}
use Rattle.std.specs.FinMap.{empty}
use Rattle.tp_model.specs.declared.mode.Mode.TheVariants.{ReadOnly, Writable}
use Rattle.tp_model.specs.Geometry.{Geometry}
use Rattle.tp_model.specs.Told.{told_sectors}
use Rattle.tp_model.specs.Sectors.{Sector, sector_at}
use Rattle.tp_model.specs.Disk.{Cell}
use Rattle.tp_model.specs.DiskStops.{AfterStop}
use Rattle.tp_model.specs.Pool.{PlainPool, slot_at, volume_size}
use Rattle.tp_layout.specs.declared.superblock.Superblock.{Superblock}
use Rattle.tp_image.specs.Stands.{HasSectors}
use Rattle.tp_refs.specs.Store.{Store}
use Rattle.tp_sharing.specs.Volumes.{Volumes, size_of, slot_of, volumes_of}
use Rattle.tp_stored.specs.Commit.{IsCommit, use_of}

-- what a pool is, but for what stands in its data blocks
pub record Contents : Type 0 where
  pub volumes : Volumes
  pub transaction_id : ℕ
  pub needs_check : Bool
  pub meta_used : ℕ  -- how many metadata blocks it names
  pub held_root : ℕ  -- the root of a held copy, whose volumes stand behind the others; 0 where there is none

-- what a superblock and the trees below its roots say
abbrev pub contents_of : Superblock → Store → Contents
contents_of superblock s = record {
  volumes = volumes_of superblock.geometry.metadata_blocks s superblock.root superblock.held_root;
  transaction_id = superblock.transaction_id;
  needs_check = superblock.needs_check;
  meta_used = use_of superblock.geometry s;
  held_root = superblock.held_root;
}

-- the image is that of a commit of these contents
abbrev pub HoldsContents : Geometry → Contents → List Sector → Type 0
HoldsContents g contents image =
    (superblock : Superblock) × (s : Store) × IsCommit image superblock s × (superblock.geometry ≡ g) × (contents ≡ contents_of superblock s)

-- The pool has these contents, and the sectors of this image in its data blocks.
pub record HasContents (g : Geometry) (contents : Contents) (image : List Sector) (p : PlainPool) : Type 0 where
  pub geometry : p.geometry ≡ g
  pub transaction_id : p.transaction_id ≡ contents.transaction_id
  pub needs_check : p.needs_check ≡ contents.needs_check
  pub meta_used : p.meta_used ≡ contents.meta_used
  pub held_root : p.held_root ≡ contents.held_root
  pub sizes : (id : ℕ) → volume_size p id ≡ option_map (told_sectors g) (size_of id contents.volumes)
  pub slots : (id block : ℕ) → slot_at p id block ≡ slot_of id block contents.volumes
  pub sectors : HasSectors image g p

-- so it is opened
pub record IsOpened (g : Geometry) (contents : Contents) (image : List Sector) (p : PlainPool) : Type 0 where
  pub has : HasContents g contents image p
  pub mode : p.mode ≡ (if contents.needs_check then ReadOnly else Writable)
  pub holds : p.holds ≡ empty

-- the images have the same data blocks, and the same sectors behind them
pub record SameData (g : Geometry) (old new : List Sector) : Type 0 where
  pub same_length : length new ≡ length old
  pub same : (i : ℕ) → 8 * g.metadata_blocks ≤ i → sector_at new i ≡ sector_at old i

-- the images have the same metadata blocks
pub record SameMetadata (g : Geometry) (old new : List Sector) : Type 0 where
  pub same_length : length new ≡ length old
  pub same : (i : ℕ) → i < 8 * g.metadata_blocks → sector_at new i ≡ sector_at old i

-- The image holds these contents, with the data blocks of one that a stop might have left before.
abbrev pub IsStill : Geometry → Contents → List Cell → List Sector → Type 0
IsStill g contents cells image = (before : List Sector) × AfterStop cells before × HoldsContents g contents image × SameData g before image
