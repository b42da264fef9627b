-- Trusted reading: which sizes a pool has that is to hold so much, and when there is none (own).
use Rattle.std.specs.Prelude.{◌≡◌, ℕ, ◌+◌, ◌*◌, ◌^◌, ◌≤◌, ◌<◌, ◌⊎◌, IfSome, List, MatchResult, Result, length, min, All}
use Rattle.tp_model.specs.Geometry.{Geometry, IsWithinLimits}
use Rattle.tp_image.specs.Bound.{metadata_bound}
use Rattle.tp_sizing.specs.declared.wanted.Wanted.{Wanted}
use Rattle.tp_sizing.specs.declared.wanted.Unfit.{Unfit}
use Rattle.tp_sizing.specs.declared.wanted.Unfit.TheVariants.{OutOfRange, TooMany}

-- the sectors that a data block is given
abbrev pub IsBlockSize : ℕ → Type 0
IsBlockSize n = (n ≡ 128) ⊎ (n ≡ 256) ⊎ (n ≡ 512) ⊎ (n ≡ 1024) ⊎ (n ≡ 2048)

-- The most blocks that a pool and a volume may have are enough, with so many sectors each.
abbrev pub AreEnough : Wanted → ℕ → Type 0
AreEnough w sectors = (w.size ≤ 1048576 * (512 * sectors)) × (w.volume_size ≤ 2 ^ 24 * (512 * sectors))

-- A data block may have so many sectors: it has the size that is wanted, where one is.
abbrev pub IsAllowed : Wanted → ℕ → Type 0
IsAllowed w n = IsBlockSize n × IfSome w.block_size (λ bytes. bytes ≡ 512 * n)

-- the largest of these
abbrev pub IsLargest : Wanted → ℕ → Type 0
IsLargest w n = IsAllowed w n × ((m : ℕ) → IsAllowed w m → m ≤ n)

-- Some block is enough.
abbrev pub HasEnough : Wanted → Type 0
HasEnough w = (n : ℕ) × IsAllowed w n × AreEnough w n

-- No number wanted is zero, and some block is enough.
abbrev pub IsInRange : Wanted → Type 0
IsInRange w = (0 < w.size) × (0 < w.volume_size) × (0 < w.volumes) × HasEnough w

-- So many blocks of so many sectors hold these bytes, and one less would not.
abbrev pub Holds : ℕ → ℕ → ℕ → Type 0
Holds blocks sectors bytes = (bytes ≤ blocks * (512 * sectors)) × (blocks * (512 * sectors) < bytes + 512 * sectors)

-- A pool has as many blocks as its data and its volumes need.
pub record HasBlocks (w : Wanted) (g : Geometry) : Type 0 where
  pub pool : Holds g.data_blocks g.block_sectors w.size
  pub volume : Holds g.virtual_blocks g.block_sectors w.volume_size

-- the most blocks that a volume of the pool's own size has mapped
abbrev pub most_mapped : Geometry → ℕ
most_mapped g = min g.virtual_blocks g.data_blocks

-- So many volumes have room: beside the most metadata blocks that they may use, whatever each has mapped, there are 512.
abbrev pub HaveRoom : Geometry → ℕ → Type 0
HaveRoom g volumes = (mapped : List ℕ) → length mapped ≤ volumes → All (λ m. m ≤ most_mapped g) mapped → metadata_bound g mapped + 512 ≤ g.metadata_blocks

abbrev pub with_metadata : Geometry → ℕ → Geometry
with_metadata g blocks = record g { metadata_blocks = blocks }

-- A pool for what is wanted with blocks of so many sectors, however many metadata blocks it takes.
pub record IsPoolFor (w : Wanted) (sectors : ℕ) (g : Geometry) : Type 0 where
  pub sectors_are : g.block_sectors ≡ sectors
  pub limits : IsWithinLimits g
  pub blocks : HasBlocks w g
  pub room : HaveRoom g w.volumes

-- There is such a pool.
abbrev pub Suits : Wanted → ℕ → Type 0
Suits w sectors = (g : Geometry) × IsPoolFor w sectors g

-- Blocks of so many sectors suit what is wanted, and no smaller ones do.
pub record IsSmallest (w : Wanted) (sectors : ℕ) : Type 0 where
  pub allowed : IsAllowed w sectors
  pub suits : Suits w sectors
  pub least : (n : ℕ) → IsAllowed w n → Suits w n → sectors ≤ n

-- The pool for what is wanted: within its limits, with the smallest blocks that suit, with room for its volumes, and with the least metadata of that kind.
pub record IsSizedFor (w : Wanted) (g : Geometry) : Type 0 where
  pub wanted : IsInRange w
  pub limits : IsWithinLimits g
  pub block : IsSmallest w g.block_sectors
  pub blocks : HasBlocks w g
  pub room : HaveRoom g w.volumes
  pub least : (n : ℕ) → IsWithinLimits (with_metadata g n) → HaveRoom (with_metadata g n) w.volumes → g.metadata_blocks ≤ n

-- Of volumes that have room in a pool for what is wanted with blocks of so many sectors and the most metadata, so many are the most.
pub record IsMost (w : Wanted) (sectors fit : ℕ) (g : Geometry) : Type 0 where
  pub sectors_are : g.block_sectors ≡ sectors
  pub limits : IsWithinLimits g
  pub blocks : HasBlocks w g
  pub metadata : g.metadata_blocks ≡ 65536
  pub room : HaveRoom g fit
  pub none : HaveRoom g (fit + 1) → ⊥

-- So many volumes fit with the largest blocks.
abbrev pub FitAtMost : Wanted → ℕ → Type 0
FitAtMost w fit = (n : ℕ) × (g : Geometry) × IsLargest w n × IsMost w n fit g

-- why there is no such pool
abbrev pub IsUnfit : Wanted → Unfit → Type 0
IsUnfit w OutOfRange = IsInRange w → ⊥
IsUnfit w (TooMany fit) = IsInRange w × ((n : ℕ) → IsAllowed w n → Suits w n → ⊥) × FitAtMost w fit

-- what is answered
abbrev pub IsAnswer : Wanted → Result Geometry Unfit → Type 0
IsAnswer w result = MatchResult result (IsSizedFor w) (IsUnfit w)
