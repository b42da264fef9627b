-- Trusted reading: what the listings of a pool tell, in words of the plain pool (own; after thin_ls, thin_dump, thin_delta and thin_trim).
use Rattle.std.specs.Prelude.{◌≡◌, ◌≢◌, ◌⊎◌, ◌<◌, ◌≤◌, ◌+◌, ℕ, Some, IsSome, List, [], ◌∷◌, length}
use Rattle.std.specs.FinMap.{entries, remove}
use Rattle.tp_model.specs.Pool.{PlainPool, slot_at, used, volume_size, volume_slots}
use Rattle.tp_model.specs.Calls.{volume_blocks}
use Rattle.tp_listings.specs.declared.extent.Extent.{Extent}
use Rattle.tp_listings.specs.declared.extent.Usage.{Usage}

-- ---- runs of blocks

-- a block lies in one of them
abbrev pub Covers : List Extent → ℕ → Type 0
Covers [] block = ⊥
Covers (e ∷ es) block = ((e.first ≤ block) × (block < e.first + e.blocks)) ⊎ Covers es block

-- They ascend from this block on, each has a block, and between two of them is one at least: so a set of blocks has one such list.
abbrev pub AreApart : ℕ → List Extent → Type 0
AreApart from [] = Unit {0}
AreApart from (e ∷ es) = (from ≤ e.first) × (0 < e.blocks) × AreApart (e.first + e.blocks + 1) es

-- they cover the blocks of which this holds, and no others
pub record AreRunsOf (extents : List Extent) (Has : ℕ → Type 0) : Type 0 where
  pub apart : AreApart 0 extents
  pub has : (block : ℕ) → Covers extents block → Has block
  pub all : (block : ℕ) → Has block → Covers extents block

-- ---- listings

-- the blocks of a volume that are mapped
pub record IsMap (s : PlainPool) (id : ℕ) (extents : List Extent) : Type 0 where
  pub there : IsSome (volume_size s id)
  pub runs : AreRunsOf extents (λ block. IsSome (slot_at s id block))

-- the blocks of one volume in which it may differ from another: where the two have not the same data block
pub record IsDelta (s : PlainPool) (old new : ℕ) (extents : List Extent) : Type 0 where
  pub there : IsSome (volume_size s old) × IsSome (volume_size s new)
  pub runs : AreRunsOf extents (λ block. (block < volume_blocks s new) × (slot_at s new block ≢ slot_at s old block))

-- the pool without a volume
abbrev pub without : PlainPool → ℕ → PlainPool
without s id = record s { volumes = remove s.volumes id }

-- what one volume has; how much is its own is said where no mapping is held
pub record IsUsage (s : PlainPool) (u : Usage) : Type 0 where
  pub blocks : u.blocks ≡ volume_blocks s u.id
  pub mapped : u.mapped ≡ length (entries (volume_slots s u.id))
  pub exclusive : s.held_root ≡ 0 → used s ≡ used (without s u.id) + u.exclusive

-- each of them is so
abbrev pub AreUsages : PlainPool → List Usage → Type 0
AreUsages s [] = Unit {0}
AreUsages s (u ∷ us) = IsUsage s u × AreUsages s us

-- their ids ascend
abbrev pub AscendFrom : ℕ → List Usage → Type 0
AscendFrom from [] = Unit {0}
AscendFrom from (u ∷ us) = (from ≤ u.id) × AscendFrom (u.id + 1) us

-- one of them is of this volume
abbrev pub HasUsageOf : List Usage → ℕ → Type 0
HasUsageOf [] id = ⊥
HasUsageOf (u ∷ us) id = (u.id ≡ id) ⊎ HasUsageOf us id

-- what each volume has, and no others
pub record IsListOfVolumes (s : PlainPool) (usages : List Usage) : Type 0 where
  pub ascend : AscendFrom 0 usages
  pub are : AreUsages s usages
  pub there : (id : ℕ) → HasUsageOf usages id → IsSome (volume_size s id)
  pub all : (id : ℕ) → id < 16777216 → IsSome (volume_size s id) → HasUsageOf usages id

-- the data blocks that no volume has; and where no mapping is held, no held copy has them either
pub record IsFreeList (s : PlainPool) (extents : List Extent) : Type 0 where
  pub of_volumes : AreRunsOf extents (λ place. (place < s.geometry.data_blocks) × ((id block : ℕ) → id < 16777216 → slot_at s id block ≡ Some place → ⊥))
  pub runs : s.held_root ≡ 0 → AreRunsOf extents (λ place. (place < s.geometry.data_blocks) × ((id block : ℕ) → slot_at s id block ≡ Some place → ⊥))
