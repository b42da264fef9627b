-- Internal: what the listings know of a volume whose slots they go through.
use Rattle.std.specs.Prelude.{◌≡◌, ◌⊎◌, ◌<◌, ◌≤◌, ◌==◌, ℕ, false, Some, None, IsSome, Option, List, slice_get, if◌then◌else◌}
use Rattle.std.specs.FinMap.{entries}
use Rattle.tp_model.specs.Pool.{PlainPool, slot_at, volume_size, volume_slots}
use Rattle.tp_model.specs.Calls.{is_failed, piece_from}
use Rattle.tp_model.specs.Slots.{BlockSlot, listed}
use Rattle.tp_listings.specs.declared.extent.Extent.{Extent}
use Rattle.tp_listings.specs.Listings.{AreApart, Covers}

-- ---- one slot after another

-- the data block at a block, where this is the first slot at it or behind it
abbrev pub told : Option BlockSlot → ℕ → Option ℕ
told None block = None
told (Some x) block = if x.block == block then Some x.place else None

-- no block before this one has that slot
abbrev pub IsUpTo : Option BlockSlot → ℕ → Type 0
IsUpTo None block = Unit {0}
IsUpTo (Some x) block = block ≤ x.block

-- its block, or the number behind all blocks
abbrev pub block_of : Option BlockSlot → ℕ
block_of None = 16777216
block_of (Some x) = x.block

-- It is the first slot of a volume from a block on.
pub record IsFirst (s : PlainPool) (id from : ℕ) (found : Option BlockSlot) : Type 0 where
  pub later : IsUpTo found from
  pub tells : (block : ℕ) → from ≤ block → IsUpTo found block → slot_at s id block ≡ told found block

-- What was read of a volume is a piece of its slots, and those before a place in it have blocks before this one.
pub record Reads (s : PlainPool) (id from : ℕ) (slots : List BlockSlot) (at : ℕ) : Type 0 where
  pub works : is_failed s.mode ≡ false
  pub there : IsSome (volume_size s id)
  pub start : ℕ
  pub begun : start ≤ from
  pub is : listed slots ≡ piece_from start (entries (volume_slots s id))
  pub below : (i : ℕ) (x : BlockSlot) → i < at → slice_get slots i ≡ Some x → x.block < from

-- ---- one block after another

-- These runs are those with one block more.
pub record IsPushed (block : ℕ) (old new : List Extent) : Type 0 where
  pub apart : AreApart 0 old → ((b : ℕ) → Covers old b → b < block) → AreApart 0 new
  pub has : (b : ℕ) → Covers new b → Covers old b ⊎ (b ≡ block)
  pub still : (b : ℕ) → Covers old b → Covers new b
  pub one : Covers new block
