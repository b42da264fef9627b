-- Trusted reading: what an image tells the one who opens it (own).
use Rattle.std.specs.Prelude.{◌≡◌, ◌⊎◌, ℕ, ◌+◌, ◌%◌, ◌<◌, ◌≤◌, List, length, slice_index, Result, Ok, Err}
use Rattle.tp_model.specs.declared.refusal.Refusal.{Refusal}
use Rattle.tp_model.specs.declared.refusal.Refusal.TheVariants.{Damaged}
use Rattle.tp_model.specs.Geometry.{fixed_part, sectors_of_image}
use Rattle.tp_model.specs.Sectors.{Sector}
use Rattle.tp_layout.specs.declared.counts.Part.{Part}
use Rattle.tp_layout.specs.declared.counts.Part.TheVariants.{Metadata}
use Rattle.tp_layout.specs.declared.superblock.SlotId.{SlotId}
use Rattle.tp_layout.specs.declared.superblock.Superblock.{Superblock}
use Rattle.tp_layout.specs.Super.{slot_number}
use Rattle.tp_image.specs.Areas.{HoldsCounts}
use Rattle.tp_image.specs.Slots.{Chooses}
use Rattle.tp_counts.specs.Counts.{used_in}
use Rattle.tp_tm.specs.Tm.{now_of}
use Rattle.tp_meta.specs.declared.opening.Opened.{Opened}

-- these are the counts of a part that stand in the area of the superblock
abbrev pub HasCounts : List Sector → Superblock → Part → List ℕ → Type 0
HasCounts image superblock part counts = (area : SlotId) → slot_number area ≡ superblock.sequence % 2 → HoldsCounts image superblock.geometry part area counts

-- the image has fewer sectors than a pool of this superblock
abbrev pub IsShort : List Sector → Superblock → Type 0
IsShort image superblock = length image < sectors_of_image superblock.geometry

-- no counts of some part stand in the area of the superblock
abbrev pub LacksCounts : List Sector → Superblock → Type 0
LacksCounts image superblock = (part : Part) × ((counts : List ℕ) → HasCounts image superblock part counts → ⊥)

-- so few metadata blocks have a count of 0 that no change could be made
abbrev pub IsFull : List Sector → Superblock → Type 0
IsFull image superblock =
    (counts : List ℕ) × HasCounts image superblock Metadata counts × (superblock.geometry.metadata_blocks < used_in superblock.geometry.metadata_blocks counts + 128)

-- Each metadata block that a pool of this superblock has in any case has a count over 0: those of the fixed part, the root of the device tree, and the root of
-- the held copy. Where none is held that is block 0.
pub record AreCounted (superblock : Superblock) (counts : List ℕ) : Type 0 where
  pub fixed : (block : ℕ) → block < fixed_part superblock.geometry → 0 < slice_index counts block
  pub root : 0 < slice_index counts superblock.root
  pub held : 0 < slice_index counts superblock.held_root

-- one of these blocks has a count of 0, so that a later change could write over it
abbrev pub IsUncounted : List Sector → Superblock → Type 0
IsUncounted image superblock = (counts : List ℕ) × HasCounts image superblock Metadata counts × (AreCounted superblock counts → ⊥)

-- The image's slots give this superblock, in whose area the counts of both parts stand, those of its own blocks over 0, and they leave 128 metadata blocks.
pub record IsOpenedFrom (image : List Sector) (opened : Opened) : Type 0 where
  pub chosen : Chooses image (Ok opened.superblock)
  pub whole : sectors_of_image opened.superblock.geometry ≤ length image
  pub counts : (part : Part) → HasCounts image opened.superblock part (now_of opened.tm part)
  pub counted : AreCounted opened.superblock (now_of opened.tm Metadata)

-- why an image is not opened: its slots give that refusal, or it is no whole pool of the superblock that they give
abbrev pub IsUnopened : List Sector → Refusal → Type 0
IsUnopened image refusal =
    Chooses image (Err refusal)
    ⊎ ((refusal ≡ Damaged) × ((last : Superblock) × Chooses image (Ok last) × (IsShort image last ⊎ LacksCounts image last ⊎ IsFull image last ⊎ IsUncounted image last)))

-- what is told of an image: the superblock that its slots give, with the counts of that one's area; or why there are none
abbrev pub IsToldOf : List Sector → Result Opened Refusal → Type 0
IsToldOf image (Ok opened) = IsOpenedFrom image opened
IsToldOf image (Err refusal) = IsUnopened image refusal
