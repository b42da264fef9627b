-- Trusted reading: what the two areas of counts hold while a pool is served (own).
use Rattle.std.specs.Prelude.{◌≡◌, ℕ, ◌+◌, ◌<◌, Bool, List, slice_index}
use Rattle.tp_model.specs.Geometry.{Geometry, count_blocks, fixed_part}
use Rattle.tp_model.specs.Sectors.{Sector}
use Rattle.tp_layout.specs.declared.counts.Part.{Part}
use Rattle.tp_layout.specs.declared.counts.Part.TheVariants.{Data, Metadata}
use Rattle.tp_layout.specs.declared.superblock.SlotId.{SlotId}
use Rattle.tp_layout.specs.declared.superblock.SlotId.TheVariants.{Zero, One}
use Rattle.tp_image.specs.Areas.{blocks_of, counts_start}
use Rattle.tp_image.specs.Nodes.{block_at}
use Rattle.tp_counts.specs.Counts.{SpellUnmarked}
use Rattle.tp_tm.specs.Tm.{Tm, kept_of}
use Rattle.tp_meta.specs.declared.stale.AreaMarks.{AreaMarks}
use Rattle.tp_meta.specs.declared.stale.StaleBlocks.{StaleBlocks}

-- the marks of one part
abbrev pub marks_in : AreaMarks → Part → List Bool
marks_in marks Metadata = marks.metadata
marks_in marks Data = marks.data

-- the marks of one area
abbrev pub in_area : StaleBlocks → SlotId → AreaMarks
in_area stale Zero = stale.zero
in_area stale One = stale.one

-- each count block that is not stale, of both areas, holds the counts of the last commit
abbrev pub AreCurrent : Tm → StaleBlocks → List Sector → Type 0
AreCurrent t stale image = (area : SlotId) (part : Part) → SpellUnmarked image t.geometry part area (kept_of t part) (marks_in (in_area stale area) part)

-- the counts of the last commit name each block of the fixed part
abbrev pub NameFixed : Tm → Type 0
NameFixed t = (b : ℕ) → b < fixed_part t.geometry → 0 < slice_index t.metadata_kept b

-- the count blocks of an area are the same
abbrev pub SameArea : Geometry → SlotId → List Sector → List Sector → Type 0
SameArea g area before image =
    (part : Part) (j : ℕ) → j < count_blocks (blocks_of g part) → block_at image (counts_start g part area + j) ≡ block_at before (counts_start g part area + j)
