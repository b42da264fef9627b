-- Internal: the images that a list of numbers picks from what a stop may leave.
use Rattle.std.specs.Prelude.{ℕ, Option, None, Some, List, [], ◌∷◌, slice_index_or}
use Rattle.tp_model.specs.Sectors.{Sector}
use Rattle.tp_model.specs.Disk.{Cell, newest}

-- the entry of the kept value and those written since that has this number, or else the last one
abbrev pub entry_or_last : Option ℕ → Cell → Sector
entry_or_last None cell = newest cell
entry_or_last (Some pick) cell = slice_index_or (cell.kept ∷ cell.later) pick (newest cell)

-- for each cell the entry that its pick names, or else the last one
abbrev pub picked : List Cell → List ℕ → List Sector
picked [] picks = []
picked (cell ∷ cells) [] = newest cell ∷ picked cells []
picked (cell ∷ cells) (pick ∷ picks) = entry_or_last (Some pick) cell ∷ picked cells picks
