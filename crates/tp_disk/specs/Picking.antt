-- Internal: how far the picks of a stop have been followed, after some of the writes.
use Rattle.std.specs.Prelude.{◌≡◌, ℕ, ◌-◌, ◌*◌, ◌<◌, Option, None, Some, List, length, take, drop, slice_get, slice_index_or}
use Rattle.tp_model.specs.Sectors.{Sector}
use Rattle.tp_model.specs.Disk.{Cell, cell_at}
use Rattle.tp_disk.specs.Picks.{entry_or_last}

-- how many later values are still to be taken; none where the last one is wanted
abbrev pub rest_of : Option ℕ → Cell → Option ℕ
rest_of None cell = None
rest_of (Some pick) cell = Some (pick - length cell.later)

-- one sector
pub record Picked (pick : Option ℕ) (cell : Cell) (value : Sector) (left : Option ℕ) : Type 0 where
  pub value_is : value ≡ entry_or_last pick cell
  pub left_is : left ≡ rest_of pick cell

-- all sectors, in the bytes of an image
pub record Picking (picks : List ℕ) (cells : List Cell) (image : List ℕ) (left : List (Option ℕ)) : Type 0 where
  pub many : length left ≡ length cells
  pub long : length image ≡ 512 * length cells
  pub each : (i : ℕ) → i < length cells → Picked (slice_get picks i) (cell_at cells i) (take 512 (drop (512 * i) image)) (slice_index_or left i None)
