-- Trusted reading: a disk behind a volatile write cache, as data (own; in the manner of NBD's proto.md, "NBD_CMD_FLUSH").
use Rattle.std.specs.Prelude.{◌≡◌, ◌⊎◌, ℕ, zero, suc, ◌+◌, ◌^◌, ◌<◌, ◌≤◌, Bool, true, not, IsTrue, List, [], ◌∷◌, ◌++◌, length, map, slice_index_or, if◌then◌else◌}
use Rattle.std.specs.List.{All}
use Rattle.tp_model.specs.Sectors.{Sector, sector_at}

-- One sector of the disk: its value at the last flush that succeeded, and those written since, the oldest first.
pub record Cell : Type 0 where
  pub kept : Sector
  pub later : List Sector

-- the last of these, or the first one where there are none
abbrev pub last_of : List Sector → Sector → Sector
last_of [] first = first
last_of (x ∷ xs) first = last_of xs x

-- what a read gives
abbrev pub newest : Cell → Sector
newest cell = last_of cell.later cell.kept

abbrev pub IsOneOf : List Sector → Sector → Type 0
IsOneOf [] value = ⊥
IsOneOf (x ∷ xs) value = (value ≡ x) ⊎ IsOneOf xs value

-- a stop may leave this value in the sector
abbrev pub MayLeave : Cell → Sector → Type 0
MayLeave cell value = IsOneOf (cell.kept ∷ cell.later) value

abbrev pub appended : Cell → Sector → Cell
appended cell value = record { kept = cell.kept; later = cell.later ++ value ∷ [] }

abbrev pub settled_cell : Sector → Cell
settled_cell value = record { kept = value; later = [] }

-- the cell of a sector; past the end, one of no bytes
abbrev pub cell_at : List Cell → ℕ → Cell
cell_at cells i = slice_index_or cells i (settled_cell [])

-- the image that reads give
abbrev pub seen : List Cell → List Sector
seen cells = map newest cells

-- a disk with this image whose cache is empty
abbrev pub settled : List Sector → List Cell
settled image = map settled_cell image

abbrev pub IsSettled : List Cell → Type 0
IsSettled cells = cells ≡ settled (seen cells)

-- after a write of these sectors from `at` on that succeeded
unfoldable pub written : ℕ → List Sector → List Cell → List Cell
written zero [] cells = cells
written zero (value ∷ values) [] = []
written zero (value ∷ values) (cell ∷ cells) = appended cell value ∷ written zero values cells
written (suc at) values [] = []
written (suc at) values (cell ∷ cells) = cell ∷ written at values cells

-- a sector after a write of `value` to it that may have failed
pub record IsTouched (value : Sector) (old new : Cell) : Type 0 where
  pub kept : new.kept ≡ old.kept
  pub later : (new.later ≡ old.later) ⊎ (new.later ≡ old.later ++ value ∷ []) ⊎ (new.later ≡ old.later ++ newest old ∷ [])
      ⊎ (new.later ≡ old.later ++ value ∷ newest old ∷ [])

-- the sectors after a write of these from `at` on that may have failed
pub record Touched (at : ℕ) (values : List Sector) (old new : List Cell) : Type 0 where
  pub same_length : length new ≡ length old
  pub below : (i : ℕ) → i < at → cell_at new i ≡ cell_at old i
  pub above : (i : ℕ) → at + length values ≤ i → cell_at new i ≡ cell_at old i
  pub inside : (i : ℕ) → i < length values → IsTouched (sector_at values i) (cell_at old (at + i)) (cell_at new (at + i))

-- each value of the cell has the bytes of a sector
abbrev pub IsWholeCell : Cell → Type 0
IsWholeCell cell = (length cell.kept ≡ 512) × All (λ value. length value ≡ 512) cell.later

-- the cells of a disk of this size, whose bytes have numbers below 2 ^ 63
pub record IsWellFormed (size : ℕ) (cells : List Cell) : Type 0 where
  pub fits : size ≤ 2 ^ 54
  pub size_is : length cells ≡ size
  pub whole : All IsWholeCell cells

-- What a contract sees of a disk. Reads are as `cells` says only where the disk is honest.
pub record DiskState : Type 0 where
  pub size : ℕ
  pub is_honest : Bool
  pub cells : List Cell
  -- the cells that it had before, the newest first
  pub past : List (List Cell)
  -- how many calls have failed, and how many calls of flush there were
  pub failures : ℕ
  pub flushes : ℕ

-- settled, with no past and no failure
abbrev pub fresh : List Sector → DiskState
fresh image = record { size = length image; is_honest = true; cells = settled image; past = []; failures = 0; flushes = 0 }

abbrev pub after_read : Bool → DiskState → DiskState
after_read ok disk = record disk { failures = if ok then disk.failures else disk.failures + 1 }

abbrev pub after_write : ℕ → List Sector → DiskState → DiskState
after_write at values disk = record disk { cells = written at values disk.cells; past = disk.cells ∷ disk.past }

-- after a write of these sectors from `at` on, whether it succeeded or failed
pub record Writes (at : ℕ) (values : List Sector) (old new : DiskState) : Type 0 where
  pub size : new.size ≡ old.size
  pub is_honest : new.is_honest ≡ old.is_honest
  pub touched : Touched at values old.cells new.cells
  pub past : (new.past ≡ old.cells ∷ old.past) ⊎ ((new.past ≡ old.past) × (new.cells ≡ old.cells))
  pub flushes : new.flushes ≡ old.flushes

abbrev pub after_flush : Bool → DiskState → DiskState
after_flush ok disk = record disk {
  cells = if ok then settled (seen disk.cells) else disk.cells;
  past = if ok then disk.cells ∷ disk.past else disk.past;
  failures = if ok then disk.failures else disk.failures + 1;
  flushes = disk.flushes + 1;
}

-- what no call changes
pub record IsSameDisk (old new : DiskState) : Type 0 where
  pub size : new.size ≡ old.size
  pub is_honest : new.is_honest ≡ old.is_honest

-- a fault is answered where the number of failures rose, and nowhere else
pub record FaultHasCause (faulted : Bool) (old new : DiskState) : Type 0 where
  pub no_fewer : old.failures ≤ new.failures
  pub more : IsTrue faulted → old.failures < new.failures
  pub none : IsTrue (not faulted) → new.failures ≡ old.failures
