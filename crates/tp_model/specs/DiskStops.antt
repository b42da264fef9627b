-- Trusted reading: what a stop may leave of a disk, at one moment and at each moment of a run (own).
use Rattle.std.specs.Prelude.{◌≡◌, ◌⊎◌, ℕ, ◌+◌, ◌-◌, ◌<◌, ◌≤◌, List, [], ◌∷◌, ◌++◌, length, take}
use Rattle.std.specs.List.{AllByRecursion}
use Rattle.tp_model.specs.Sectors.{sector_at}
use Rattle.tp_model.specs.Sectors.{Sector, sector_at}
use Rattle.tp_model.specs.Disk.{Cell, DiskState, MayLeave, cell_at}

-- each sector of the image, by itself, is its kept value or one of those written since
pub record AfterStop (cells : List Cell) (image : List Sector) : Type 0 where
  pub same_length : length image ≡ length cells
  pub each : (i : ℕ) → MayLeave (cell_at cells i) (sector_at image i)

-- a stop now leaves only images with P
abbrev pub Leaves : (List Sector → Type 0) → List Cell → Type 0
Leaves P cells = (image : List Sector) → AfterStop cells image → P image

-- all that the disk has been, now first
abbrev pub moments : DiskState → List (List Cell)
moments disk = disk.cells ∷ disk.past

-- the number of the present moment
abbrev pub moment : DiskState → ℕ
moment disk = length disk.past

abbrev pub SomeLeaves : List (List Cell) → List Sector → Type 0
SomeLeaves [] image = ⊥
SomeLeaves (cells ∷ more) image = AfterStop cells image ⊎ SomeLeaves more image

-- a stop at some moment since that one may have left this image
abbrev pub StoppedSince : ℕ → DiskState → List Sector → Type 0
StoppedSince since disk image = SomeLeaves (take (length (moments disk) - since) (moments disk)) image

-- From the moment of `old` to that of `new`, both of them too, a stop leaves only images with P.
pub record LeavesOnly (old new : DiskState) (P : List Sector → Type 0) : Type 0 where
  pub between : List (List Cell)
  pub joined : moments new ≡ between ++ moments old
  pub first : Leaves P old.cells
  pub each : AllByRecursion (Leaves P) between

-- the images are the same outside n sectors from `at` on
pub record SameOutside (at n : ℕ) (old new : List Sector) : Type 0 where
  pub same_length : length new ≡ length old
  pub below : (i : ℕ) → i < at → sector_at new i ≡ sector_at old i
  pub above : (i : ℕ) → at + n ≤ i → sector_at new i ≡ sector_at old i

-- outside n sectors from `at` on the image is one that a stop might have left before
abbrev pub IsFrom : ℕ → ℕ → List Cell → List Sector → Type 0
IsFrom at n cells image = (before : List Sector) × AfterStop cells before × SameOutside at n before image

-- From the moment of `old` to that of `new` a stop changes nothing outside n sectors from `at` on.
abbrev pub LeavesOutside : ℕ → ℕ → DiskState → DiskState → Type 0
LeavesOutside at n old new = LeavesOnly old new (IsFrom at n old.cells)

-- an image with sectors of these values in the places from `at` on, each by itself or not
pub record PartlyOverlaid (at : ℕ) (values old new : List Sector) : Type 0 where
  pub same_length : length new ≡ length old
  pub below : (i : ℕ) → i < at → sector_at new i ≡ sector_at old i
  pub above : (i : ℕ) → at + length values ≤ i → sector_at new i ≡ sector_at old i
  pub inside : (i : ℕ) → i < length values → (sector_at new (at + i) ≡ sector_at old (at + i)) ⊎ (sector_at new (at + i) ≡ sector_at values i)
