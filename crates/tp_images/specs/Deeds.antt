-- Trusted reading: what was asked of images by name and what was answered, and what is done with the image of a name (own).
use Rattle.std.specs.Prelude.{◌≡◌, IsTrue, List, [], ◌∷◌, ℕ, Option, None, Some, Result, MatchResult, bytes_eq, if◌then◌else◌}
use Rattle.std.specs.List.{AllByRecursion}
use Rattle.tp_model.specs.Disk.{DiskState, seen}
use Rattle.tp_model.specs.DiskStops.{AfterStop}
use Rattle.tp_disk.specs.HandedOut.{IsHandedOut}
use Rattle.tp_images.specs.declared.way.Way.{Way}
use Rattle.tp_images.specs.declared.way.Way.TheVariants.{ToWrite, ToRead, ToMake}

-- What became of a call by name: the image was opened as a disk, or refused; or it was closed as the disk that was given back.
pub data Deed : Type 0 where
  Opens : (way : Way) (name : List ℕ) (disk : DiskState) → Deed
  Refuses : (way : Way) (name : List ℕ) → Deed
  Closes : (name : List ℕ) (disk : DiskState) → Deed

-- where an image was opened, its disk is honest
abbrev pub IsHonest : Deed → Type 0
IsHonest (Opens way name disk) = IsTrue disk.is_honest
IsHonest (Refuses way name) = Unit {0}
IsHonest (Closes name disk) = Unit {0}

-- each disk that was handed out is honest
abbrev pub AreHonest : List Deed → Type 0
AreHonest deeds = AllByRecursion IsHonest deeds

-- The disk as which the image of a name was closed, where no call may have changed it since. Deeds stand newest first. To make an image may change
-- what was there, also where it is refused.
unfoldable pub left_at : List ℕ → List Deed → Option DiskState
left_at name [] = None
left_at name (Opens way other disk ∷ deeds) = if bytes_eq name other then None else left_at name deeds
left_at name (Refuses ToWrite other ∷ deeds) = left_at name deeds
left_at name (Refuses ToRead other ∷ deeds) = left_at name deeds
left_at name (Refuses ToMake other ∷ deeds) = if bytes_eq name other then None else left_at name deeds
left_at name (Closes other disk ∷ deeds) = if bytes_eq name other then Some disk else left_at name deeds

-- what was closed as one disk and is opened as another: it is as it was then, or as a stop behind that left it
pub record IsLeftBy (closed disk : DiskState) : Type 0 where
  pub honest : IsTrue disk.is_honest
  pub size : disk.size ≡ closed.size
  pub image : AfterStop closed.cells (seen disk.cells)

-- An image that is there keeps what it was closed with, where its disk was honest.
abbrev pub Lasts : Way → List ℕ → List Deed → DiskState → Type 0
Lasts ToMake name deeds disk = Unit {0}
Lasts ToWrite name deeds disk = (closed : DiskState) → left_at name deeds ≡ Some closed → IsTrue closed.is_honest → IsLeftBy closed disk
Lasts ToRead name deeds disk = (closed : DiskState) → left_at name deeds ≡ Some closed → IsTrue closed.is_honest → IsLeftBy closed disk

-- an image is opened, as a disk of which no call was made yet
pub record HandsOut (way : Way) (name : List ℕ) (old new : List Deed) (disk : DiskState) : Type 0 where
  pub deeds : new ≡ Opens way name disk ∷ old
  pub handed_out : IsHandedOut disk
  pub lasts : Lasts way name old disk

-- what a call that is to open an image answers: its disk, or nothing
abbrev pub Answers : {D E : Type 0} → Way → List ℕ → List Deed → List Deed → (D → DiskState) → Result D E → Type 0
Answers way name old new state result = MatchResult result (λ disk. HandsOut way name old new (state disk)) (λ error. new ≡ Refuses way name ∷ old)

-- An image was opened, something was done with its disk, and it was closed with what that left of it; no other call was made.
pub record OnImage (way : Way) (name : List ℕ) (old new : List Deed) (Does : DiskState → DiskState → Type 0) : Type 0 where
  pub before : DiskState
  pub after : DiskState
  pub deeds : new ≡ Closes name after ∷ Opens way name before ∷ old
  pub handed_out : IsHandedOut before
  pub lasts : Lasts way name old before
  pub does : Does before after

-- the image was not opened, and no other call was made
abbrev pub NotOpened : Way → List ℕ → List Deed → List Deed → Type 0
NotOpened way name old new = new ≡ Refuses way name ∷ old
