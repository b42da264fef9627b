-- Internal: what is known of images over files.
use Rattle.std.specs.Prelude.{◌≡◌, List, ℕ, false}
use Rattle.tp_model.specs.Disk.{DiskState}
use Rattle.tp_images.specs.Deeds.{Closes, Deed}

-- a disk that is closed claims nothing of itself
abbrev pub ClaimsNothing : Deed → Type 0
ClaimsNothing deed = (name : List ℕ) (disk : DiskState) → deed ≡ Closes name disk → disk.is_honest ≡ false
