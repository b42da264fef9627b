-- Zeros by sectors.
use Rattle.std.proofs.Common.{◌≡◌, ℕ, zero, suc, ◌++◌, length, replicate, ap, ◌∙◌, refl}
use Rattle.std.specs.List.{AllByRecursion, concat, flat_map}
use Rattle.tp_model.specs.Sectors.{Sector, sectors_of, zero_sector}
use Rattle.tp_model.proofs.DiskLaws.{sectors_of-concat}
use Rattle.tp_model.proofs.Shape.{length-zero_sector}

all_whole : (n : ℕ) → AllByRecursion (λ (value : Sector). length value ≡ 512) (replicate n zero_sector)
all_whole zero = tt
all_whole (suc n) = (length-zero_sector, all_whole n)

rows : (n : ℕ) → flat_map (λ (x : Sector). x) (replicate n zero_sector) ≡ concat (replicate n zero_sector)
rows zero = refl
rows (suc n) = ap (λ rest. zero_sector ++ rest) (rows n)

-- rows of zeros are sectors that are zero
pub rows_are : (n : ℕ) → sectors_of (flat_map (λ (x : Sector). x) (replicate n zero_sector)) ≡ replicate n zero_sector
rows_are n = ap sectors_of (rows n) ∙ sectors_of-concat (replicate n zero_sector) (all_whole n)
