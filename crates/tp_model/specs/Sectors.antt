-- Trusted reading: sectors: the unit of disks and volumes, and bytes as sectors (the kernel's 512 bytes).
use Rattle.std.specs.Prelude.{ℕ, zero, suc, ◌/◌, List, [], ◌∷◌, length, take, drop, replicate, slice_index_or}
use Rattle.std.specs.List.{concat}

-- the bytes of one sector, 512 of them
abbrev pub Sector : Type 0
Sector = List ℕ

unfoldable pub zero_sector : Sector
zero_sector = replicate 512 0

-- the first n sectors of some bytes
unfoldable pub chopped : ℕ → List ℕ → List Sector
chopped zero bytes = []
chopped (suc n) bytes = take 512 bytes ∷ chopped n (drop 512 bytes)

-- the sectors of bytes whose length is a multiple of 512
abbrev pub sectors_of : List ℕ → List Sector
sectors_of bytes = chopped (length bytes / 512) bytes

-- a sector of an image; past the end, no bytes
abbrev pub sector_at : List Sector → ℕ → Sector
sector_at image i = slice_index_or image i []

-- the bytes of n sectors from `at` on
abbrev pub bytes_at : List Sector → ℕ → ℕ → List ℕ
bytes_at image at n = concat (take n (drop at image))

-- an image with these sectors from `at` on
unfoldable pub overlaid : ℕ → List Sector → List Sector → List Sector
overlaid zero [] image = image
overlaid zero (value ∷ values) [] = []
overlaid zero (value ∷ values) (sector ∷ image) = value ∷ overlaid zero values image
overlaid (suc at) values [] = []
overlaid (suc at) values (sector ∷ image) = sector ∷ overlaid at values image
