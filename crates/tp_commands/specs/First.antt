-- Trusted reading: the pool that is served where the image is `mem:` (own).
use Rattle.std.specs.Prelude.{◌≡◌, ℕ}
use Rattle.std.specs.FinMap.{empty, insert}
use Rattle.tp_model.specs.Geometry.{Geometry}
use Rattle.tp_model.specs.Pool.{PlainPool}
use Rattle.tp_model.specs.Calls.{new_volume}
use Rattle.tp_image.specs.Fresh.{empty_pool}

abbrev pub first_geometry : Geometry
first_geometry = record { block_sectors = 128; virtual_blocks = 16; metadata_blocks = 2048; data_blocks = 4 }

-- a pool with one volume, of id 0, all of which reads zero
abbrev pub first_pool : Geometry → ℕ → PlainPool
first_pool g meta_used = record (empty_pool g) { volumes = insert empty 0 (new_volume g); meta_used = meta_used }

abbrev pub IsFirst : PlainPool → Type 0
IsFirst s = (meta_used : ℕ) × (s ≡ first_pool first_geometry meta_used)
