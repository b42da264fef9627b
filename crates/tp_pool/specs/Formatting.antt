-- Trusted reading: what a stop leaves while a pool is formatted over another one, in words of pools (own).
use Rattle.std.specs.Prelude.{◌⊎◌, List}
use Rattle.tp_model.specs.Geometry.{Geometry}
use Rattle.tp_model.specs.Sectors.{Sector}
use Rattle.tp_model.specs.Pool.{PlainPool}
use Rattle.tp_image.specs.Fresh.{empty_pool}
use Rattle.tp_image.specs.Stands.{StandsFor}
use Rattle.tp_meta.specs.Format.{IsNoPool}
use Rattle.tp_pool.specs.Held.{IsPool}

-- the old pool, no pool, or the new one without volumes; each pool in an image of a commit, so it can be opened
abbrev pub IsBetween : Geometry → PlainPool → Geometry → List Sector → Type 0
IsBetween g s made image = (IsPool g image × StandsFor image s) ⊎ IsNoPool image ⊎ (IsPool made image × StandsFor image (empty_pool made))
