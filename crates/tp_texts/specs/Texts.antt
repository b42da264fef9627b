-- Trusted reading: the texts of listings (own; that of a delta is what the extentlist filter of nbdkit reads).
use Rattle.std.specs.Prelude.{ℕ, ◌+◌, ◌-◌, ◌*◌, nat_lt, Bool, if◌then◌else◌, List, [], ◌∷◌, ◌++◌, codes}
use Rattle.std.specs.Fmt.{decimal}
use Rattle.tp_model.specs.Geometry.{Geometry}
use Rattle.tp_listings.specs.declared.extent.Extent.{Extent}
use Rattle.tp_listings.specs.declared.extent.Usage.{Usage}

-- `OFFSET LENGTH` in bytes, of blocks of so many bytes, the first of which stands at `base`
abbrev pub run_text : ℕ → ℕ → ℕ → ℕ → List ℕ
run_text base unit first blocks = decimal (base + first * unit) ++ (codes " " ++ decimal (blocks * unit))

-- a line for each run
abbrev pub runs_text : ℕ → ℕ → List Extent → List ℕ
runs_text base unit [] = []
runs_text base unit (e ∷ es) = run_text base unit e.first e.blocks ++ (codes "\n" ++ runs_text base unit es)

-- a line for the blocks between two places, if there are any, as a hole
abbrev pub hole_text : ℕ → ℕ → ℕ → List ℕ
hole_text unit from end = if nat_lt from end then run_text 0 unit from (end - from) ++ codes " hole\n" else []

-- The runs in which a volume may differ, and the holes between them, in which it does not; together they are its blocks from `from` on up to `end`.
abbrev pub delta_text : ℕ → ℕ → ℕ → List Extent → List ℕ
delta_text unit end from [] = hole_text unit from end
delta_text unit end from (e ∷ es) = hole_text unit from e.first ++ (run_text 0 unit e.first e.blocks ++ (codes "\n" ++ delta_text unit end (e.first + e.blocks) es))

-- `ID SIZE MAPPED EXCLUSIVE`, the sizes in bytes; what is exclusive is not told while a mapping is held
abbrev pub usage_text : ℕ → Bool → Usage → List ℕ
usage_text unit is_held u =
    decimal u.id ++ (codes " " ++ (decimal (u.blocks * unit) ++ (codes " " ++ (decimal (u.mapped * unit) ++ (codes " " ++ ((if is_held then codes "-" else decimal (u.exclusive * unit)) ++ codes "\n"))))))

abbrev pub lines_of : ℕ → Bool → List Usage → List ℕ
lines_of unit is_held [] = []
lines_of unit is_held (u ∷ us) = usage_text unit is_held u ++ lines_of unit is_held us

abbrev pub usages_text : ℕ → Bool → List Usage → List ℕ
usages_text unit is_held us = codes "ID SIZE MAPPED EXCLUSIVE\n" ++ lines_of unit is_held us

-- the four sizes of a pool, as `format` takes them
abbrev pub sizes_text : Geometry → List ℕ
sizes_text g = decimal g.block_sectors ++ (codes " " ++ (decimal g.virtual_blocks ++ (codes " " ++ (decimal g.metadata_blocks ++ (codes " " ++ (decimal g.data_blocks ++ codes "\n"))))))
