-- Trusted reading: the listings as JSON (own; compact_text, which spells a value without a space, and read, which is what a text says, are those of serde_json).
use Rattle.std.specs.Prelude.{◌≡◌, ℕ, ◌+◌, ◌-◌, ◌*◌, ◌^◌, ◌<◌, ◌≤◌, nat_lt, Bool, true, false, if◌then◌else◌, Some, List, [], ◌∷◌, codes}
use Rattle.tp_listings.specs.declared.extent.Extent.{Extent}
use Rattle.tp_listings.specs.declared.extent.Usage.{Usage}
use Rattle.serde_json.specs.Data.{Data, Items, Members, array, boolean, item, member, no_items, no_members, null, number, object, unsigned}
use Rattle.serde_json.specs.Read.{read}
use Rattle.serde_json.specs.Written.{compact_text}

-- ---- runs

-- an object of a run, in bytes, of blocks of so many bytes, the first of which stands at `base`
abbrev pub run_data : ℕ → ℕ → ℕ → ℕ → Data
run_data base unit first blocks = object (member (codes "length") (number (unsigned (blocks * unit))) (member (codes "offset") (number (unsigned (base + first * unit))) no_members))

abbrev pub runs_items : ℕ → ℕ → List Extent → Items
runs_items base unit [] = no_items
runs_items base unit (e ∷ es) = item (run_data base unit e.first e.blocks) (runs_items base unit es)

abbrev pub runs_json : ℕ → ℕ → List Extent → List ℕ
runs_json base unit es = compact_text (array (runs_items base unit es))

-- ---- where two volumes may differ

abbrev pub part_data : ℕ → Bool → ℕ → ℕ → Data
part_data unit is_data first blocks =
    object (member (codes "data") (boolean is_data) (member (codes "length") (number (unsigned (blocks * unit))) (member (codes "offset") (number (unsigned (first * unit))) no_members)))

-- in front of others the blocks between two places, if there are any, as a hole
abbrev pub behind_hole : ℕ → ℕ → ℕ → Items → Items
behind_hole unit from end others = if nat_lt from end then item (part_data unit false from (end - from)) others else others

-- The runs in which a volume may differ, and the holes between them, in which it does not; together they are its blocks from `from` on up to `end`.
abbrev pub delta_items : ℕ → ℕ → ℕ → List Extent → Items
delta_items unit end from [] = behind_hole unit from end no_items
delta_items unit end from (e ∷ es) = behind_hole unit from e.first (item (part_data unit true e.first e.blocks) (delta_items unit end (e.first + e.blocks) es))

abbrev pub delta_json : ℕ → ℕ → List Extent → List ℕ
delta_json unit end es = compact_text (array (delta_items unit end 0 es))

-- ---- what each volume has

-- what is exclusive is not told while a mapping is held
abbrev pub exclusive_data : ℕ → Bool → ℕ → Data
exclusive_data unit true exclusive = null
exclusive_data unit false exclusive = number (unsigned (exclusive * unit))

abbrev pub sizes_data : ℕ → Usage → Members
sizes_data unit u = member (codes "mapped") (number (unsigned (u.mapped * unit))) (member (codes "size") (number (unsigned (u.blocks * unit))) no_members)

abbrev pub usage_data : ℕ → Bool → Usage → Data
usage_data unit is_held u = object (member (codes "exclusive") (exclusive_data unit is_held u.exclusive) (member (codes "id") (number (unsigned u.id)) (sizes_data unit u)))

abbrev pub usages_items : ℕ → Bool → List Usage → Items
usages_items unit is_held [] = no_items
usages_items unit is_held (u ∷ us) = item (usage_data unit is_held u) (usages_items unit is_held us)

abbrev pub usages_json : ℕ → Bool → List Usage → List ℕ
usages_json unit is_held us = compact_text (array (usages_items unit is_held us))

-- ---- the texts read back as what was listed, with numbers as the program has them: 32 bits, a unit of 1 MiB at most

abbrev pub ExtentsFit : List Extent → Type 0
ExtentsFit [] = Unit {0}
ExtentsFit (e ∷ es) = (e.first < 2 ^ 32) × (e.blocks < 2 ^ 32) × ExtentsFit es

abbrev pub RunsReadBack : Type 0
RunsReadBack = (base unit : ℕ) (es : List Extent) → base ≤ 2 ^ 40 → unit ≤ 1048576 → ExtentsFit es → read (runs_json base unit es) ≡ Some (array (runs_items base unit es))

abbrev pub DeltaReadsBack : Type 0
DeltaReadsBack = (unit end : ℕ) (es : List Extent) → unit ≤ 1048576 → end < 2 ^ 32 → ExtentsFit es → read (delta_json unit end es) ≡ Some (array (delta_items unit end 0 es))

abbrev pub UsagesFit : List Usage → Type 0
UsagesFit [] = Unit {0}
UsagesFit (u ∷ us) = (u.id < 2 ^ 32) × (u.blocks < 2 ^ 32) × (u.mapped < 2 ^ 32) × (u.exclusive < 2 ^ 32) × UsagesFit us

abbrev pub UsagesReadBack : Type 0
UsagesReadBack = (unit : ℕ) (is_held : Bool) (us : List Usage) → unit ≤ 1048576 → UsagesFit us → read (usages_json unit is_held us) ≡ Some (array (usages_items unit is_held us))
