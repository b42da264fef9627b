-- Internal: a request of the program as a call of a pool.
use Rattle.std.specs.Prelude.{◌≡◌, ℕ, Bool, false, not, ◌&&◌, ◌||◌, List, length}
use Rattle.tp_model.specs.Geometry.{Geometry}
use Rattle.tp_model.specs.Sectors.{Sector}
use Rattle.tp_model.specs.Calls as calls
use Rattle.tp_model.specs.Calls.{Call}
use Rattle.tp_plain.specs.declared.room.Change.{Change}
use Rattle.tp_plain.specs.declared.room.Change.TheVariants.{Write, Trim, WriteZeroes}

abbrev pub first_of_change : Change → ℕ
first_of_change (Write sector count) = sector
first_of_change (Trim sector count) = sector
first_of_change (WriteZeroes sector count no_hole) = sector

abbrev pub count_of_change : Change → ℕ
count_of_change (Write sector count) = count
count_of_change (Trim sector count) = count
count_of_change (WriteZeroes sector count no_hole) = count

-- the call of a pool, on this volume, that the request is; of the sectors that a WRITE has only their number matters
abbrev pub IsCall : ℕ → Change → Call → Type 0
IsCall id (Write sector count) call = (sectors : List Sector) × (fua : Bool) × (length sectors ≡ count) × (call ≡ calls.Write id sector sectors fua)
IsCall id (Trim sector count) call = (fua : Bool) × (call ≡ calls.Trim id sector count fua)
IsCall id (WriteZeroes sector count no_hole) call = (fua : Bool) × (call ≡ calls.WriteZeroes id sector count no_hole fua)

abbrev pub blocks_of : ℕ → Geometry
blocks_of n = record { block_sectors = n; virtual_blocks = 0; metadata_blocks = 0; data_blocks = 0 }

-- the request leaves the block, in blocks of n sectors, a data block of its own
abbrev pub takes_slot : Change → ℕ → ℕ → Bool → Bool
takes_slot (Write sector count) n block is_mapped = calls.touches (blocks_of n) sector count block
takes_slot (Trim sector count) n block is_mapped = false
takes_slot (WriteZeroes sector count no_hole) n block is_mapped =
    calls.touches (blocks_of n) sector count block && (no_hole || (is_mapped && not (calls.covers (blocks_of n) sector count block)))
