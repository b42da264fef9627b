-- Internal: what a read of the pool finds (own).
use Rattle.std.specs.Prelude.{◌≡◌, ℕ, ◌+◌, ◌-◌, ◌/◌, ◌<◌, Bool, IsTrue, true, false, if◌then◌else◌, List, slice_index_or, Option, None, Some}
use Rattle.tp_model.specs.Geometry.{Geometry}
use Rattle.tp_model.specs.Pool.{copy_id}
use Rattle.tp_model.specs.Calls.{touches}
use Rattle.tp_sharing.specs.Volumes.{Volumes, slot_of}
use Rattle.tp_meta.specs.declared.metadata.Home.{Home}
use Rattle.tp_pool.specs.declared.together.Purpose.{Purpose}
use Rattle.tp_pool.specs.declared.together.Purpose.TheVariants as purpose
use Rattle.tp_pool.specs.Writing.{old_place, own_place}

-- the id in the lists of what is read: a volume, or its held copy
abbrev pub id_read : Bool → ℕ → ℕ
id_read is_copy id = if is_copy then copy_id id else id

-- what is told of a block of a held copy, which nobody writes
abbrev pub copied_home : Option ℕ → Option Home
copied_home None = None
copied_home (Some place) = Some (record { place = place; is_shared = true; is_hot = false })

-- which data blocks n virtual blocks from this one on have
abbrev pub ArePlaced : ℕ → ℕ → Volumes → ℕ → List (Option Home) → Type 0
ArePlaced id first volumes n homes = (i : ℕ) → i < n → slot_of id (first + i) volumes ≡ old_place (slice_index_or homes i None)

-- the data block that serves a purpose
abbrev pub place_for : Purpose → Option Home → Option ℕ
place_for purpose.Reading home = old_place home
place_for purpose.Overwriting home = own_place home

-- The n sectors from this one on lie in blocks that have no data block, or whose data blocks follow one another from this one on.
abbrev pub IsRun : Geometry → ℕ → ℕ → ℕ → Volumes → Option ℕ → Type 0
IsRun g id sector n volumes None = (block : ℕ) → IsTrue (touches g sector n block) → slot_of id block volumes ≡ None
IsRun g id sector n volumes (Some place) = (block : ℕ) → IsTrue (touches g sector n block) → slot_of id block volumes ≡ Some (place + (block - sector / g.block_sectors))
