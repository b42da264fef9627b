-- Trusted reading: how long the metadata room of a pool lasts (own).
use Rattle.std.specs.Prelude.{◌≡◌, ◌≢◌, ℕ, ◌+◌, ◌≤◌}
use Rattle.tp_model.specs.declared.refusal.Refusal.TheVariants.{NoMetadataSpace}
use Rattle.tp_model.specs.Pool.{PlainPool}
use Rattle.tp_model.specs.Calls.{Call, CreateSnap, CreateThin, Grow, Refused, ReserveMetadataSnap, Trim, Write, WriteZeroes}
use Rattle.tp_model.specs.Clauses.{Entry}
use Rattle.tp_image.specs.Bound.{mapped_in, metadata_bound}

-- so many metadata blocks a call wants to be free
abbrev pub metadata_wanted : Call → ℕ
metadata_wanted (Write id sector sectors fua) = 512
metadata_wanted (WriteZeroes id sector count no_hole fua) = 512
metadata_wanted (Trim id sector count fua) = 256
metadata_wanted (CreateThin id) = 512
metadata_wanted (CreateSnap id origin) = 512
metadata_wanted (Grow id blocks) = 512
metadata_wanted ReserveMetadataSnap = 512
metadata_wanted call = 0

-- No root is held, and beside the most blocks that its volumes may use, the metadata of the pool have as many as the call wants.
abbrev pub BoundLeavesRoom : PlainPool → Call → Type 0
BoundLeavesRoom s call = (s.held_root ≡ 0) × (metadata_bound s.geometry (mapped_in s) + metadata_wanted call ≤ s.geometry.metadata_blocks)

-- an event of a trace that is no want of metadata room while the bound leaves as many blocks as its call wants
abbrev pub IsNotShort : Entry → Type 0
IsNotShort x = BoundLeavesRoom x.event.before x.event.call → x.event.answer ≢ Refused NoMetadataSpace
