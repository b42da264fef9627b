-- Internal: what a read in a thread of its own brings (own).
use Rattle.std.specs.Prelude.{◌≡◌, ◌<◌, length}
use Rattle.tp_hub.specs.Streams.{GivesSome}
use Rattle.tp_lock.specs.Framing.{Framed, given, passed}
use Rattle.tp_crowd.specs.declared.fetching.Fetched.{Fetched}

-- a buffer with room, and what was read stands in it; the frames are followed over that
abbrev pub IsFetched : Framed → Fetched → Type 0
IsFetched before f = GivesSome f.received (length f.bytes.items) × (0 < length f.bytes.items) × (f.frames ≡ passed before (given f.received f.bytes.items))
