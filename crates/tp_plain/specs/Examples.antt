-- Internal: small pools on which the definitions are tried: blocks of two sectors, two blocks a volume.
use Rattle.std.specs.Prelude.{ℕ, Bool, false, [], ◌∷◌, Option}
use Rattle.std.specs.Ordering.{nat_cmp}
use Rattle.std.specs.FinMap.{FinMap, empty, insert}
use Rattle.tp_model.specs.declared.mode.Mode.TheVariants as mode
use Rattle.tp_model.specs.declared.refusal.NbdError.{NbdError}
use Rattle.tp_model.specs.Geometry.{Geometry}
use Rattle.tp_model.specs.Sectors.{Sector, zero_sector}
use Rattle.tp_model.specs.Pool.{Volume, PlainPool, copy_id}
use Rattle.tp_model.specs.Calls.{WriteZeroes, Call, Write, Trim, new_volume}
use Rattle.tp_model.specs.PoolStops.{Given}
use Rattle.tp_model.specs.Requests.{form_error}

-- blocks of two sectors, volumes of two blocks
abbrev pub with_data : ℕ → Geometry
with_data n = record { block_sectors = 2; virtual_blocks = 2; metadata_blocks = 2048; data_blocks = n }

-- sectors of one value, short for the eye
abbrev pub z : Sector
z = zero_sector

abbrev pub a : Sector
a = 97 ∷ []

abbrev pub b : Sector
b = 98 ∷ []

abbrev pub c : Sector
c = 99 ∷ []

-- a writable pool of n data blocks that nobody holds, with these volumes
abbrev pub pool : ℕ → ℕ → FinMap nat_cmp Volume → PlainPool
pool n meta volumes = record { geometry = with_data n; volumes = volumes; held_root = 0; transaction_id = 0; needs_check = false; mode = mode.Writable; holds = empty; meta_used = meta }

-- ---- an empty pool, and a first volume

abbrev pub formatted : PlainPool
formatted = pool 4 9 empty

abbrev pub thin : PlainPool
thin = pool 4 10 (insert empty 0 (new_volume (with_data 4)))

-- ---- a write of two sectors across the end of a block takes two data blocks, whose rest is zero

abbrev pub across : Call
across = Write 0 1 (a ∷ a ∷ []) false

abbrev pub wrote_across : PlainPool
wrote_across = pool 4 10 (insert (insert empty 0 (new_volume (with_data 4))) 0
    (record { sectors = z ∷ a ∷ a ∷ z ∷ []; slots = insert (insert empty 0 5) 1 6 }))

-- ---- the pool is full: a snapshot's origin has no room for a copy, until the snapshot is gone

abbrev pub two_blocks : Volume
two_blocks = record { sectors = a ∷ a ∷ a ∷ a ∷ []; slots = insert (insert empty 0 0) 1 1 }

abbrev pub full : PlainPool
full = pool 2 10 (insert empty 0 two_blocks)

abbrev pub snapped : PlainPool
snapped = pool 2 10 (insert (insert empty 0 two_blocks) 1 two_blocks)

abbrev pub overwrite : Call
overwrite = Write 0 0 (b ∷ b ∷ []) false

abbrev pub rewritten : PlainPool
rewritten = pool 2 10 (insert (insert empty 0 two_blocks) 0 (record { sectors = b ∷ b ∷ a ∷ a ∷ []; slots = insert (insert empty 0 0) 1 1 }))

-- ---- what was shared is written on both sides

abbrev pub first_block : Volume
first_block = record { sectors = a ∷ a ∷ z ∷ z ∷ []; slots = insert empty 0 0 }

abbrev pub shared_block : PlainPool
shared_block = pool 2 10 (insert (insert empty 0 first_block) 1 first_block)

abbrev pub origin_written : PlainPool
origin_written = pool 2 11 (insert (insert (insert empty 0 first_block) 1 first_block) 0 (record { sectors = b ∷ b ∷ z ∷ z ∷ []; slots = insert empty 0 1 }))

abbrev pub both_written : PlainPool
both_written = pool 2 11 (insert (insert (insert (insert empty 0 first_block) 1 first_block) 0 (record { sectors = b ∷ b ∷ z ∷ z ∷ []; slots = insert empty 0 1 }))
    1 (record { sectors = c ∷ c ∷ z ∷ z ∷ []; slots = insert empty 0 0 }))

-- ---- a trim from the middle of a block keeps that block and unmaps the next

abbrev pub trim : Call
trim = Trim 0 1 3 false

abbrev pub trimmed : PlainPool
trimmed = pool 2 10 (insert (insert empty 0 two_blocks) 0 (record { sectors = a ∷ a ∷ z ∷ z ∷ []; slots = insert empty 0 0 }))

-- ---- want of metadata room

abbrev pub nearly_full : PlainPool
nearly_full = record formatted { meta_used = 1537 }

-- ---- a transaction id, and a request of length 0

abbrev pub sevened : PlainPool
sevened = record formatted { transaction_id = 7 }

-- ---- a stop: a block of its own may have a new value, a shared one has not

abbrev pub kept_own : PlainPool
kept_own = pool 4 10 (insert empty 0 first_block)

abbrev pub found_new : PlainPool
found_new = pool 4 10 (insert empty 0 (record { sectors = b ∷ a ∷ z ∷ z ∷ []; slots = insert empty 0 0 }))

abbrev pub overwritten : ℕ → ℕ → Sector → Type 0
overwritten id k x = Given kept_own overwrite id k x

-- ---- requests on the wire, to a volume of 1048576 bytes

abbrev pub on_wire : ℕ → ℕ → ℕ → Option NbdError
on_wire kind offset bytes = form_error 1048576 (record { kind = kind; flags = 0; offset = offset; bytes = bytes })

-- ---- more

abbrev pub thin_and_snapshot : PlainPool
thin_and_snapshot = pool 4 10 (insert (insert empty 0 (new_volume (with_data 4))) 1 (new_volume (with_data 4)))

-- zeros from the second sector of the first block to the end of the second block, with and without leaving a hole
abbrev pub zeroes : Bool → Call
zeroes no_hole = WriteZeroes 0 1 3 no_hole false

abbrev pub zeroed_with_hole : PlainPool
zeroed_with_hole = pool 2 10 (insert (insert empty 0 two_blocks) 0 (record { sectors = a ∷ z ∷ z ∷ z ∷ []; slots = insert empty 0 0 }))

abbrev pub zeroed_whole : PlainPool
zeroed_whole = pool 2 10 (insert (insert empty 0 two_blocks) 0 (record { sectors = a ∷ z ∷ z ∷ z ∷ []; slots = insert (insert empty 0 0) 1 1 }))

-- ---- a volume grows from two blocks to four: what it has stays, and the rest is zero

abbrev pub grown_own : PlainPool
grown_own = pool 4 11 (insert (insert empty 0 first_block) 0 (record { sectors = a ∷ a ∷ z ∷ z ∷ z ∷ z ∷ z ∷ z ∷ []; slots = insert empty 0 0 }))

-- what no growth leaves: a new block shows what a data block held before
abbrev pub shows_old_data : PlainPool
shows_old_data = pool 4 11 (insert (insert empty 0 first_block) 0 (record { sectors = a ∷ a ∷ z ∷ z ∷ b ∷ z ∷ z ∷ z ∷ []; slots = insert empty 0 0 }))

-- grown to the size that it has
abbrev pub as_large : ℕ → PlainPool
as_large n = record kept_own { volumes = insert (insert empty 0 first_block) 0 first_block; meta_used = n }

abbrev pub held_own : PlainPool
held_own = record kept_own { holds = insert empty 0 1 }

-- ---- a root is held: the copies stand behind the volumes, with their blocks, and what is written since is written elsewhere

abbrev pub reserved : PlainPool
reserved = record kept_own { volumes = insert (insert empty 0 first_block) (copy_id 0) first_block; held_root = 8 }

abbrev pub written_since : PlainPool
written_since = record reserved { volumes = insert reserved.volumes 0 (record { sectors = b ∷ b ∷ z ∷ z ∷ []; slots = insert empty 0 1 }); meta_used = 12 }

-- what no write leaves: the held copy's block was written in place
abbrev pub written_in_place : PlainPool
written_in_place = record reserved { volumes = insert reserved.volumes 0 (record { sectors = b ∷ b ∷ z ∷ z ∷ []; slots = insert empty 0 0 }); meta_used = 12 }

abbrev pub released : PlainPool
released = pool 4 12 (insert (insert empty 0 first_block) 0 (record { sectors = b ∷ b ∷ z ∷ z ∷ []; slots = insert empty 0 1 }))
