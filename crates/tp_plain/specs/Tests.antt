-- Internal: the tests of calls over what they look at.
use Rattle.std.specs.Prelude.{◌≡◌, ℕ, ◌-◌, ◌==◌, Bool, true, not, ◌&&◌, ◌||◌, List, [], ◌∷◌, length, Option, Some, nat_lt, nat_le, if◌then◌else◌}
use Rattle.tp_model.specs.declared.mode.Mode.{Mode}
use Rattle.tp_model.specs.declared.mode.Mode.TheVariants as mode
use Rattle.tp_model.specs.declared.refusal.Refusal.{Refusal}
use Rattle.tp_model.specs.declared.refusal.Refusal.TheVariants as refusals
use Rattle.tp_model.specs.Sectors.{Sector}
use Rattle.tp_model.specs.Pool.{PlainPool, device_count, hold_count}
use Rattle.tp_model.specs.Calls as calls
use Rattle.tp_model.specs.Calls.{Call, first_failed, is_failed, exists, has_copy, has_data_room, volume_blocks}
use Rattle.tp_plain.specs.declared.tests_of_calls.Asked.{Asked}
use Rattle.tp_plain.specs.declared.tests_of_calls.Asked.TheVariants.{Read, Write, Trim, WriteZeroes, Flush, CreateThin, CreateSnap, Delete, SetTransactionId, Grow, Hold, VolumeBlocks, Walk, HeldRead, ReserveMetadataSnap, ReleaseMetadataSnap}
use Rattle.tp_plain.specs.declared.tests_of_calls.Facts.{Facts}

-- the call of a pool, on this volume, that is asked
abbrev pub Asks : PlainPool → ℕ → Asked → Call → Type 0
Asks p id Read call = (sector : ℕ) × (count : ℕ) × (call ≡ calls.Read id sector count)
Asks p id (Write n) call = (sector : ℕ) × (sectors : List Sector) × (fua : Bool) × (length sectors ≡ n) × (call ≡ calls.Write id sector sectors fua)
Asks p id (Trim n) call = (sector : ℕ) × (fua : Bool) × (call ≡ calls.Trim id sector n fua)
Asks p id (WriteZeroes n) call = (sector : ℕ) × (no_hole : Bool) × (fua : Bool) × (call ≡ calls.WriteZeroes id sector n no_hole fua)
Asks p id Flush call = call ≡ calls.Flush
Asks p id CreateThin call = call ≡ calls.CreateThin id
Asks p id (CreateSnap origin_exists) call = (origin : ℕ) × (exists p origin ≡ origin_exists) × (call ≡ calls.CreateSnap id origin)
Asks p id (Delete is_held) call = (nat_lt 0 (hold_count p.holds id) ≡ is_held) × (call ≡ calls.Delete id)
Asks p id (SetTransactionId current) call = (next : ℕ) × (call ≡ calls.SetTransactionId current next)
Asks p id (Grow is_held blocks) call = (nat_lt 0 (hold_count p.holds id) ≡ is_held) × (call ≡ calls.Grow id blocks)
Asks p id Hold call = call ≡ calls.Hold id
Asks p id VolumeBlocks call = call ≡ calls.VolumeBlocks id
Asks p id Walk call = (from : ℕ) × (call ≡ calls.Walk id from)
Asks p id HeldRead call = (sector : ℕ) × (count : ℕ) × (call ≡ calls.HeldRead id sector count)
Asks p id ReserveMetadataSnap call = call ≡ calls.ReserveMetadataSnap
Asks p id ReleaseMetadataSnap call = call ≡ calls.ReleaseMetadataSnap

pub record IsTrueOf (facts : Facts) (p : PlainPool) (id : ℕ) (call : Call) : Type 0 where
  pub mode : p.mode ≡ facts.mode
  pub exists_is : exists p id ≡ facts.exists
  pub blocks : volume_blocks p id ≡ facts.blocks
  pub devices : device_count p ≡ facts.devices
  pub free_metadata : p.geometry.metadata_blocks - p.meta_used ≡ facts.free_metadata
  pub has_room : has_data_room p call id ≡ facts.has_data_room
  pub transaction_id : p.transaction_id ≡ facts.transaction_id
  pub is_held : not (p.held_root == 0) ≡ facts.is_held
  pub has_copy_is : has_copy p id ≡ facts.has_copy

abbrev pub request_refusal : Facts → ℕ → ℕ → Bool → Option Refusal
request_refusal f sectors least has_room = first_failed (
    (is_failed f.mode, refusals.Failed)
    ∷ (not f.exists, refusals.NoSuchDevice)
    ∷ (calls.is_read_only f.mode, refusals.ReadOnly)
    ∷ (nat_lt 0 sectors && not (nat_le least f.free_metadata), refusals.NoMetadataSpace)
    ∷ (not has_room, refusals.NoDataSpace) ∷ [])

abbrev pub message_refusal : Mode → Option Refusal → Option Refusal
message_refusal mode.Failed own = Some refusals.Failed
message_refusal mode.ReadOnly own = Some refusals.ReadOnly
message_refusal mode.Writable own = own

abbrev pub creation_refusal : Facts → Option Refusal
creation_refusal f = first_failed (
    (f.exists, refusals.Exists)
    ∷ (nat_le 65536 f.devices, refusals.TooManyDevices)
    ∷ (not (nat_le 512 f.free_metadata), refusals.NoMetadataSpace) ∷ [])

abbrev pub deletion_refusal : Facts → Bool → Option Refusal
deletion_refusal f is_held = first_failed (
    (not f.exists, refusals.NoSuchDevice)
    ∷ (is_held, refusals.Busy)
    ∷ (f.is_held && not (nat_le 256 f.free_metadata), refusals.NoMetadataSpace) ∷ [])

abbrev pub growth_refusal : Facts → Bool → ℕ → Option Refusal
growth_refusal f is_held blocks = first_failed (
    (not f.exists, refusals.NoSuchDevice)
    ∷ (is_held, refusals.Busy)
    ∷ (nat_lt blocks f.blocks || nat_lt 16777216 blocks, refusals.BadSize)
    ∷ (not (nat_le 512 f.free_metadata), refusals.NoMetadataSpace) ∷ [])

abbrev pub read_refusal : Facts → Option Refusal
read_refusal f = first_failed ((is_failed f.mode, refusals.Failed) ∷ (not f.exists, refusals.NoSuchDevice) ∷ [])

abbrev pub held_refusal : Facts → Option Refusal
held_refusal f = first_failed ((is_failed f.mode, refusals.Failed) ∷ (not f.is_held, refusals.NoHeldRoot) ∷ (not f.has_copy, refusals.NoSuchDevice) ∷ [])

abbrev pub reserve_refusal : Facts → Option Refusal
reserve_refusal f = first_failed ((f.is_held, refusals.HeldRootExists) ∷ (not (nat_le 512 f.free_metadata), refusals.NoMetadataSpace) ∷ [])

abbrev pub release_refusal : Facts → Option Refusal
release_refusal f = first_failed ((not f.is_held, refusals.NoHeldRoot) ∷ [])

abbrev pub refusal_by : Facts → Asked → Option Refusal
refusal_by f Read = read_refusal f
refusal_by f (Write n) = request_refusal f n 512 f.has_data_room
refusal_by f (Trim n) = request_refusal f n 256 true
refusal_by f (WriteZeroes n) = request_refusal f n 512 f.has_data_room
refusal_by f Flush = first_failed ((is_failed f.mode, refusals.Failed) ∷ [])
refusal_by f CreateThin = message_refusal f.mode (creation_refusal f)
refusal_by f (CreateSnap origin_exists) = message_refusal f.mode (if origin_exists then creation_refusal f else Some refusals.NoSuchDevice)
refusal_by f (Delete is_held) = message_refusal f.mode (deletion_refusal f is_held)
refusal_by f (SetTransactionId current) = message_refusal f.mode (first_failed ((not (current == f.transaction_id), refusals.StaleTransactionId) ∷ []))
refusal_by f (Grow is_held blocks) = message_refusal f.mode (growth_refusal f is_held blocks)
refusal_by f Hold = read_refusal f
refusal_by f VolumeBlocks = read_refusal f
refusal_by f Walk = read_refusal f
refusal_by f HeldRead = held_refusal f
refusal_by f ReserveMetadataSnap = message_refusal f.mode (reserve_refusal f)
refusal_by f ReleaseMetadataSnap = message_refusal f.mode (release_refusal f)
