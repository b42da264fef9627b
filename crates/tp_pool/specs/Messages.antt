-- Internal: how messages are tested, and what they make of what stands (own).
use Rattle.std.specs.Prelude.{◌≡◌, ◌⊎◌, ℕ, ◌||◌, Bool, false, not, List, [], ◌∷◌, ◌++◌, map, Option, None, Some, Result, Ok, Err, IsSome, is_some, nat_le, nat_lt, if◌then◌else◌}
use Rattle.std.specs.FinMap.{insert, remove, retain_keys}
use Rattle.tp_model.specs.declared.refusal.Refusal.{Refusal}
use Rattle.tp_model.specs.declared.refusal.Refusal.TheVariants.{BadSize, Busy, Damaged, Exists, Fault, NoSuchDevice, TooManyDevices}
use Rattle.tp_model.specs.Geometry.{Geometry}
use Rattle.tp_model.specs.Told.{told_blocks}
use Rattle.tp_model.specs.Pool.{PlainPool, Volume, hold_count, is_now}
use Rattle.tp_model.specs.Calls.{Call, CreateSnap, CreateThin, first_failed, grown, is_failure, new_volume, volume_of}
use Rattle.tp_sharing.specs.Volumes.{BlockSlot, Volumes, as_copy, device_of, devices_in, resized, size_of, with_device, without_device}
use Rattle.tp_mapping.specs.Mapping.{size_for, size_or_none, slots_of, without_copies}
use Rattle.tp_stored.specs.Contents.{Contents}
use Rattle.tp_shown.specs.Shown.{own_blocks}
use Rattle.tp_holders.specs.Holders.{Holding, holds_of}

-- a volume without data blocks, or with those of its origin
abbrev pub create_call : ℕ → Option ℕ → Call
create_call id None = CreateThin id
create_call id (Some origin) = CreateSnap id origin

-- it has an origin that is not there
abbrev pub misses_origin : Option ℕ → Contents → Bool
misses_origin None now = false
misses_origin (Some origin) now = not (is_some (device_of origin now.volumes))

-- the tests behind that of the mode and before that of metadata room
abbrev pub new_tests : ℕ → Option ℕ → Contents → Option Refusal
new_tests id origin now = first_failed (
    (misses_origin origin now, NoSuchDevice)
    ∷ (is_some (device_of id now.volumes), Exists)
    ∷ (nat_le 65536 (devices_in now.volumes), TooManyDevices) ∷ [])

-- what these tests and a failure in them refuse it for
abbrev pub RefusesNew : Option ℕ → Refusal → Type 0
RefusesNew origin reason = (reason ≡ Fault) ⊎ (reason ≡ Damaged) ⊎ (reason ≡ Exists) ⊎ (reason ≡ TooManyDevices) ⊎ ((reason ≡ NoSuchDevice) × IsSome origin)

-- it was refused for what a test gives, or for a failure
abbrev pub TestedSo : Result (Unit {0}) Refusal → Option Refusal → Type 0
TestedSo (Ok x) told = told ≡ None
TestedSo (Err reason) told = is_failure reason ≡ false → told ≡ Some reason

-- how many more metadata blocks are in use behind it, at most
abbrev pub blocks_of_new : Option ℕ → ℕ
blocks_of_new None = 8
blocks_of_new (Some origin) = 3

-- and where that is so: of a snapshot, where no root is held
abbrev pub CountsBlocks : Option ℕ → ℕ → Type 0
CountsBlocks None root = Unit {0}
CountsBlocks (Some origin) root = root ≡ 0

abbrev pub slots_from : Option ℕ → Volumes → List BlockSlot
slots_from None volumes = []
slots_from (Some origin) volumes = slots_of origin volumes

-- the size that its record tells
abbrev pub size_from : Option ℕ → Volumes → ℕ
size_from None volumes = 0
size_from (Some origin) volumes = size_or_none volumes origin

-- what it makes of contents, and of a pool
abbrev pub with_new : Contents → ℕ → Option ℕ → ℕ → Contents
with_new now id origin meta_used = record now { volumes = with_device (record { id = id; size = size_from origin now.volumes; slots = slots_from origin now.volumes }) now.volumes; meta_used = meta_used }

abbrev pub volume_from : PlainPool → Option ℕ → Volume
volume_from s None = new_volume s.geometry
volume_from s (Some origin) = volume_of s origin

abbrev pub with_volume : PlainPool → ℕ → Option ℕ → ℕ → PlainPool
with_volume s id origin meta_used = record s { volumes = insert s.volumes id (volume_from s origin); meta_used = meta_used }

-- ---- the removal of a volume

-- the tests behind that of the mode
abbrev pub old_tests : ℕ → List Holding → Contents → Option Refusal
old_tests id holders now = first_failed (
    (not (is_some (device_of id now.volumes)), NoSuchDevice)
    ∷ (nat_lt 0 (hold_count (holds_of holders) id), Busy) ∷ [])

-- what these tests and a failure in them refuse it for
abbrev pub RefusesOld : Refusal → Type 0
RefusesOld reason = (reason ≡ Fault) ⊎ (reason ≡ Damaged) ⊎ (reason ≡ NoSuchDevice) ⊎ (reason ≡ Busy)

-- what it makes of contents, and of a pool
abbrev pub without_contents : Contents → ℕ → ℕ → Contents
without_contents now id meta_used = record now { volumes = without_device id now.volumes; meta_used = meta_used }

abbrev pub without_plain : PlainPool → ℕ → ℕ → PlainPool
without_plain s id meta_used = record s { volumes = remove s.volumes id; meta_used = meta_used }

-- ---- a volume that grows

-- it may not have so many blocks: fewer than it has, or more than a volume may have
abbrev pub is_bad_size : ℕ → ℕ → Bool
is_bad_size present blocks = nat_lt blocks present || nat_lt 16777216 blocks

-- the tests of a volume that is there
abbrev pub size_verdict : Bool → ℕ → ℕ → Result ℕ Refusal
size_verdict is_busy present blocks = if is_busy then Err Busy else (if is_bad_size present blocks then Err BadSize else Ok present)

-- the tests behind that of the mode and before that of metadata room
abbrev pub grown_tests : Geometry → ℕ → ℕ → List Holding → Contents → Option Refusal
grown_tests g id blocks holders now = first_failed (
    (not (is_some (device_of id now.volumes)), NoSuchDevice)
    ∷ (nat_lt 0 (hold_count (holds_of holders) id), Busy)
    ∷ (is_bad_size (own_blocks g now.volumes id) blocks, BadSize) ∷ [])

-- what these tests and a failure in them refuse it for
abbrev pub RefusesGrown : Refusal → Type 0
RefusesGrown reason = (reason ≡ Fault) ⊎ (reason ≡ Damaged) ⊎ (reason ≡ NoSuchDevice) ⊎ (reason ≡ Busy) ⊎ (reason ≡ BadSize)

-- the volume is there, and has so many blocks
abbrev pub HasBlocks : Geometry → ℕ → ℕ → Contents → Type 0
HasBlocks g id present now = (size : ℕ) × (size_of id now.volumes ≡ Some size) × (present ≡ told_blocks g size)

-- it was refused for what a test gives, or for a failure; or the tests passed, and it was told how many blocks it has
abbrev pub SizedSo : Geometry → ℕ → Contents → Result ℕ Refusal → Option Refusal → Type 0
SizedSo g id now (Ok present) told = (told ≡ None) × HasBlocks g id present now
SizedSo g id now (Err reason) told = is_failure reason ≡ false → told ≡ Some reason

-- what it makes of contents, and of a pool
abbrev pub with_blocks : Geometry → Contents → ℕ → ℕ → ℕ → Contents
with_blocks g now id blocks meta_used = record now { volumes = resized id (size_for g blocks) now.volumes; meta_used = meta_used }

abbrev pub with_grown : PlainPool → ℕ → ℕ → ℕ → PlainPool
with_grown s id blocks meta_used = record s { volumes = insert s.volumes id (grown s.geometry blocks (volume_of s id)); meta_used = meta_used }

-- ---- a held copy of all volumes

-- what it makes of contents that one is held from now on, and what it makes of them that none is
abbrev pub with_copies : Contents → ℕ → Contents
with_copies now root = record now { volumes = now.volumes ++ map as_copy now.volumes; held_root = root }

abbrev pub released_contents : Contents → ℕ → Contents
released_contents now meta_used = record now { volumes = without_copies now.volumes; held_root = 0; meta_used = meta_used }

-- and of a pool
abbrev pub released_plain : PlainPool → ℕ → PlainPool
released_plain s meta_used = record s { volumes = retain_keys s.volumes is_now; held_root = 0; meta_used = meta_used }
