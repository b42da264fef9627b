-- Trusted reading: the calls of a pool: the tests of each in their order, and what an accepted one does. Messages and what they do are
-- the kernel's (thin-provisioning.rst), what requests do to sectors is NBD's (proto.md, "Commands"), the tests and
-- their order, the thresholds for metadata and what a failing disk does are own.
use Rattle.std.specs.Prelude.{◌≡◌, ◌≢◌, ℕ, ◌+◌, ◌-◌, ◌*◌, ◌/◌, ◌^◌, ◌<◌, ◌≤◌, Bool, true, false, not, ◌&&◌, ◌||◌, ◌==◌, if◌then◌else◌, IsTrue, List, [], ◌∷◌, ◌++◌, map, length, take, drop, replicate, slice_get, slice_index_or, Option, None, Some, is_some, nat_lt, nat_le, MatchOption, ◌⊎◌}
use Rattle.std.specs.Bool.{MatchBool}
use Rattle.std.specs.Option.{option_map_or}
use Rattle.std.specs.List.{count_by, range_with_len, enumerate_from}
use Rattle.std.specs.Ordering.{nat_cmp}
use Rattle.std.specs.FinMap.{FinMap, empty, entries, get, insert, remove, retain_keys, contains_key}
use Rattle.tp_model.specs.declared.mode.Mode.{Mode}
use Rattle.tp_model.specs.declared.mode.Mode.TheVariants as mode
use Rattle.tp_model.specs.declared.refusal.Refusal.{Refusal}
use Rattle.tp_model.specs.declared.refusal.Refusal.TheVariants.{Exists, NoSuchDevice, Busy, StaleTransactionId, NoMetadataSpace, TooManyDevices, ReadOnly, Failed, NoDataSpace, HeldRootExists, NoHeldRoot, BadSize, Fault, Damaged}
use Rattle.tp_model.specs.Geometry.{Geometry}
use Rattle.tp_model.specs.Sectors.{Sector, zero_sector}
use Rattle.tp_model.specs.Pool.{Volume, PlainPool, copy_id, device_count, is_now, hold_count, hold_total, volume_sectors, volume_slots, volume_size, slot_at, used, IsExclusive, is_exclusive}
use Rattle.tp_model.specs.Status.{pool_line, volume_line}

pub data Call : Type 0 where
  Read : (id sector count : ℕ) → Call
  Write : (id sector : ℕ) (sectors : List Sector) (fua : Bool) → Call
  Trim : (id sector count : ℕ) (fua : Bool) → Call
  WriteZeroes : (id sector count : ℕ) (no_hole fua : Bool) → Call
  Flush : Call
  CreateThin : (id : ℕ) → Call
  CreateSnap : (id origin : ℕ) → Call
  Delete : (id : ℕ) → Call
  SetTransactionId : (current next : ℕ) → Call
  Grow : (id blocks : ℕ) → Call
  Hold : (id : ℕ) → Call
  LetGo : (id : ℕ) → Call
  Status : Call
  ThinStatus : (id : ℕ) → Call
  NextId : (from : ℕ) → Call
  VolumeBlocks : (id : ℕ) → Call
  Walk : (id from : ℕ) → Call
  Close : Call
  HeldRead : (id sector count : ℕ) → Call
  ReserveMetadataSnap : Call
  ReleaseMetadataSnap : Call

pub data Answer : Type 0 where
  Done : Answer
  Gave : (sectors : List Sector) → Answer
  Line : (bytes : List ℕ) → Answer
  Found : (id : Option ℕ) → Answer
  Sized : (blocks : ℕ) → Answer
  Listed : (slots : List (ℕ × ℕ)) → Answer
  Refused : (reason : Refusal) → Answer

-- the volume that a request reads or writes; none where the call is no such request
abbrev pub volume_asked : Call → Option ℕ
volume_asked (Read id sector count) = Some id
volume_asked (Write id sector sectors fua) = Some id
volume_asked (Trim id sector count fua) = Some id
volume_asked (WriteZeroes id sector count no_hole fua) = Some id
volume_asked call = None

-- how many blocks a volume has
abbrev pub volume_blocks : PlainPool → ℕ → ℕ
volume_blocks p id = length (volume_sectors p id) / p.geometry.block_sectors

-- ---- ranges of sectors

-- sector k is one of count sectors from this one on
abbrev pub is_within : ℕ → ℕ → ℕ → Bool
is_within sector count k = nat_le sector k && nat_lt k (sector + count)

-- a range of sectors holds a sector of the block
abbrev pub touches : Geometry → ℕ → ℕ → ℕ → Bool
touches g sector count block = nat_lt 0 count && nat_lt sector ((block + 1) * g.block_sectors) && nat_lt (block * g.block_sectors) (sector + count)

-- it holds each sector of the block
abbrev pub covers : Geometry → ℕ → ℕ → ℕ → Bool
covers g sector count block = nat_le sector (block * g.block_sectors) && nat_le ((block + 1) * g.block_sectors) (sector + count)

-- ---- what a request does to a sector (proto.md: NBD_CMD_WRITE, NBD_CMD_WRITE_ZEROES; what TRIM leaves is own)

abbrev pub sector_after : Geometry → Call → ℕ → Sector → Sector
sector_after g (Write id sector sectors fua) k old = if is_within sector (length sectors) k then slice_index_or sectors (k - sector) old else old
sector_after g (Trim id sector count fua) k old = if covers g sector count (k / g.block_sectors) then zero_sector else old
sector_after g (WriteZeroes id sector count no_hole fua) k old = if is_within sector count k then zero_sector else old
sector_after g call k old = old

-- ---- what a request does to a slot (kernel: provisioning on first write, copies of shared blocks, discards)

pub data SlotEffect : Type 0 where
  Keeps : SlotEffect  -- the slot is as before
  Loses : SlotEffect  -- the block is unmapped
  Owns : SlotEffect  -- the block has a data block that no other slot has

-- of a block, and of its slot as it is now
abbrev pub slot_effect : Geometry → Call → ℕ → Option ℕ → SlotEffect
slot_effect g (Write id sector sectors fua) block slot = if touches g sector (length sectors) block then Owns else Keeps
slot_effect g (Trim id sector count fua) block slot = if covers g sector count block then Loses else Keeps
slot_effect g (WriteZeroes id sector count true fua) block slot = if touches g sector count block then Owns else Keeps
slot_effect g (WriteZeroes id sector count false fua) block slot =
    if covers g sector count block then Loses else (if touches g sector count block && is_some slot then Owns else Keeps)
slot_effect g call block slot = Keeps

abbrev pub is_owning : SlotEffect → Bool
is_owning Keeps = false
is_owning Loses = false
is_owning Owns = true

-- the slot is in q what the effect on it in p says
abbrev pub SlotAfter : SlotEffect → PlainPool → PlainPool → ℕ → ℕ → Type 0
SlotAfter Keeps p q id block = slot_at q id block ≡ slot_at p id block
SlotAfter Loses p q id block = slot_at q id block ≡ None
SlotAfter Owns p q id block = IsExclusive q id block

abbrev pub effect_at : PlainPool → Call → ℕ → ℕ → SlotEffect
effect_at p call id block = slot_effect p.geometry call block (slot_at p id block)

-- ---- room (own; the kernel's error_if_no_space)

-- how many blocks the request gives a new data block
abbrev pub need : PlainPool → Call → ℕ → ℕ
need p call id =
    count_by (λ block. is_owning (effect_at p call id block) && not (is_exclusive p id block))
    (range_with_len 0 (volume_blocks p id))

-- the data blocks in use and those that the request takes are no more than there are
abbrev pub has_data_room : PlainPool → Call → ℕ → Bool
has_data_room p call id = nat_le (used p + need p call id) p.geometry.data_blocks

-- at least so many metadata blocks are free
abbrev pub has_metadata_room : PlainPool → ℕ → Bool
has_metadata_room p least = nat_le least (p.geometry.metadata_blocks - p.meta_used)

-- ---- what a caller sees to (own)

-- 2048 sectors at most, which lie in the volume where there is one
pub record IsRange (p : PlainPool) (id sector count : ℕ) : Type 0 where
  pub inside : (size : ℕ) → volume_size p id ≡ Some size → sector + count ≤ size
  pub most : count ≤ 2048

abbrev pub IsAllowed : PlainPool → Call → Type 0
IsAllowed p (Read id sector count) = IsRange p id sector count
IsAllowed p (Write id sector sectors fua) = IsRange p id sector (length sectors) × ((k : ℕ) (s : Sector) → slice_get sectors k ≡ Some s → length s ≡ 512)
IsAllowed p (Trim id sector count fua) = IsRange p id sector count
IsAllowed p (WriteZeroes id sector count no_hole fua) = IsRange p id sector count
IsAllowed p (CreateThin id) = IsTrue (is_now id)
IsAllowed p (CreateSnap id origin) = IsTrue (is_now id)
IsAllowed p (HeldRead id sector count) = IsRange p (copy_id id) sector count
IsAllowed p (Hold id) = hold_total p.holds < 128
IsAllowed p (LetGo id) = 0 < hold_count p.holds id
IsAllowed p call = Unit {0}

-- ---- the tests (own)

abbrev pub exists : PlainPool → ℕ → Bool
exists p id = is_now id && contains_key p.volumes id

-- a copy of a volume of this id is held
abbrev pub has_copy : PlainPool → ℕ → Bool
has_copy p id = contains_key p.volumes (copy_id id)

abbrev pub is_failed : Mode → Bool
is_failed mode.Writable = false
is_failed mode.ReadOnly = false
is_failed mode.Failed = true

abbrev pub is_read_only : Mode → Bool
is_read_only mode.Writable = false
is_read_only mode.ReadOnly = true
is_read_only mode.Failed = false

-- what stands with the first test that fails, which is the first that is true
abbrev pub first_failed : {A : Type 0} → List (Bool × A) → Option A
first_failed [] = None
first_failed (t ∷ ts) = if t.0 then Some t.1 else first_failed ts

-- the tests of a request of count sectors that wants this many free metadata blocks
abbrev pub refusal_of_request : PlainPool → ℕ → ℕ → ℕ → Bool → Option Refusal
refusal_of_request p id count least has_room = first_failed (
    (is_failed p.mode, Failed)
    ∷ (not (exists p id), NoSuchDevice)
    ∷ (is_read_only p.mode, ReadOnly)
    ∷ (nat_lt 0 count && not (has_metadata_room p least), NoMetadataSpace)
    ∷ (not has_room, NoDataSpace) ∷ [])

abbrev pub refusal_of : PlainPool → Call → Option Refusal
refusal_of p (Read id sector count) = first_failed ((is_failed p.mode, Failed) ∷ (not (exists p id), NoSuchDevice) ∷ [])
refusal_of p (Write id sector sectors fua) = refusal_of_request p id (length sectors) 512 (has_data_room p (Write id sector sectors fua) id)
refusal_of p (Trim id sector count fua) = refusal_of_request p id count 256 true
refusal_of p (WriteZeroes id sector count no_hole fua) = refusal_of_request p id count 512 (has_data_room p (WriteZeroes id sector count no_hole fua) id)
refusal_of p Flush = first_failed ((is_failed p.mode, Failed) ∷ [])
refusal_of p (CreateThin id) = first_failed (
    (is_failed p.mode, Failed)
    ∷ (is_read_only p.mode, ReadOnly)
    ∷ (exists p id, Exists)
    ∷ (nat_le 65536 (device_count p), TooManyDevices)
    ∷ (not (has_metadata_room p 512), NoMetadataSpace) ∷ [])
refusal_of p (CreateSnap id origin) = first_failed (
    (is_failed p.mode, Failed)
    ∷ (is_read_only p.mode, ReadOnly)
    ∷ (not (exists p origin), NoSuchDevice)
    ∷ (exists p id, Exists)
    ∷ (nat_le 65536 (device_count p), TooManyDevices)
    ∷ (not (has_metadata_room p 512), NoMetadataSpace) ∷ [])
refusal_of p (Delete id) = first_failed (
    (is_failed p.mode, Failed)
    ∷ (is_read_only p.mode, ReadOnly)
    ∷ (not (exists p id), NoSuchDevice)
    ∷ (nat_lt 0 (hold_count p.holds id), Busy)
    ∷ (not (p.held_root == 0) && not (has_metadata_room p 256), NoMetadataSpace) ∷ [])
refusal_of p (SetTransactionId current next) = first_failed (
    (is_failed p.mode, Failed)
    ∷ (is_read_only p.mode, ReadOnly)
    ∷ (not (current == p.transaction_id), StaleTransactionId) ∷ [])
refusal_of p (Grow id blocks) = first_failed (
    (is_failed p.mode, Failed)
    ∷ (is_read_only p.mode, ReadOnly)
    ∷ (not (exists p id), NoSuchDevice)
    ∷ (nat_lt 0 (hold_count p.holds id), Busy)
    ∷ (nat_lt blocks (volume_blocks p id) || nat_lt 16777216 blocks, BadSize)
    ∷ (not (has_metadata_room p 512), NoMetadataSpace) ∷ [])
refusal_of p (Hold id) = first_failed ((is_failed p.mode, Failed) ∷ (not (exists p id), NoSuchDevice) ∷ [])
refusal_of p (LetGo id) = None
refusal_of p Status = None
refusal_of p (ThinStatus id) = first_failed ((not (is_failed p.mode) && not (exists p id), NoSuchDevice) ∷ [])
refusal_of p (NextId from) = first_failed ((is_failed p.mode, Failed) ∷ [])
refusal_of p (VolumeBlocks id) = first_failed ((is_failed p.mode, Failed) ∷ (not (exists p id), NoSuchDevice) ∷ [])
refusal_of p (Walk id from) = first_failed ((is_failed p.mode, Failed) ∷ (not (exists p id), NoSuchDevice) ∷ [])
refusal_of p Close = first_failed ((is_failed p.mode, Failed) ∷ [])
refusal_of p (HeldRead id sector count) = first_failed (
    (is_failed p.mode, Failed)
    ∷ (p.held_root == 0, NoHeldRoot)
    ∷ (not (has_copy p id), NoSuchDevice) ∷ [])
refusal_of p ReserveMetadataSnap = first_failed (
    (is_failed p.mode, Failed)
    ∷ (is_read_only p.mode, ReadOnly)
    ∷ (not (p.held_root == 0), HeldRootExists)
    ∷ (not (has_metadata_room p 512), NoMetadataSpace) ∷ [])
refusal_of p ReleaseMetadataSnap = first_failed (
    (is_failed p.mode, Failed)
    ∷ (is_read_only p.mode, ReadOnly)
    ∷ (p.held_root == 0, NoHeldRoot) ∷ [])

-- want of metadata room makes the pool read-only, to be checked; no other refusal changes it
abbrev pub after_refusal : Refusal → PlainPool → PlainPool
after_refusal NoMetadataSpace p = record p { needs_check = true; mode = mode.ReadOnly }
after_refusal reason p = p

-- ---- an accepted call (kernel: create_thin, create_snap, delete, set_transaction_id)

-- the first id of a device in a list of volumes that is this one or more
abbrev pub first_from : ℕ → List (ℕ × Volume) → Option ℕ
first_from from [] = None
first_from from (e ∷ es) = if nat_le from e.0 && is_now e.0 then Some e.0 else first_from from es

-- of slots in the order of their blocks, each a block with its label, those with blocks from this one on
abbrev pub slots_from : ℕ → List (ℕ × ℕ) → List (ℕ × ℕ)
slots_from from [] = []
slots_from from (s ∷ ss) = if nat_le from s.0 then s ∷ slots_from from ss else slots_from from ss

-- as many of them as one call lists
abbrev pub piece_from : ℕ → List (ℕ × ℕ) → List (ℕ × ℕ)
piece_from from slots = take 252 (slots_from from slots)

abbrev pub reply : PlainPool → Call → Answer
reply p (Read id sector count) = Gave (take count (drop sector (volume_sectors p id)))
reply p Status = Line (pool_line p)
reply p (ThinStatus id) = Line (volume_line p id)
reply p (NextId from) = Found (first_from from (entries p.volumes))
reply p (VolumeBlocks id) = Sized (volume_blocks p id)
reply p (Walk id from) = Listed (piece_from from (entries (volume_slots p id)))
reply p (HeldRead id sector count) = Gave (take count (drop sector (volume_sectors p (copy_id id))))
reply p call = Done

abbrev pub volume_of : PlainPool → ℕ → Volume
volume_of p id = record { sectors = volume_sectors p id; slots = volume_slots p id }

abbrev pub new_volume : Geometry → Volume
new_volume g = record { sectors = replicate (g.virtual_blocks * g.block_sectors) zero_sector; slots = empty }

-- a volume with so many blocks from now on: those behind its end are unmapped
abbrev pub grown : Geometry → ℕ → Volume → Volume
grown g blocks v = record { sectors = v.sectors ++ replicate (blocks * g.block_sectors - length v.sectors) zero_sector; slots = v.slots }

-- A volume comes to be. It takes eight metadata blocks at most.
pub record Creates (p : PlainPool) (id : ℕ) (q : PlainPool) : Type 0 where
  pub is : q ≡ record p { volumes = insert p.volumes id (new_volume p.geometry); meta_used = q.meta_used }
  pub taken : q.meta_used ≤ p.meta_used + 8

-- A volume comes to be as a snapshot. It shares the nodes of its origin: where no mapping is held it takes three metadata blocks at most.
pub record Snaps (p : PlainPool) (id origin : ℕ) (q : PlainPool) : Type 0 where
  pub is : q ≡ record p { volumes = insert p.volumes id (volume_of p origin); meta_used = q.meta_used }
  pub taken : p.held_root ≡ 0 → q.meta_used ≤ p.meta_used + 3

-- A volume is gone. Where no mapping is held that takes no metadata block.
pub record Removes (p : PlainPool) (id : ℕ) (q : PlainPool) : Type 0 where
  pub is : q ≡ record p { volumes = remove p.volumes id; meta_used = q.meta_used }
  pub taken : p.held_root ≡ 0 → q.meta_used ≤ p.meta_used

-- A volume grows. Where no mapping is held it takes one metadata block at most. With as many blocks as it has nothing changes, no node either.
pub record Grows (p : PlainPool) (id blocks : ℕ) (q : PlainPool) : Type 0 where
  pub is : q ≡ record p { volumes = insert p.volumes id (grown p.geometry blocks (volume_of p id)); meta_used = q.meta_used }
  pub taken : p.held_root ≡ 0 → q.meta_used ≤ p.meta_used + 1
  pub untouched : blocks ≡ volume_blocks p id → q.meta_used ≡ p.meta_used

-- A request changes the sectors and the slots of one volume. Any free data blocks may be taken.
pub record Edits (p : PlainPool) (call : Call) (id : ℕ) (q : PlainPool) : Type 0 where
  pub rest : q ≡ record p { volumes = q.volumes; meta_used = q.meta_used }
  pub others : (i : ℕ) → i ≢ id → get q.volumes i ≡ get p.volumes i
  pub volume : get q.volumes id ≡ Some (record { sectors = map (λ e. sector_after p.geometry call e.0 e.1) (enumerate_from 0 (volume_sectors p id)); slots = volume_slots q id })
  pub slots : (block : ℕ) → SlotAfter (effect_at p call id block) p q id block
  -- where no slot changes, no node does
  pub untouched : ((block : ℕ) → slot_at q id block ≡ slot_at p id block) → q.meta_used ≡ p.meta_used

-- of an id of the pool with a held copy, the id of the volume that is held
abbrev pub held_of : ℕ → ℕ
held_of id = if is_now id then id else id - 2 ^ 24

-- The whole mapping is held as it is. That takes no metadata block; which number its root has is the pool's choice.
pub record Reserves (p q : PlainPool) : Type 0 where
  pub rest : q ≡ record p { volumes = q.volumes; held_root = q.held_root }
  pub held : 0 < q.held_root
  pub volumes : (id : ℕ) → get q.volumes id ≡ get p.volumes (held_of id)

-- The mapping that was held is given up. That takes no metadata block.
pub record Releases (p q : PlainPool) : Type 0 where
  pub is : q ≡ record p { volumes = retain_keys p.volumes is_now; held_root = 0; meta_used = q.meta_used }
  pub taken : q.meta_used ≤ p.meta_used

abbrev pub released : FinMap nat_cmp ℕ → ℕ → FinMap nat_cmp ℕ
released holds id = let n = hold_count holds id in if nat_le n 1 then remove holds id else insert holds id (n - 1)

-- who holds what after a call
abbrev pub holds_after : FinMap nat_cmp ℕ → Call → Answer → FinMap nat_cmp ℕ
holds_after holds (Hold id) Done = insert holds id (hold_count holds id + 1)
holds_after holds (LetGo id) Done = released holds id
holds_after holds call answer = holds

-- An accepted call makes q of p. Which metadata blocks it takes is the pool's choice, and how many within these bounds.
abbrev pub Makes : PlainPool → Call → PlainPool → Type 0
Makes p (Write id sector sectors fua) q = Edits p (Write id sector sectors fua) id q
Makes p (Trim id sector count fua) q = Edits p (Trim id sector count fua) id q
Makes p (WriteZeroes id sector count no_hole fua) q = Edits p (WriteZeroes id sector count no_hole fua) id q
Makes p (CreateThin id) q = Creates p id q
Makes p (CreateSnap id origin) q = Snaps p id origin q
Makes p (Delete id) q = Removes p id q
Makes p (SetTransactionId current next) q = q ≡ record p { transaction_id = next }
Makes p (Grow id blocks) q = Grows p id blocks q
Makes p (Hold id) q = q ≡ record p { holds = holds_after p.holds (Hold id) Done }
Makes p ReserveMetadataSnap q = Reserves p q
Makes p ReleaseMetadataSnap q = Releases p q
Makes p (LetGo id) q = q ≡ record p { holds = holds_after p.holds (LetGo id) Done }
Makes p call q = q ≡ p

-- From p the call is given this answer and leaves q, where the disk does not fail.
abbrev pub Step : PlainPool → Call → Answer → PlainPool → Type 0
Step p call answer q =
    MatchOption (refusal_of p call)
    ((answer ≡ reply p call) × Makes p call q)
    (λ reason. (answer ≡ Refused reason) × (q ≡ after_refusal reason p))

-- ---- where the disk fails in a call (own)

-- a call that writes or commits
abbrev pub is_writing : Call → Bool
is_writing (Read id sector count) = false
is_writing (Hold id) = false
is_writing (LetGo id) = false
is_writing Status = false
is_writing (ThinStatus id) = false
is_writing (NextId from) = false
is_writing (VolumeBlocks id) = false
is_writing (Walk id from) = false
is_writing (HeldRead id sector count) = false
is_writing call = true

-- From s a call is given this answer and leaves `after`. made: the state that the call makes, or, where the disk
-- failed in it, would have made. A call that writes is then failed; another one changes nothing.
abbrev pub Takes : PlainPool → Call → Answer → PlainPool → PlainPool → Type 0
Takes s call answer made after =
    (Step s call answer after × (made ≡ after))
    ⊎ ((answer ≡ Refused Fault) × MatchBool (is_writing call)
    (((meant : Answer) × Step s call meant made) × (after ≡ record made { mode = mode.Failed }))
    ((made ≡ s) × (after ≡ s)))

-- a fault is answered where the disk's failures rose, and nowhere else
abbrev pub HasCause : ℕ → Answer → ℕ → Type 0
HasCause failures (Refused Fault) more = failures < more
HasCause failures answer more = more ≡ failures

-- ---- what is known of a call whatever the disk does (own)

-- a refusal that leaves the pool failed where the call writes
abbrev pub is_failure : Refusal → Bool
is_failure Fault = true
is_failure Damaged = true
is_failure reason = false

-- the call looks volumes up, which takes the disk in a read-only pool too
abbrev pub looks_up : Call → Bool
looks_up (Read id sector count) = true
looks_up (Write id sector sectors fua) = true
looks_up (Trim id sector count fua) = true
looks_up (WriteZeroes id sector count no_hole fua) = true
looks_up (Hold id) = true
looks_up (ThinStatus id) = true
looks_up (NextId from) = true
looks_up (VolumeBlocks id) = true
looks_up (Walk id from) = true
looks_up (HeldRead id sector count) = true
looks_up call = false

-- a request that changes sectors, and a message
abbrev pub is_change : Call → Bool
is_change (Write id sector sectors fua) = true
is_change (Trim id sector count fua) = true
is_change (WriteZeroes id sector count no_hole fua) = true
is_change call = false

abbrev pub is_message : Call → Bool
is_message (CreateThin id) = true
is_message (CreateSnap id origin) = true
is_message (Delete id) = true
is_message (SetTransactionId current next) = true
is_message (Grow id blocks) = true
is_message ReserveMetadataSnap = true
is_message ReleaseMetadataSnap = true
is_message call = false

-- answered from what is in memory alone, in each mode
abbrev pub is_in_memory : Call → Bool
is_in_memory (LetGo id) = true
is_in_memory Status = true
is_in_memory call = false

-- a pool of this mode answers it without a call of the disk
abbrev pub is_silent : Mode → Call → Bool
is_silent mode.Writable call = is_in_memory call
is_silent mode.ReadOnly call = not (looks_up call)
is_silent mode.Failed call = true

-- accepted by a failed pool: what is in memory, and a status line, which says that it failed
abbrev pub is_told_of_failed : Call → Bool
is_told_of_failed (ThinStatus id) = true
is_told_of_failed call = is_in_memory call

-- a pool of this mode may accept it
abbrev pub may_accept : Mode → Call → Bool
may_accept mode.Writable call = true
may_accept mode.ReadOnly call = not (is_change call || is_message call)
may_accept mode.Failed call = is_told_of_failed call

-- the refusals of a call in a pool that works, whatever its disk gives; and in one that is read-only
abbrev pub refusals_in_writable : Call → List Refusal
refusals_in_writable (Read id sector count) = NoSuchDevice ∷ Fault ∷ Damaged ∷ []
refusals_in_writable (Write id sector sectors fua) = NoSuchDevice ∷ NoMetadataSpace ∷ NoDataSpace ∷ Fault ∷ Damaged ∷ []
refusals_in_writable (Trim id sector count fua) = NoSuchDevice ∷ NoMetadataSpace ∷ Fault ∷ Damaged ∷ []
refusals_in_writable (WriteZeroes id sector count no_hole fua) = NoSuchDevice ∷ NoMetadataSpace ∷ NoDataSpace ∷ Fault ∷ Damaged ∷ []
refusals_in_writable Flush = Fault ∷ Damaged ∷ []
refusals_in_writable (CreateThin id) = Exists ∷ TooManyDevices ∷ NoMetadataSpace ∷ Fault ∷ Damaged ∷ []
refusals_in_writable (CreateSnap id origin) = NoSuchDevice ∷ Exists ∷ TooManyDevices ∷ NoMetadataSpace ∷ Fault ∷ Damaged ∷ []
refusals_in_writable (Delete id) = NoSuchDevice ∷ Busy ∷ NoMetadataSpace ∷ Fault ∷ Damaged ∷ []
refusals_in_writable (SetTransactionId current next) = StaleTransactionId ∷ Fault ∷ Damaged ∷ []
refusals_in_writable (Grow id blocks) = NoSuchDevice ∷ Busy ∷ BadSize ∷ NoMetadataSpace ∷ Fault ∷ Damaged ∷ []
refusals_in_writable (Hold id) = NoSuchDevice ∷ Fault ∷ Damaged ∷ []
refusals_in_writable (LetGo id) = []
refusals_in_writable Status = []
refusals_in_writable (ThinStatus id) = NoSuchDevice ∷ Fault ∷ Damaged ∷ []
refusals_in_writable (NextId from) = Fault ∷ Damaged ∷ []
refusals_in_writable (VolumeBlocks id) = NoSuchDevice ∷ Fault ∷ Damaged ∷ []
refusals_in_writable (Walk id from) = NoSuchDevice ∷ Fault ∷ Damaged ∷ []
refusals_in_writable Close = Fault ∷ Damaged ∷ []
refusals_in_writable (HeldRead id sector count) = NoHeldRoot ∷ NoSuchDevice ∷ Fault ∷ Damaged ∷ []
refusals_in_writable ReserveMetadataSnap = HeldRootExists ∷ NoMetadataSpace ∷ Fault ∷ Damaged ∷ []
refusals_in_writable ReleaseMetadataSnap = NoHeldRoot ∷ Fault ∷ Damaged ∷ []

abbrev pub refusals_in_read_only : Call → List Refusal
refusals_in_read_only call =
    if is_change call then NoSuchDevice ∷ ReadOnly ∷ Fault ∷ Damaged ∷ []
    else (if looks_up call then refusals_in_writable call else (if is_message call then ReadOnly ∷ [] else []))

-- those in a pool of this mode
abbrev pub refusals : Mode → Call → List Refusal
refusals mode.Writable call = refusals_in_writable call
refusals mode.ReadOnly call = refusals_in_read_only call
refusals mode.Failed call = if is_told_of_failed call then [] else Failed ∷ []

abbrev pub IsOneOf : Refusal → List Refusal → Type 0
IsOneOf reason [] = ⊥
IsOneOf reason (r ∷ rs) = (reason ≡ r) ⊎ IsOneOf reason rs

-- a call may be given this answer in a pool of this mode, whatever the disk does
abbrev pub MayAnswer : Mode → Call → Answer → Type 0
MayAnswer m call (Refused reason) = IsOneOf reason (refusals m call)
MayAnswer m call answer = IsTrue (may_accept m call)

-- ---- where a commit stands (own; the kernel commits on FLUSH and FUA alike)

-- An accepted call ends in a commit of its own: a message, FLUSH and closing, a request of some length with FUA.
abbrev pub ends_in_commit : Call → Bool
ends_in_commit (Write id sector sectors fua) = fua && nat_lt 0 (length sectors)
ends_in_commit (Trim id sector count fua) = fua && nat_lt 0 count
ends_in_commit (WriteZeroes id sector count no_hole fua) = fua && nat_lt 0 count
ends_in_commit Flush = true
ends_in_commit Close = true
ends_in_commit (CreateThin id) = true
ends_in_commit (CreateSnap id origin) = true
ends_in_commit (Delete id) = true
ends_in_commit (SetTransactionId current next) = true
ends_in_commit (Grow id blocks) = true
ends_in_commit ReserveMetadataSnap = true
ends_in_commit ReleaseMetadataSnap = true
ends_in_commit call = false

-- A read-only pool has nothing to commit. No other call commits but for the refusal for want of metadata room, and for a commit that frees
-- blocks before a call that wants them.
abbrev pub accepted_commits : PlainPool → Call → Bool
accepted_commits p call = ends_in_commit call && not (is_read_only p.mode)

abbrev pub refused_commits : Refusal → Bool
refused_commits NoMetadataSpace = true
refused_commits reason = false

abbrev pub commits : PlainPool → Call → Bool
commits p call = option_map_or refused_commits (refusal_of p call) (accepted_commits p call)

-- The mode of a pool behind an answer, whatever the disk does: want of metadata room leaves it read-only, and a failure in a call that
-- writes failed.
abbrev pub mode_after : Mode → Call → Answer → Mode
mode_after m call (Refused reason) = if is_failure reason && is_writing call then mode.Failed else (if refused_commits reason then mode.ReadOnly else m)
mode_after m call answer = m

-- the call may want blocks that a commit before it frees
abbrev pub may_reclaim : Call → Bool
may_reclaim (Write id sector sectors fua) = nat_lt 0 (length sectors)
may_reclaim (Trim id sector count fua) = nat_lt 0 count
may_reclaim (WriteZeroes id sector count no_hole fua) = nat_lt 0 count
may_reclaim (CreateThin id) = true
may_reclaim (CreateSnap id origin) = true
may_reclaim (Delete id) = true
may_reclaim (Grow id blocks) = true
may_reclaim call = false

-- How often a call flushes the disk at most in a pool of this mode, whatever the disk does: twice for a commit before it, and twice for
-- the one that it ends in.
abbrev pub most_flushes : Mode → Call → ℕ
most_flushes mode.Writable call = (if may_reclaim call then 2 else 0) + (if ends_in_commit call then 2 else 0)
most_flushes mode.ReadOnly call = 0
most_flushes mode.Failed call = 0

-- FLUSH and closing are a commit and nothing else
abbrev pub is_flush : Call → Bool
is_flush Flush = true
is_flush Close = true
is_flush call = false

-- behind this answer all is committed, of a pool that works
abbrev pub has_committed : Call → Answer → Bool
has_committed call Done = ends_in_commit call
has_committed call (Refused reason) = refused_commits reason
has_committed call answer = false

-- the call changed nothing that a commit keeps
abbrev pub changes_nothing : Call → Answer → Bool
changes_nothing call (Refused reason) = not (refused_commits reason) && not (is_failure reason && is_writing call)
changes_nothing call answer = not (is_writing call)
