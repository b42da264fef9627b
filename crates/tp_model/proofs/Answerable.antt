-- That what the tests of a call come to may be answered in the mode of the pool.
use Rattle.std.proofs.Common.{inl, inr, ℕ, Bool, true, false, not, Option, List, [], ◌∷◌, length, refl}
use Rattle.std.specs.Prelude.{IsTrue, MatchOption, nat_le, nat_lt, ◌&&◌, ◌||◌, ◌==◌}
use Rattle.tp_model.specs.declared.mode.Mode.{Mode}
use Rattle.tp_model.specs.declared.mode.Mode.TheVariants as mode
use Rattle.tp_model.specs.declared.refusal.Refusal.{Refusal}
use Rattle.tp_model.specs.declared.refusal.Refusal.TheVariants.{BadSize, Busy, Exists, Failed, NoDataSpace, NoMetadataSpace, NoSuchDevice, ReadOnly, StaleTransactionId, TooManyDevices, HeldRootExists, NoHeldRoot}
use Rattle.tp_model.specs.Sectors.{Sector}
use Rattle.tp_model.specs.Pool.{PlainPool, device_count, hold_count}
use Rattle.tp_model.specs.Calls.{Call, Read, Write, Trim, WriteZeroes, Flush, CreateThin, CreateSnap, Delete, SetTransactionId, Grow, Hold, LetGo, Status, ThinStatus, NextId, VolumeBlocks, Walk, Close, HeldRead, ReserveMetadataSnap, ReleaseMetadataSnap, IsOneOf, exists, has_copy, first_failed, volume_blocks, has_data_room, has_metadata_room, is_failed, is_read_only, may_accept, refusal_of, refusals}

abbrev pub Told : Mode → Call → Option Refusal → Type 0
Told m call o = MatchOption o (IsTrue (may_accept m call)) (λ reason. IsOneOf reason (refusals m call))

looks_told : (m : Mode) (there : Bool) (id sector count : ℕ) → Told m (Read id sector count) (first_failed ((is_failed m, Failed) ∷ (not there, NoSuchDevice) ∷ []))
looks_told mode.Writable true id sector count = refl
looks_told mode.Writable false id sector count = inl refl
looks_told mode.ReadOnly true id sector count = refl
looks_told mode.ReadOnly false id sector count = inl refl
looks_told mode.Failed there id sector count = inl refl

holds_told : (m : Mode) (there : Bool) (id : ℕ) → Told m (Hold id) (first_failed ((is_failed m, Failed) ∷ (not there, NoSuchDevice) ∷ []))
holds_told mode.Writable true id = refl
holds_told mode.Writable false id = inl refl
holds_told mode.ReadOnly true id = refl
holds_told mode.ReadOnly false id = inl refl
holds_told mode.Failed there id = inl refl

next_told : (m : Mode) (from : ℕ) → Told m (NextId from) (first_failed ((is_failed m, Failed) ∷ []))
next_told mode.Writable from = refl
next_told mode.ReadOnly from = refl
next_told mode.Failed from = inl refl

status_told : (m : Mode) (there : Bool) (id : ℕ) → Told m (ThinStatus id) (first_failed ((not (is_failed m) && not there, NoSuchDevice) ∷ []))
status_told mode.Writable true id = refl
status_told mode.Writable false id = inl refl
status_told mode.ReadOnly true id = refl
status_told mode.ReadOnly false id = inl refl
status_told mode.Failed there id = refl

abbrev tests : Mode → Bool → Bool → Bool → Bool → Option Refusal
tests m there some room has_room =
    first_failed ((is_failed m, Failed) ∷ (not there, NoSuchDevice) ∷ (is_read_only m, ReadOnly) ∷ (some && not room, NoMetadataSpace) ∷ (not has_room, NoDataSpace) ∷ [])

write_told : (m : Mode) (there some room has_room : Bool) (id sector : ℕ) (xs : List Sector) (fua : Bool) → Told m (Write id sector xs fua) (tests m there some room has_room)
write_told mode.Writable false some room has_room id sector xs fua = inl refl
write_told mode.Writable true true false has_room id sector xs fua = inr (inl refl)
write_told mode.Writable true true true false id sector xs fua = inr (inr (inl refl))
write_told mode.Writable true true true true id sector xs fua = refl
write_told mode.Writable true false room false id sector xs fua = inr (inr (inl refl))
write_told mode.Writable true false room true id sector xs fua = refl
write_told mode.ReadOnly false some room has_room id sector xs fua = inl refl
write_told mode.ReadOnly true some room has_room id sector xs fua = inr (inl refl)
write_told mode.Failed there some room has_room id sector xs fua = inl refl

zeroes_told : (m : Mode) (there some room has_room : Bool) (id sector count : ℕ) (no_hole fua : Bool) → Told m (WriteZeroes id sector count no_hole fua) (tests m there some room has_room)
zeroes_told mode.Writable false some room has_room id sector count no_hole fua = inl refl
zeroes_told mode.Writable true true false has_room id sector count no_hole fua = inr (inl refl)
zeroes_told mode.Writable true true true false id sector count no_hole fua = inr (inr (inl refl))
zeroes_told mode.Writable true true true true id sector count no_hole fua = refl
zeroes_told mode.Writable true false room false id sector count no_hole fua = inr (inr (inl refl))
zeroes_told mode.Writable true false room true id sector count no_hole fua = refl
zeroes_told mode.ReadOnly false some room has_room id sector count no_hole fua = inl refl
zeroes_told mode.ReadOnly true some room has_room id sector count no_hole fua = inr (inl refl)
zeroes_told mode.Failed there some room has_room id sector count no_hole fua = inl refl

trim_told : (m : Mode) (there some room : Bool) (id sector count : ℕ) (fua : Bool) → Told m (Trim id sector count fua) (tests m there some room true)
trim_told mode.Writable false some room id sector count fua = inl refl
trim_told mode.Writable true true false id sector count fua = inr (inl refl)
trim_told mode.Writable true true true id sector count fua = refl
trim_told mode.Writable true false room id sector count fua = refl
trim_told mode.ReadOnly false some room id sector count fua = inl refl
trim_told mode.ReadOnly true some room id sector count fua = inr (inl refl)
trim_told mode.Failed there some room id sector count fua = inl refl

flush_told : (m : Mode) → Told m Flush (first_failed ((is_failed m, Failed) ∷ []))
flush_told mode.Writable = refl
flush_told mode.ReadOnly = refl
flush_told mode.Failed = inl refl

close_told : (m : Mode) → Told m Close (first_failed ((is_failed m, Failed) ∷ []))
close_told mode.Writable = refl
close_told mode.ReadOnly = refl
close_told mode.Failed = inl refl

create_told : (m : Mode) (there many short : Bool) (id : ℕ)
    → Told m (CreateThin id) (first_failed ((is_failed m, Failed) ∷ (is_read_only m, ReadOnly) ∷ (there, Exists) ∷ (many, TooManyDevices) ∷ (short, NoMetadataSpace) ∷ []))
create_told mode.Writable true many short id = inl refl
create_told mode.Writable false true short id = inr (inl refl)
create_told mode.Writable false false true id = inr (inr (inl refl))
create_told mode.Writable false false false id = refl
create_told mode.ReadOnly there many short id = inl refl
create_told mode.Failed there many short id = inl refl

snap_told : (m : Mode) (from there many short : Bool) (id origin : ℕ)
    → Told m (CreateSnap id origin)
    (first_failed ((is_failed m, Failed) ∷ (is_read_only m, ReadOnly) ∷ (not from, NoSuchDevice) ∷ (there, Exists) ∷ (many, TooManyDevices) ∷ (short, NoMetadataSpace) ∷ []))
snap_told mode.Writable false there many short id origin = inl refl
snap_told mode.Writable true true many short id origin = inr (inl refl)
snap_told mode.Writable true false true short id origin = inr (inr (inl refl))
snap_told mode.Writable true false false true id origin = inr (inr (inr (inl refl)))
snap_told mode.Writable true false false false id origin = refl
snap_told mode.ReadOnly from there many short id origin = inl refl
snap_told mode.Failed from there many short id origin = inl refl

delete_told : (m : Mode) (there held short : Bool) (id : ℕ)
    → Told m (Delete id) (first_failed ((is_failed m, Failed) ∷ (is_read_only m, ReadOnly) ∷ (not there, NoSuchDevice) ∷ (held, Busy) ∷ (short, NoMetadataSpace) ∷ []))
delete_told mode.Writable false held short id = inl refl
delete_told mode.Writable true true short id = inr (inl refl)
delete_told mode.Writable true false true id = inr (inr (inl refl))
delete_told mode.Writable true false false id = refl
delete_told mode.ReadOnly there held short id = inl refl
delete_told mode.Failed there held short id = inl refl

held_told : (m : Mode) (none there : Bool) (id sector count : ℕ)
    → Told m (HeldRead id sector count) (first_failed ((is_failed m, Failed) ∷ (none, NoHeldRoot) ∷ (not there, NoSuchDevice) ∷ []))
held_told mode.Writable true there id sector count = inl refl
held_told mode.Writable false true id sector count = refl
held_told mode.Writable false false id sector count = inr (inl refl)
held_told mode.ReadOnly true there id sector count = inl refl
held_told mode.ReadOnly false true id sector count = refl
held_told mode.ReadOnly false false id sector count = inr (inl refl)
held_told mode.Failed none there id sector count = inl refl

reserve_told : (m : Mode) (some short : Bool)
    → Told m ReserveMetadataSnap (first_failed ((is_failed m, Failed) ∷ (is_read_only m, ReadOnly) ∷ (some, HeldRootExists) ∷ (short, NoMetadataSpace) ∷ []))
reserve_told mode.Writable true short = inl refl
reserve_told mode.Writable false true = inr (inl refl)
reserve_told mode.Writable false false = refl
reserve_told mode.ReadOnly some short = inl refl
reserve_told mode.Failed some short = inl refl

release_told : (m : Mode) (none : Bool) → Told m ReleaseMetadataSnap (first_failed ((is_failed m, Failed) ∷ (is_read_only m, ReadOnly) ∷ (none, NoHeldRoot) ∷ []))
release_told mode.Writable true = inl refl
release_told mode.Writable false = refl
release_told mode.ReadOnly none = inl refl
release_told mode.Failed none = inl refl

transaction_told : (m : Mode) (stale : Bool) (current next : ℕ)
    → Told m (SetTransactionId current next) (first_failed ((is_failed m, Failed) ∷ (is_read_only m, ReadOnly) ∷ (stale, StaleTransactionId) ∷ []))
transaction_told mode.Writable true current next = inl refl
transaction_told mode.Writable false current next = refl
transaction_told mode.ReadOnly stale current next = inl refl
transaction_told mode.Failed stale current next = inl refl

grow_told : (m : Mode) (there held bad short : Bool) (id blocks : ℕ)
    → Told m (Grow id blocks)
    (first_failed ((is_failed m, Failed) ∷ (is_read_only m, ReadOnly) ∷ (not there, NoSuchDevice) ∷ (held, Busy) ∷ (bad, BadSize) ∷ (short, NoMetadataSpace) ∷ []))
grow_told mode.Writable false held bad short id blocks = inl refl
grow_told mode.Writable true true bad short id blocks = inr (inl refl)
grow_told mode.Writable true false true short id blocks = inr (inr (inl refl))
grow_told mode.Writable true false false true id blocks = inr (inr (inr (inl refl)))
grow_told mode.Writable true false false false id blocks = refl
grow_told mode.ReadOnly there held bad short id blocks = inl refl
grow_told mode.Failed there held bad short id blocks = inl refl

size_told : (m : Mode) (there : Bool) (id : ℕ) → Told m (VolumeBlocks id) (first_failed ((is_failed m, Failed) ∷ (not there, NoSuchDevice) ∷ []))
size_told mode.Writable true id = refl
size_told mode.Writable false id = inl refl
size_told mode.ReadOnly true id = refl
size_told mode.ReadOnly false id = inl refl
size_told mode.Failed there id = inl refl

walk_told : (m : Mode) (there : Bool) (id from : ℕ) → Told m (Walk id from) (first_failed ((is_failed m, Failed) ∷ (not there, NoSuchDevice) ∷ []))
walk_told mode.Writable true id from = refl
walk_told mode.Writable false id from = inl refl
walk_told mode.ReadOnly true id from = refl
walk_told mode.ReadOnly false id from = inl refl
walk_told mode.Failed there id from = inl refl

memory_told : (m : Mode) (id : ℕ) → IsTrue (may_accept m (LetGo id)) × IsTrue (may_accept m Status)
memory_told mode.Writable id = (refl, refl)
memory_told mode.ReadOnly id = (refl, refl)
memory_told mode.Failed id = (refl, refl)

-- each call at a time
pub tests_told : (p : PlainPool) (call : Call) → Told p.mode call (refusal_of p call)
tests_told p (Read id sector count) = looks_told p.mode (exists p id) id sector count
tests_told p (Write id sector xs fua) =
    write_told p.mode (exists p id) (nat_lt 0 (length xs)) (has_metadata_room p 512) (has_data_room p (Write id sector xs fua) id) id sector xs fua
tests_told p (Trim id sector count fua) = trim_told p.mode (exists p id) (nat_lt 0 count) (has_metadata_room p 256) id sector count fua
tests_told p (WriteZeroes id sector count no_hole fua) =
    zeroes_told p.mode (exists p id) (nat_lt 0 count) (has_metadata_room p 512) (has_data_room p (WriteZeroes id sector count no_hole fua) id) id sector count no_hole fua
tests_told p Flush = flush_told p.mode
tests_told p (CreateThin id) = create_told p.mode (exists p id) (nat_le 65536 (device_count p)) (not (has_metadata_room p 512)) id
tests_told p (CreateSnap id origin) = snap_told p.mode (exists p origin) (exists p id) (nat_le 65536 (device_count p)) (not (has_metadata_room p 512)) id origin
tests_told p (Delete id) = delete_told p.mode (exists p id) (nat_lt 0 (hold_count p.holds id)) (not (p.held_root == 0) && not (has_metadata_room p 256)) id
tests_told p (SetTransactionId current next) = transaction_told p.mode (not (current == p.transaction_id)) current next
tests_told p (Grow id blocks) =
    grow_told p.mode (exists p id) (nat_lt 0 (hold_count p.holds id)) (nat_lt blocks (volume_blocks p id) || nat_lt 16777216 blocks) (not (has_metadata_room p 512)) id blocks
tests_told p (Hold id) = holds_told p.mode (exists p id) id
tests_told p (LetGo id) = (memory_told p.mode id).0
tests_told p Status = (memory_told p.mode 0).1
tests_told p (ThinStatus id) = status_told p.mode (exists p id) id
tests_told p (NextId from) = next_told p.mode from
tests_told p (VolumeBlocks id) = size_told p.mode (exists p id) id
tests_told p (Walk id from) = walk_told p.mode (exists p id) id from
tests_told p Close = close_told p.mode
tests_told p (HeldRead id sector count) = held_told p.mode (p.held_root == 0) (has_copy p id) id sector count
tests_told p ReserveMetadataSnap = reserve_told p.mode (not (p.held_root == 0)) (not (has_metadata_room p 512))
tests_told p ReleaseMetadataSnap = release_told p.mode (p.held_root == 0)
