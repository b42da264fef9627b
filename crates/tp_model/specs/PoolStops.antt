-- Trusted reading: what a stop may leave of a pool: an earlier state, some of whose own blocks have values given since. Which answers keep
-- is NBD's (proto.md, "NBD_CMD_FLUSH" and "NBD_CMD_FLAG_FUA") for requests, and own for the rest.
use Rattle.std.specs.Prelude.{◌≡◌, ℕ, ◌-◌, ◌/◌, ◌≤◌, Bool, true, false, ◌&&◌, if◌then◌else◌, List, [], ◌∷◌, ◌++◌, length, slice_get, None, Some, IsTrue, nat_lt, ◌⊎◌}
use Rattle.std.specs.List.{AllByRecursion}
use Rattle.std.specs.FinMap.{empty}
use Rattle.tp_model.specs.declared.mode.Mode.TheVariants as mode
use Rattle.tp_model.specs.declared.refusal.Refusal.TheVariants.{NoMetadataSpace}
use Rattle.tp_model.specs.Sectors.{Sector, zero_sector}
use Rattle.tp_model.specs.Pool.{PlainPool, volume_size, volume_sector, slot_at, IsExclusive}
use Rattle.tp_model.specs.Calls.{Call, Write, Trim, WriteZeroes, Flush, CreateThin, CreateSnap, Delete, SetTransactionId, ReserveMetadataSnap, ReleaseMetadataSnap, Grow, Close, Answer, Done, Refused, Owns, is_within, effect_at, refusal_of}

-- One call in a run: the state before it, and the one that it made, or, where the disk failed in it, would have made.
pub record Event : Type 0 where
  pub before : PlainPool
  pub call : Call
  pub answer : Answer
  pub made : PlainPool

-- After this answer a stop leaves nothing older than the call.
abbrev pub keeps : Call → Answer → Bool
keeps (Write id sector sectors fua) Done = fua && nat_lt 0 (length sectors)
keeps (Trim id sector count fua) Done = fua && nat_lt 0 count
keeps (WriteZeroes id sector count no_hole fua) Done = fua && nat_lt 0 count
keeps Flush Done = true
keeps (CreateThin id) Done = true
keeps (CreateSnap id origin) Done = true
keeps (Delete id) Done = true
keeps (SetTransactionId current next) Done = true
keeps (Grow id blocks) Done = true
keeps ReserveMetadataSnap Done = true
keeps ReleaseMetadataSnap Done = true
keeps Close Done = true
keeps call (Refused NoMetadataSpace) = true
keeps call answer = false

-- ---- values given (own)

-- a set of values, each for a sector of a volume
abbrev pub Values : Type 1
Values = ℕ → ℕ → Sector → Type 0

-- the values of a call that no test refuses
abbrev pub Given : PlainPool → Call → ℕ → ℕ → Sector → Type 0
Given p (Write i sector sectors fua) id k x = (i ≡ id) × (sector ≤ k) × (slice_get sectors (k - sector) ≡ Some x)
-- zeros where the block keeps a slot
Given p (WriteZeroes i sector count no_hole fua) id k x =
    (i ≡ id) × IsTrue (is_within sector count k) × (x ≡ zero_sector)
    × (effect_at p (WriteZeroes i sector count no_hole fua) id (k / p.geometry.block_sectors) ≡ Owns)
Given p call id k x = ⊥

abbrev pub GivenBy : Event → ℕ → ℕ → Sector → Type 0
GivenBy e id k x = (refusal_of e.before e.call ≡ None) × Given e.before e.call id k x

abbrev pub GivenIn : List Event → ℕ → ℕ → Sector → Type 0
GivenIn [] id k x = ⊥
GivenIn (e ∷ es) id k x = GivenBy e id k x ⊎ GivenIn es id k x

abbrev pub Nothing : ℕ → ℕ → Sector → Type 0
Nothing id k x = ⊥

-- ---- what may be found (own)

-- P may be found after a stop, where S is the state that was kept and these values were given since.
pub record MayReopen (S : PlainPool) (given : ℕ → ℕ → Sector → Type 0) (P : PlainPool) : Type 0 where
  pub geometry : P.geometry ≡ S.geometry
  pub ids_and_sizes : (id : ℕ) → volume_size P id ≡ volume_size S id
  pub slots : (id block : ℕ) → slot_at P id block ≡ slot_at S id block
  pub transaction_id : P.transaction_id ≡ S.transaction_id
  pub needs_check : P.needs_check ≡ S.needs_check
  pub meta_used : P.meta_used ≡ S.meta_used
  pub held_root : P.held_root ≡ S.held_root
  pub mode : P.mode ≡ (if S.needs_check then mode.ReadOnly else mode.Writable)
  pub holds : P.holds ≡ empty
  -- a sector has its value in S, or, in a block that is exclusive in S, one given to it since
  pub sectors : (id k : ℕ) → (volume_sector P id k ≡ volume_sector S id k)
      ⊎ ((x : Sector) × IsExclusive S id (k / S.geometry.block_sectors) × (volume_sector P id k ≡ Some x) × given id k x)

-- the state as it is opened again
abbrev pub reopened : PlainPool → PlainPool
reopened S = record S { mode = if S.needs_check then mode.ReadOnly else mode.Writable; holds = empty }

-- A stop during the call leaves a pool that came of the state before it, or of one that a stop before it
-- might have left, by values of the call; or it leaves the state that the call makes.
abbrev pub During : (PlainPool → Type 0) → Event → PlainPool → Type 0
During Older e P = ((S : PlainPool) × (Older S ⊎ (S ≡ e.before)) × MayReopen S (GivenBy e) P) ⊎ MayReopen e.made Nothing P

-- The clause of a call on stops. Older: what a stop before the call might have left. Left: what a stop at some
-- moment of it may leave. Now: what a stop after it may leave.
pub record StopsWithin (Older : PlainPool → Type 0) (e : Event) (Left Now : PlainPool → Type 0) : Type 0 where
  pub any_moment : (P : PlainPool) → Left P → During Older e P
  pub now : (P : PlainPool) → Now P → During Older e P
  pub kept : IsTrue (keeps e.call e.answer) → (P : PlainPool) → Now P → MayReopen e.made Nothing P

-- ---- over a run (own)

abbrev pub state_after : PlainPool → List Event → PlainPool
state_after p [] = p
state_after p (e ∷ es) = state_after e.made es

abbrev pub NoneKeeps : List Event → Type 0
NoneKeeps es = AllByRecursion (λ e. keeps e.call e.answer ≡ false) es

-- S is the state after these events; or there are none, and a stop at the start might have left S
abbrev pub IsState : (PlainPool → Type 0) → PlainPool → List Event → PlainPool → Type 0
IsState Older start es S = (S ≡ state_after start es) ⊎ ((es ≡ []) × Older S)

-- A stop leaves P after these events, and, with `more`, while a further call gives more values: S is the state
-- after some of the events, of the others none keeps, and P has values given by those others.
pub record MayBeLeft (Older : PlainPool → Type 0) (start : PlainPool) (events : List Event) (more : ℕ → ℕ → Sector → Type 0) (P : PlainPool) : Type 0 where
  pub until : List Event
  pub since : List Event
  pub parts : events ≡ until ++ since
  pub S : PlainPool
  pub state : IsState Older start until S
  pub none_keeps : NoneKeeps since
  pub reopens : MayReopen S (λ id k x. GivenIn since id k x ⊎ more id k x) P

-- A stop when some events are over, and the first of the rest may be in progress: P is left as above, with the
-- values of the one in progress, or it is the state that this one makes.
abbrev pub LeftAt : (PlainPool → Type 0) → PlainPool → List Event → List Event → PlainPool → Type 0
LeftAt Older start over [] P = MayBeLeft Older start over Nothing P
LeftAt Older start over (current ∷ later) P = MayBeLeft Older start over (GivenBy current) P ⊎ MayReopen current.made Nothing P

-- A stop after the first events were answered, at some moment of the later ones, leaves P.
pub record MayBeLeftSince (Older : PlainPool → Type 0) (start : PlainPool) (first later : List Event) (P : PlainPool) : Type 0 where
  pub over : List Event
  pub rest : List Event
  pub parts : later ≡ over ++ rest
  pub left : LeftAt Older start (first ++ over) rest P
