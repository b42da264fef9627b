-- Trusted reading: what a pool over any metadata holds, what it shows, and what a stop may leave of it (own).
use Rattle.std.specs.Prelude.{◌≡◌, ◌⊎◌, ℕ, ◌+◌, ◌-◌, ◌*◌, ◌^◌, ◌<◌, ◌≤◌, IsSome, IsTrue, true, false, nat_le, Ok, Err, Some, List, MatchResult, Result, if◌then◌else◌}
use Rattle.tp_model.specs.declared.mode.Mode.{Mode}
use Rattle.tp_model.specs.declared.mode.Mode.TheVariants as mode
use Rattle.tp_model.specs.declared.refusal.Refusal.{Refusal}
use Rattle.tp_model.specs.declared.refusal.Refusal.TheVariants.{Fault, NoMetadataSpace}
use Rattle.tp_model.specs.Geometry.{Geometry, IsWithinLimits, sectors_of_volume}
use Rattle.tp_model.specs.Sectors.{Sector}
use Rattle.tp_model.specs.Pool.{FindsHeld, IsSound, Outline, PlainPool, hold_count, volume_size}
use Rattle.tp_model.specs.Calls.{Call, Answer, Close, Done, Flush, Refused, is_failed, is_writing, refusal_of, MayAnswer, is_failure, is_silent, refused_commits}
use Rattle.tp_model.specs.Clauses.{Called, View, IsAnswered}
use Rattle.tp_model.specs.Disk.{DiskState, IsSettled, seen}
use Rattle.tp_model.specs.DiskStops.{AfterStop, Leaves, LeavesOnly, StoppedSince, moment}
use Rattle.tp_image.specs.Bound.{IsBounded}
use Rattle.tp_image.specs.Stands.{HasTrees, StandsFor}
use Rattle.tp_stored.specs.Contents.{Contents, HasContents, HoldsContents}
use Rattle.tp_sharing.specs.Volumes.{device_of}
use Rattle.tp_shown.specs.Shown.{own_sectors}
use Rattle.tp_holders.specs.Holders.{Holding, blocks_held, holds_of}

pub record Held (M : Type 0) : Type 0 where
  pub disk : DiskState
  pub metadata : M
  pub holders : List Holding  -- the volumes that sessions hold, each once for each hold
  pub mode : Mode

-- ---- sizes of volumes

-- the most sectors that a volume may have
abbrev pub most_sectors : Geometry → ℕ
most_sectors g = 2 ^ 24 * g.block_sectors

-- what ends there has no more, where the sizes of the pool are within their limits
abbrev pub Fits : Geometry → ℕ → Type 0
Fits g end = IsWithinLimits g → end ≤ most_sectors g

-- How many sectors beyond the pool's own size a volume has by those who hold it, and no more than a volume may have: what a disk told that is
-- not honest may be any number.
abbrev pub blocks_known : List Holding → ℕ → ℕ
blocks_known holders id = if nat_le (blocks_held holders id) (2 ^ 24) then blocks_held holders id else 2 ^ 24

-- its blocks: those, and no fewer than the pool's own size has
abbrev pub blocks_of_held : Geometry → List Holding → ℕ → ℕ
blocks_of_held g holders id = g.virtual_blocks + (blocks_known holders id - g.virtual_blocks)

abbrev pub more_held : Geometry → List Holding → ℕ → ℕ
more_held g holders id = (blocks_known holders id - g.virtual_blocks) * g.block_sectors

-- who holds a volume knows its size
abbrev pub KnowsSizes : Geometry → List Holding → PlainPool → Type 0
KnowsSizes g holders s = (id : ℕ) → 0 < hold_count s.holds id → volume_size s id ≡ Some (sectors_of_volume g + more_held g holders id)

-- ---- stops

-- the image is that of a commit of some pool of this geometry
abbrev pub IsPool : Geometry → List Sector → Type 0
IsPool g image = (c : Contents) × HoldsContents g c image

-- the image is that of a commit, so it can be opened
abbrev pub IsSomePool : List Sector → Type 0
IsSomePool image = (g : Geometry) × IsPool g image

module _ {M : Type 0} where
  -- what a stop now may leave
  abbrev pub may_leave : Held M → PlainPool → Type 0
  may_leave h P = (image : List (List ℕ)) × AfterStop h.disk.cells image × StandsFor image P

  abbrev pub moment_of : Held M → ℕ
  moment_of h = moment h.disk

  -- what a stop at some moment since then may leave
  abbrev pub left_since : Held M → ℕ → PlainPool → Type 0
  left_since h t P = (image : List (List ℕ)) × StoppedSince t h.disk image × StandsFor image P

  abbrev pub failures : Held M → ℕ
  failures h = h.disk.failures

-- ---- what it shows

-- As many metadata blocks are in use as the trees of the pool have that stand in some image, and where no root is held, no more than its
-- volumes may use. Of a failed pool nothing is told.
abbrev pub HasUse : PlainPool → Type 0
HasUse s = (s.mode ≡ mode.Failed) ⊎ ((image : List Sector) × HasTrees image s × (s.held_root ≡ 0 → IsBounded s))

-- A read-only pool has nothing that the last commit has not, and nothing was written behind the last flush.
pub record IsAllKept (now kept : Contents) (disk : DiskState) : Type 0 where
  pub contents : kept ≡ now
  pub cells : IsSettled disk.cells

-- a call that keeps all that was done
abbrev pub IsFlush : Call → Type 0
IsFlush call = (call ≡ Flush) ⊎ (call ≡ Close)

-- the pool after that
abbrev pub failed_by : {M : Type 0} → Refusal → Held M → Held M
failed_by reason h = record h { mode = if is_failure reason then mode.Failed else h.mode }

-- The mode behind a part of a call, before the pool is failed where it has to be.
abbrev pub mode_tried : Mode → Result (Unit {0}) Refusal → Mode
mode_tried m (Ok x) = m
mode_tried m (Err reason) = if refused_commits reason then mode.ReadOnly else m

-- What is known of that part, whatever the disk does.
pub record IsTried {M : Type 0} (old new : Held M) (call : Call) (result : Result (Unit {0}) Refusal) : Type 0 where
  pub may : MatchResult result (λ _. MayAnswer old.mode call Done) (λ reason. MayAnswer old.mode call (Refused reason))
  pub mode_is : new.mode ≡ mode_tried old.mode result
  pub silent : IsTrue (is_silent old.mode call) → new.disk ≡ old.disk

-- a part that refuses for want of metadata room, where the disk does not fail
abbrev pub EndsShort : {M : Type 0} → Held M → Held M → Result (Unit {0}) Refusal → Type 0
EndsShort old new result = MatchResult result (λ _. ⊥) (λ reason. ((reason ≡ Fault) × (new.mode ≡ old.mode)) ⊎ ((reason ≡ NoMetadataSpace) × (new.mode ≡ mode.ReadOnly)))

-- what is known of it at any moment
abbrev pub outline : {M : Type 0} → (M → Geometry) → Held M → Outline
outline geometry h = record { geometry = geometry h.metadata; mode = h.mode; holds = holds_of h.holders }

-- geometry and stands: of the metadata.
module _ {M : Type 0} (geometry : M → Geometry) (stands : M → DiskState → Contents → Contents → Type 0) where
  -- The pool has these contents, and shows s.
  pub record HasPool (h : Held M) (now kept : Contents) (s : PlainPool) : Type 0 where
    pub standing : stands h.metadata h.disk now kept
    pub has : HasContents (geometry h.metadata) now (seen h.disk.cells) s
    pub mode_is : s.mode ≡ h.mode
    pub holds : s.holds ≡ holds_of h.holders
    -- enough metadata blocks are free for a commit
    pub spare : now.meta_used + 128 ≤ (geometry h.metadata).metadata_blocks
    -- it has not failed; where it wants a check it is read-only, and where it is read-only, all is kept
    pub works : is_failed h.mode ≡ false
    pub check : IsTrue now.needs_check → h.mode ≡ mode.ReadOnly
    pub settled : h.mode ≡ mode.ReadOnly → IsAllKept now kept h.disk
    -- what it shows is sound, and who holds a volume finds it
    pub sound : IsSound s
    pub found : FindsHeld s
    pub known : KnowsSizes (geometry h.metadata) h.holders s

  -- A failed pool shows its geometry, and who holds what. What a stop leaves of it is a pool still.
  pub record HasFailed (h : Held M) (s : PlainPool) : Type 0 where
    pub failed : h.mode ≡ mode.Failed
    pub mode_is : s.mode ≡ mode.Failed
    pub geometry_is : s.geometry ≡ geometry h.metadata
    pub holds : s.holds ≡ holds_of h.holders
    pub left : Leaves (IsPool (geometry h.metadata)) h.disk.cells

  abbrev pub shows : Held M → PlainPool → Type 0
  shows h s = ((now : Contents) × (kept : Contents) × HasPool h now kept s) ⊎ HasFailed h s

  -- Whatever contents it has, what ends there lies in the volume, or in the held copy, if there is one.
  abbrev pub EndsIn : Held M → ℕ → ℕ → Type 0
  EndsIn h id end = (now kept : Contents) (s : PlainPool) → HasPool h now kept s → IsSome (device_of id now.volumes) → end ≤ own_sectors (geometry h.metadata) now.volumes id

  -- The same, by the id of a volume.
  abbrev pub LiesIn : Held M → ℕ → ℕ → Type 0
  LiesIn h id end = (id < 2 ^ 24) × EndsIn h id end

  -- what is said of it but for what is changed and which blocks are free
  abbrev pub view : View (Held M)
  view = record {
    outline = outline geometry;
    more = λ h id. more_held (geometry h.metadata) h.holders id;
    shows = shows;
    has_use = HasUse;
    failures = failures;
    flushes = λ h. h.disk.flushes;
    changed = λ h. false;
    lacks = λ h call. ⊥;
    Image = List Sector;
    may_leave = λ h image. AfterStop h.disk.cells image;
    moment = moment_of;
    left_since = λ h t image. StoppedSince t h.disk image;
    stands_for = λ image P. IsSomePool image × StandsFor image P;
  }

  -- A call of the pool. At each of its moments a stop leaves a pool, of which `called` says that it is a right one.
  pub record PoolCalled (old new : Held M) (call : Call) (answer : Answer) : Type 0 where
    pub called : Called view old new call answer
    pub opens : (s : PlainPool) → shows old s → LeavesOnly old.disk new.disk (IsPool (geometry old.metadata))

  -- a call of the pool that was refused
  abbrev pub PoolRefused : Held M → Held M → Call → Refusal → Type 0
  PoolRefused old new call reason = PoolCalled old new call (Refused reason)

  -- The call writes, and is refused for want of metadata room.
  pub record LacksRoom (h : Held M) (call : Call) : Type 0 where
    pub writes : is_writing call ≡ true
    pub refused : (s : PlainPool) → shows h s → refusal_of s call ≡ Some NoMetadataSpace

  -- a call that was answered so
  abbrev pub PoolAnswered : Held M → Held M → Call → Result (Unit {0}) Refusal → Type 0
  PoolAnswered old new call result = MatchResult result (λ _. PoolCalled old new call Done) (λ reason. PoolRefused old new call reason)

  -- the same of a part of it, before the pool is failed where it has to be
  abbrev pub PoolTried : Held M → Held M → Call → Result (Unit {0}) Refusal → Type 0
  PoolTried old new call result = MatchResult result (λ _. PoolCalled old new call Done) (λ reason. PoolRefused old (failed_by reason new) call reason)

  -- what is known of a call, whatever the disk does
  abbrev pub AnswersSo : Held M → Held M → Call → Result (Unit {0}) Refusal → Type 0
  AnswersSo old new call result = MatchResult result (λ _. IsAnswered view old new call Done) (λ reason. IsAnswered view old new call (Refused reason))
