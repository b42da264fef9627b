-- Trusted reading: how often a pool flushes its disk, and with that all that is said of it (own).
use Rattle.std.specs.Prelude.{◌≡◌, ◌⊎◌, ℕ, ◌+◌, ◌<◌, ◌≤◌, Bool, IsSome, IsTrue, false, not, ◌&&◌, List, length, IfErr, MatchResult, Result, if◌then◌else◌}
use Rattle.tp_model.specs.declared.refusal.Refusal.{Refusal}
use Rattle.tp_model.specs.Geometry.{Geometry}
use Rattle.tp_model.specs.Sectors.{Sector}
use Rattle.tp_model.specs.Pool.{PlainPool}
use Rattle.tp_model.specs.Calls.{Answer, Call, Close, Delete, Done, Refused, Trim, Write, WriteZeroes, commits, ends_in_commit, is_failure, may_reclaim, most_flushes, refusal_of, refused_commits}
use Rattle.tp_model.specs.Clauses.{Flushes, IsAnswered, View, ViewLaws}
use Rattle.tp_model.specs.Disk.{DiskState}
use Rattle.tp_model.specs.DiskStops.{AfterStop, StoppedSince}
use Rattle.tp_mapping.specs.Mapping.{free_places}
use Rattle.tp_image.specs.Stands.{StandsFor}
use Rattle.tp_stored.specs.Contents.{Contents}
use Rattle.tp_shown.specs.Shown.{blocks_touched, first_block}
use Rattle.tp_pool.specs.Held.{HasUse, Held, IsSomePool, PoolCalled, failures, moment_of, more_held, outline, shows, view}
use Rattle.tp_pool.specs.Shown as laws_of
use Rattle.tp_pool.specs.Writing.{blocks_taken, blocks_taken_by}

-- changed: of the metadata, whether anything has changed since the last commit. What a part of a call leaves of that, before the pool is
-- failed where it has to be: nothing behind a commit, and what it was where the part is refused otherwise.
pub record HasChanged {M : Type 0} (changed : M → Bool) (old new : M) (call : Call) (result : Result (Unit {0}) Refusal) : Type 0 where
  pub committed : MatchResult result (λ _. IsTrue (ends_in_commit call) → changed new ≡ false) (λ reason. IsTrue (refused_commits reason) → changed new ≡ false)
  pub unchanged : IfErr result (λ reason. IsTrue (not (refused_commits reason) && not (is_failure reason)) → changed new ≡ changed old)

-- geometry, stands, marks and room: of the metadata.
module _ {M : Type 0} (geometry : M → Geometry) (stands : M → DiskState → Contents → Contents → Type 0) (marks : M → List Bool) (room : M → ℕ) where
  -- of contents that stand, fewer data blocks are free, now and at the last commit, than a write takes
  abbrev pub LacksData : Held M → ℕ → ℕ → ℕ → Type 0
  LacksData h id sector count =
      (now : Contents) × (kept : Contents) × stands h.metadata h.disk now kept
      × (free_places (geometry h.metadata) now.volumes kept.volumes
      < blocks_taken id now.volumes (marks h.metadata) (first_block (geometry h.metadata) sector) (blocks_touched (geometry h.metadata) sector count))

  -- of contents that stand, fewer data blocks are free, now and at the last commit, than a request of zeros takes
  abbrev pub LacksDataFor : Held M → Call → ℕ → ℕ → ℕ → Type 0
  LacksDataFor h call id sector count =
      (now : Contents) × (kept : Contents) × stands h.metadata h.disk now kept
      × (free_places (geometry h.metadata) now.volumes kept.volumes
      < blocks_taken_by (geometry h.metadata) call id now.volumes (marks h.metadata) (first_block (geometry h.metadata) sector) (blocks_touched (geometry h.metadata) sector count))

  -- Too few blocks are free for the call: metadata blocks for one that may change metadata, fewer of them for a trim, or data blocks for what
  -- writes sectors.
  abbrev pub Lacks : Held M → Call → Type 0
  Lacks h (Write id sector sectors fua) = (room h.metadata < 512) ⊎ LacksData h id sector (length sectors)
  Lacks h (Delete id) = room h.metadata < 16
  Lacks h (Trim id sector count fua) = (0 < count) × (room h.metadata < 256)
  Lacks h (WriteZeroes id sector count no_hole fua) =
      (0 < count) × ((room h.metadata < 512) ⊎ LacksDataFor h (WriteZeroes id sector count no_hole fua) id sector count)
  Lacks h call = IsTrue (may_reclaim call) × (room h.metadata < 512)

  -- how often a part of a call has flushed
  pub record HasFlushed (old : Held M) (new : DiskState) (call : Call) : Type 0 where
    pub no_fewer : old.disk.flushes ≤ new.flushes
    pub most : new.flushes ≤ old.disk.flushes + most_flushes old.mode call
    pub few : (s : PlainPool) → shows geometry stands old s → (Lacks old call → ⊥) ⊎ IsSome (refusal_of s call) → new.flushes ≤ old.disk.flushes + (if commits s call then 2 else 0)

  -- A write in place: each block that it writes has a data block that no other slot has and that no slot lost since the last commit, and
  -- no commit has to free metadata blocks before it.
  abbrev pub IsInPlace : Held M → Call → Type 0
  IsInPlace h (Write id sector sectors fua) =
      (512 ≤ room h.metadata) × (now : Contents) × (kept : Contents) × stands h.metadata h.disk now kept
      × (blocks_taken id now.volumes (marks h.metadata) (first_block (geometry h.metadata) sector) (blocks_touched (geometry h.metadata) sector (length sectors)) ≡ 0)
  IsInPlace h call = ⊥

  module _ (changed : M → Bool) where
    -- It changes no metadata. With FUA it flushes as FLUSH does, once where nothing had changed since the last commit; else not at all.
    pub record LeavesMetadata (old new : Held M) (call : Call) : Type 0 where
      pub unchanged : ends_in_commit call ≡ false → changed new.metadata ≡ changed old.metadata
      pub flushes : new.disk.flushes ≡ old.disk.flushes + (if ends_in_commit call then (if changed old.metadata then 2 else 1) else 0)

    -- what a write that was accepted did, where it was one in place
    abbrev pub StaysInPlace : Held M → Held M → Call → Type 0
    StaysInPlace old new call = IsInPlace old call → LeavesMetadata old new call

    -- all that is said of a pool
    abbrev pub served : View (Held M)
    served = record {
      outline = outline geometry;
      more = λ h id. more_held (geometry h.metadata) h.holders id;
      shows = shows geometry stands;
      has_use = HasUse;
      failures = failures;
      flushes = λ h. h.disk.flushes;
      changed = λ h. changed h.metadata;
      lacks = Lacks;
      Image = List Sector;
      may_leave = λ h image. AfterStop h.disk.cells image;
      moment = moment_of;
      left_since = λ h t image. StoppedSince t h.disk image;
      stands_for = λ image P. IsSomePool image × StandsFor image P;
    }

    abbrev pub FlushesSo : Held M → Held M → Call → Result (Unit {0}) Refusal → Type 0
    FlushesSo old new call result = MatchResult result (λ _. Flushes served old new call Done) (λ reason. Flushes served old new call (Refused reason))

    -- A pool is closed, with this answer, and its disk handed back in this state.
    abbrev pub PoolClosed : Held M → DiskState → Answer → Type 0
    PoolClosed old disk answer =
        (new : Held M) × PoolCalled geometry stands old new Close answer × (new.disk ≡ disk) × IsAnswered (view geometry stands) old new Close answer × Flushes served old new Close answer

    -- the laws of all that is said
    pub laws : laws_of.TreesLaw geometry stands → laws_of.WithinLaw geometry stands → laws_of.BoundLaw geometry stands → laws_of.OneLaw geometry stands → ViewLaws served
    laws trees within bounded one = record {
      shown = laws_of.shown geometry stands;
      used = laws_of.used geometry stands trees within bounded;
      sized = laws_of.sized geometry stands within;
      one_size = laws_of.one_size geometry stands one;
      consistent = laws_of.consistent geometry stands within;
      at_now = laws_of.at_now geometry stands;
      only_now = laws_of.only_now geometry stands;
      wider = laws_of.wider geometry stands;
      at_rest = laws_of.at_rest;
    }
