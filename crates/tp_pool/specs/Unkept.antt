-- Trusted reading: a message that a pool has made but for its commit (own).
use Rattle.std.specs.Prelude.{◌≡◌, ℕ, ◌+◌, ◌≤◌, Bool, false, not, ◌&&◌, IfErr, IsTrue, List, MatchOption, MatchResult, Option, Result, if◌then◌else◌}
use Rattle.tp_model.specs.declared.mode.Mode.TheVariants as mode
use Rattle.tp_model.specs.declared.refusal.Refusal.{Refusal}
use Rattle.tp_model.specs.Geometry.{Geometry}
use Rattle.tp_model.specs.Pool.{PlainPool}
use Rattle.tp_model.specs.Calls.{Call, is_failure, may_reclaim, refused_commits}
use Rattle.tp_model.specs.Clauses.{Unkept}
use Rattle.tp_model.specs.Disk.{DiskState}
use Rattle.tp_model.specs.DiskStops.{LeavesOnly}
use Rattle.tp_stored.specs.Contents.{Contents}
use Rattle.tp_pool.specs.Flushes.{FlushesSo, Lacks, served}
use Rattle.tp_pool.specs.Held.{AnswersSo, Held, IsPool, PoolAnswered, PoolRefused, failed_by, shows}

-- What a part of a call leaves changed that is refused, before the pool is failed where it has to be: nothing behind a commit, and else what it was. Of one that is
-- not refused nothing is said.
pub record HasLeft {M : Type 0} (changed : M → Bool) (old new : M) (result : Result (Unit {0}) Refusal) : Type 0 where
  pub committed : IfErr result (λ reason. IsTrue (refused_commits reason) → changed new ≡ false)
  pub unchanged : IfErr result (λ reason. IsTrue (not (refused_commits reason) && not (is_failure reason)) → changed new ≡ changed old)

-- a pool that works, in which nothing is changed and of which nothing was flushed
abbrev pub HasRested : {M : Type 0} → (M → Bool) → Held M → Held M → Type 0
HasRested changed old new = (changed new.metadata ≡ false) × (new.disk.flushes ≡ old.disk.flushes) × (new.mode ≡ mode.Writable)

-- geometry, stands, marks, room and changed: of the metadata.
module _ {M : Type 0} (geometry : M → Geometry) (stands : M → DiskState → Contents → Contents → Type 0) (marks : M → List Bool) (room : M → ℕ) where
  -- how often it has flushed the disk so far: for a commit that frees blocks alone, and where enough are free not at all
  pub record HasReclaimed (old : Held M) (new : DiskState) (call : Call) : Type 0 where
    pub no_fewer : old.disk.flushes ≤ new.flushes
    pub most : new.flushes ≤ old.disk.flushes + (if may_reclaim call then 2 else 0)
    pub few : (s : PlainPool) → shows geometry stands old s → (Lacks geometry stands marks room old call → ⊥) → new.flushes ≡ old.disk.flushes

  module _ (changed : M → Bool) where
    -- The call was made but for its commit. At each moment so far a stop leaves a pool.
    pub record IsUnkept (old new : Held M) (call : Call) : Type 0 where
      pub unkept : Unkept (served geometry stands marks room changed) old new call
      pub opens : (s : PlainPool) → shows geometry stands old s → LeavesOnly old.disk new.disk (IsPool (geometry old.metadata))

    -- the same of a part of it, before the pool is failed where it has to be
    abbrev pub PoolBegun : Held M → Held M → Call → Result (Unit {0}) Refusal → Type 0
    PoolBegun old new call result = MatchResult result (λ _. IsUnkept old new call) (λ reason. PoolRefused geometry stands old (failed_by reason new) call reason)

    -- all that is said of a call that was answered
    pub record IsMade (old new : Held M) (call : Call) (result : Result (Unit {0}) Refusal) : Type 0 where
      pub called : PoolAnswered geometry stands old new call result
      pub answered : AnswersSo geometry stands old new call result
      pub flushes : FlushesSo geometry stands marks room changed old new call result

    -- the call was begun: it is answered, or made but for its commit
    abbrev pub IsBegun : Held M → Held M → Call → Option (Result (Unit {0}) Refusal) → Type 0
    IsBegun old new call begun = MatchOption begun (IsUnkept old new call) (λ answer. IsMade old new call answer)
