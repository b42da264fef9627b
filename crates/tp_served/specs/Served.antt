-- Trusted reading: a pool on a cache of metadata blocks, in words of the disk under the cache (own).
use Rattle.std.specs.Prelude.{◌≡◌, ℕ, ◌+◌, ◌*◌, ◌<◌, ◌≤◌, Bool, false, List, Option, Some, None, length, IfErr, Result, if◌then◌else◌}
use Rattle.std.specs.Option.{IsSome}
use Rattle.std.proofs.lemmas.Bool.{false≢true}
use Rattle.tp_model.specs.declared.mode.Mode.{Mode}
use Rattle.tp_model.specs.declared.refusal.Refusal.{Refusal}
use Rattle.tp_model.specs.Refusals.{is_fault_refusal}
use Rattle.tp_model.specs.Geometry.{Geometry}
use Rattle.tp_model.specs.Sectors.{Sector}
use Rattle.tp_model.specs.Pool.{PlainPool}
use Rattle.tp_model.specs.Calls.{Answer, Call, Close, ends_in_commit}
use Rattle.tp_model.specs.Clauses.{Called, Flushes, IsAnswered, View, ViewLaws}
use Rattle.tp_model.specs.Disk.{DiskState, cell_at}
use Rattle.tp_model.specs.DiskStops.{AfterStop, StoppedSince, moment}
use Rattle.tp_model.proofs.Moments.{stopped_at, stopped_longer, stopped_now}
use Rattle.tp_cache.specs.Line.{IsLine, begun}
use Rattle.tp_cache.specs.Table as tables
use Rattle.tp_image.specs.Stands.{StandsFor}
use Rattle.tp_stored.specs.Contents.{Contents}
use Rattle.tp_pool.specs.Besides.{Besides, pool_on}
use Rattle.tp_pool.specs.Checked.{IsOnlyRead}
use Rattle.tp_pool.specs.Flushes.{IsInPlace, Lacks}
use Rattle.tp_pool.specs.Held.{HasUse, Held, IsSomePool, more_held, outline, shows}
use Rattle.tp_pool.specs.Shown as laws_of

-- what the cache has, and what the pool has besides its disk
pub record Cached (M : Type 0) : Type 0 where
  pub cache : tables.Held
  pub besides : Besides M

-- the pool as it stands on the cache
abbrev pub on_cache : {M : Type 0} → Cached M → Held M
on_cache c = pool_on c.cache.line.outer c.besides

-- the disk under the cache
abbrev pub disk_of : {M : Type 0} → Cached M → DiskState
disk_of c = c.cache.line.inner

-- A call that writes is refused, and the disk under the cache is as it was where it did not fail. On the cache nothing but reads was done.
pub record IsUnwritten {M : Type 0} (old new : Cached M) (result : Result (Unit {0}) Refusal) : Type 0 where
  pub reads : IsOnlyRead (on_cache old) (on_cache new) result
  pub disk : IfErr result (λ reason. is_fault_refusal reason ≡ false → disk_of new ≡ disk_of old)

-- what an option has
abbrev pub got : {A : Type 0} → (o : Option A) → IsSome o → A
got None none = absurd (false≢true none)
got (Some a) some = a

-- geometry, stands, marks, room and changed: of the metadata.
module _ {M : Type 0} (geometry : M → Geometry) where
  -- What is known of each: the cache keeps no sector of a data block.
  pub record IsKnown (c : Cached M) : Type 0 where
    pub line : IsLine c.cache.line
    pub behind : (i : ℕ) → 8 * length c.cache.index ≤ i → cell_at c.cache.line.inner.cells i ≡ cell_at c.cache.line.outer.cells i
    pub blocks : length c.cache.index ≤ (geometry c.besides.metadata).metadata_blocks

  -- It stands on a cache over this disk that keeps nothing yet, may keep so many blocks, and any of the metadata.
  pub record IsAtStart (c : Cached M) (places : ℕ) (disk : DiskState) : Type 0 where
    pub line : c.cache.line ≡ begun disk
    pub none : c.cache.used ≡ 0
    pub room : 0 < places → c.cache.room ≡ places
    pub blocks : length c.cache.index ≡ (geometry c.besides.metadata).metadata_blocks

  module _ (stands : M → DiskState → Contents → Contents → Type 0) (marks : M → List Bool) (room : M → ℕ) (changed : M → Bool) where
    -- All that is said of it. Stops, failures and flushes are those of the disk under the cache.
    abbrev pub cached : View (Cached M)
    cached = record {
      outline = λ c. outline geometry (on_cache c);
      more = λ c id. more_held (geometry c.besides.metadata) c.besides.holders id;
      shows = λ c. shows geometry stands (on_cache c);
      has_use = HasUse;
      failures = λ c. c.cache.line.inner.failures;
      flushes = λ c. c.cache.line.inner.flushes;
      changed = λ c. changed c.besides.metadata;
      lacks = λ c. Lacks geometry stands marks room (on_cache c);
      Image = List Sector;
      may_leave = λ c image. AfterStop c.cache.line.inner.cells image;
      moment = λ c. moment c.cache.line.inner;
      left_since = λ c t image. StoppedSince t c.cache.line.inner image;
      stands_for = λ image P. IsSomePool image × StandsFor image P;
    }

    -- the laws of all that is said
    pub laws : laws_of.TreesLaw geometry stands → laws_of.WithinLaw geometry stands → laws_of.BoundLaw geometry stands → laws_of.OneLaw geometry stands → ViewLaws cached
    laws trees within bounded one = record {
      shown = λ c. laws_of.shown geometry stands (on_cache c);
      used = λ c. laws_of.used geometry stands trees within bounded (on_cache c);
      sized = λ c. laws_of.sized geometry stands within (on_cache c);
      one_size = λ c. laws_of.one_size geometry stands one (on_cache c);
      consistent = λ c. laws_of.consistent geometry stands within (on_cache c);
      at_now = λ c image stop. stopped_at image (disk_of c) stop;
      only_now = λ c image stop. stopped_now image (disk_of c) stop;
      wider = λ c t u image le stop. stopped_longer image (disk_of c) t u le stop;
      at_rest = laws_of.at_rest;
    }

    -- A write in place changes no metadata. With FUA it flushes as FLUSH does, once where nothing had changed since the last commit; else not at
    -- all.
    pub record LeavesMetadata (old new : Cached M) (call : Call) : Type 0 where
      pub unchanged : ends_in_commit call ≡ false → changed new.besides.metadata ≡ changed old.besides.metadata
      pub flushes : (disk_of new).flushes ≡ (disk_of old).flushes + (if ends_in_commit call then (if changed old.besides.metadata then 2 else 1) else 0)

    -- what a write that was accepted did, where it was one in place
    abbrev pub StaysInPlace : Cached M → Cached M → Call → Type 0
    StaysInPlace old new call = IsInPlace geometry stands marks room (on_cache old) call → LeavesMetadata old new call

    -- It is closed, with this answer, and the disk under its cache handed back in this state.
    pub record IsClosed (old : Cached M) (disk : DiskState) (answer : Answer) : Type 0 where
      pub new : Cached M
      pub line : IsLine new.cache.line
      pub disk_is : disk_of new ≡ disk
      pub called : Called cached old new Close answer
      pub answered : IsAnswered cached old new Close answer
      pub flushes : Flushes cached old new Close answer
