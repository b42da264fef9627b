-- Trusted reading: the clauses of a pool's contract: that a call is the plain pool's, and what a stop leaves, in it and after it. And the traced plain
-- pool, on which answers, faults and stops stand together (own).
use Rattle.std.specs.Prelude.{◌≡◌, ℕ, ◌+◌, ◌*◌, ◌^◌, ◌<◌, ◌≤◌, false, None, Some, List, [], ◌∷◌, ◌++◌, map, ◌⊎◌, Bool, IsSome, IsTrue, MatchResult, Result, if◌then◌else◌}
use Rattle.tp_model.specs.Pool.{IsConsistent, PlainPool, Outline, hold_count, outline_of, volume_size}
use Rattle.tp_model.specs.Calls.{Call, Answer, VolumeBlocks, Sized, Makes, Takes, HasCause, holds_after, is_failed, MayAnswer, Done, Refused, changes_nothing, commits, has_committed, is_flush, is_silent, is_writing, may_reclaim, mode_after, most_flushes, refusal_of}
use Rattle.tp_model.specs.declared.mode.Mode.TheVariants.{Writable}
use Rattle.tp_model.specs.declared.refusal.Refusal.{Refusal}
use Rattle.tp_model.specs.Geometry.{sectors_of_volume}
use Rattle.tp_model.specs.PoolStops.{During, Event, Nothing, MayBeLeft, MayBeLeftSince, MayReopen, StopsWithin, reopened}

-- ---- the traced plain pool

-- an event, and how many calls of the disk failed in it
pub record Entry : Type 0 where
  pub event : Event
  pub failed : ℕ

abbrev pub events_of : List Entry → List Event
events_of trace = map (λ x. x.event) trace

abbrev pub failed_in : List Entry → ℕ
failed_in [] = 0
failed_in (x ∷ xs) = x.failed + failed_in xs

-- a plain pool, and all that was done to it since a start
pub record Traced : Type 0 where
  pub pool : PlainPool
  pub trace : List Entry

abbrev pub traced : PlainPool → List Entry → Traced
traced pool trace = record { pool = pool; trace = trace }

abbrev pub outline_of_traced : Traced → Outline
outline_of_traced t = outline_of t.pool

-- HasUse: that the number of used metadata blocks of the plain pool is one that it may have.
module _ (HasUse : PlainPool → Type 0) where
  -- The entries are a run from s to the state after them, in which each fault has its cause, and each answer is one that the call may be
  -- given in the mode before it.
  abbrev pub IsTrace : PlainPool → List Entry → PlainPool → Type 0
  IsTrace s [] after = after ≡ s
  IsTrace s (x ∷ xs) after =
      (next : PlainPool) × (x.event.before ≡ s) × Takes s x.event.call x.event.answer x.event.made next
      × HasCause 0 x.event.answer x.failed × MayAnswer s.mode x.event.call x.event.answer × HasUse next × IsTrace next xs after

  -- A call of the traced plain pool is one entry more.
  pub record TracedCall (t : Traced) (call : Call) (answer : Answer) (t' : Traced) : Type 0 where
    pub entry : Entry
    pub call_is : entry.event.call ≡ call
    pub answer_is : entry.event.answer ≡ answer
    pub trace_is : t'.trace ≡ t.trace ++ entry ∷ []
    pub is_trace : IsTrace t.pool (entry ∷ []) t'.pool

-- ---- what is said of pools

-- What is said of pools of some type, over disks that may stop at any moment.
pub record View (D : Type 0) : Type 1 where
  pub outline : D → Outline  -- its geometry, mode and holds, known at any moment, whatever its disk does
  pub more : D → ℕ → ℕ  -- how many sectors beyond the pool's own size a held volume is known to have, 0 for one that nobody holds
  pub shows : D → PlainPool → Type 0  -- the plain pools of which it shows the state: none where nothing is known of it
  pub has_use : PlainPool → Type 0  -- that the number of used metadata blocks of a plain pool is one that it may have
  pub failures : D → ℕ  -- how many calls of its disk have failed
  pub flushes : D → ℕ  -- how often its disk was flushed
  pub changed : D → Bool  -- whether a node, a count or a field of the superblock has changed since the last commit
  pub lacks : D → Call → Type 0  -- that fewer blocks are free, now and at the last commit, than the call wants
  pub Image : Type 0  -- what a stop leaves
  pub may_leave : D → Image → Type 0  -- what a stop now may leave
  pub moment : D → ℕ  -- a number that does not fall
  pub left_since : D → ℕ → Image → Type 0  -- what a stop at some moment since then may leave
  pub stands_for : Image → PlainPool → Type 0  -- that an image is opened as this plain pool

-- What holds of all that is said.
pub record ViewLaws {D : Type 0} (v : View D) : Type 0 where
  pub shown : (d : D) (s : PlainPool) → v.shows d s → outline_of s ≡ v.outline d
  pub used : (d : D) (s : PlainPool) → v.shows d s → v.has_use s
  -- until the pool is failed, each volume has the pool's own size, and the sectors beyond it that are known, or more, up to 2^24 blocks
  pub sized : (d : D) (s : PlainPool) (id size : ℕ) → v.shows d s → is_failed s.mode ≡ false → volume_size s id ≡ Some size
      → (sectors_of_volume s.geometry + v.more d id ≤ size) × (size ≤ 2 ^ 24 * s.geometry.block_sectors)
  -- and whatever it shows, that is one size
  pub one_size : (d : D) (s t : PlainPool) (id : ℕ) → v.shows d s → v.shows d t → is_failed s.mode ≡ false → volume_size t id ≡ volume_size s id
  -- what is shown is a pool that serves, until it is failed
  pub consistent : (d : D) (s : PlainPool) → v.shows d s → is_failed s.mode ≡ false → IsConsistent s
  -- now is a moment since now, and the only one; what is left since a moment is left since each earlier one
  pub at_now : (d : D) (image : v.Image) → v.may_leave d image → v.left_since d (v.moment d) image
  pub only_now : (d : D) (image : v.Image) → v.left_since d (v.moment d) image → v.may_leave d image
  pub wider : (d : D) (t u : ℕ) (image : v.Image) → t ≤ u → v.left_since d u image → v.left_since d t image
  -- an image is opened with no holds, and read-only exactly where it wants a check
  pub at_rest : (image : v.Image) (P : PlainPool) → v.stands_for image P → P ≡ reopened P

module _ {D : Type 0} (v : View D) where
  -- the plain pools as which it may be opened after a stop now, and after one since some moment
  abbrev pub found_now : D → PlainPool → Type 0
  found_now d P = (image : v.Image) × v.may_leave d image × v.stands_for image P

  abbrev pub found_since : D → ℕ → PlainPool → Type 0
  found_since d t P = (image : v.Image) × v.left_since d t image × v.stands_for image P

  -- at each moment since then a stop leaves what can be opened
  abbrev pub OpensSince : D → ℕ → Type 0
  OpensSince d t = (image : v.Image) → v.left_since d t image → (P : PlainPool) × v.stands_for image P

  -- A range ends there in a volume: in the size that it is known to have, which is the pool's own where nobody holds it; or in the size
  -- that it has in whatever the pool shows.
  abbrev pub EndsInVolume : D → ℕ → ℕ → Type 0
  EndsInVolume d id end =
      (end ≤ sectors_of_volume (v.outline d).geometry + v.more d id)
      ⊎ ((end ≤ 2 ^ 24 * (v.outline d).geometry.block_sectors)
      × ((s : PlainPool) (size : ℕ) → v.shows d s → is_failed s.mode ≡ false → volume_size s id ≡ Some size → end ≤ size))

  -- ---- the clauses of one call

  -- Time goes on: what a stop since an earlier moment leaves was left before the call, or is left in it.
  pub record GoesOn (old new : D) : Type 0 where
    pub later : v.moment old ≤ v.moment new
    pub still : (t : ℕ) (image : v.Image) → t ≤ v.moment old → v.left_since old t image → v.left_since new t image
    pub earlier : (t : ℕ) (image : v.Image) → t ≤ v.moment old → v.left_since new t image → v.left_since old t image ⊎ v.left_since new (v.moment old) image

  -- One call, from any state that the pool may have. From each plain pool that was shown, the answer and the state after it are the plain
  -- pool's; and what a stop leaves, in the call or after it, can be opened, and is what that very call may leave. Of any pool, also
  -- one that shows nothing, a fault has its cause.
  pub record Called (old new : D) (call : Call) (answer : Answer) : Type 0 where
    pub time : GoesOn old new
    pub cause : HasCause (v.failures old) answer (v.failures new)
    pub opens : (s : PlainPool) → v.shows old s → OpensSince new (v.moment old)
    pub meets : (s : PlainPool) → v.shows old s →
        (made : PlainPool) × (after : PlainPool) × Takes s call answer made after × v.shows new after
        × StopsWithin (found_now old) (record { before = s; call = call; answer = answer; made = made }) (found_since new (v.moment old)) (found_now new)

  -- No call of the disk was made.
  pub record IsQuiet (old new : D) : Type 0 where
    pub failures : v.failures new ≡ v.failures old
    pub flushes : v.flushes new ≡ v.flushes old
    pub moment : v.moment new ≡ v.moment old

  -- What is known of a call of any pool, also one that shows nothing: whether it may be accepted or so refused in the mode that the pool
  -- has, the mode after it, that a call which is no writing one writes nothing, and that some calls make none of the disk.
  pub record IsAnswered (old new : D) (call : Call) (answer : Answer) : Type 0 where
    pub may : MayAnswer (v.outline old).mode call answer
    pub mode : (v.outline new).mode ≡ mode_after (v.outline old).mode call answer
    -- no write reached the disk
    pub reads : is_writing call ≡ false → v.moment new ≡ v.moment old
    pub silent : IsTrue (is_silent (v.outline old).mode call) → IsQuiet old new

  -- How often a call flushes the disk. Of any pool: never more than for a commit that frees blocks before it and one that it ends in, each of
  -- two flushes; FLUSH and closing flush twice where anything was changed since the last commit, and else once. Of a pool that is shown: where
  -- enough blocks are free, or a test refuses the call, not but for the call's own commit.
  pub record Flushes (old new : D) (call : Call) (answer : Answer) : Type 0 where
    pub no_fewer : v.flushes old ≤ v.flushes new
    pub most : v.flushes new ≤ v.flushes old + most_flushes (v.outline old).mode call
    pub few : (s : PlainPool) → v.shows old s → (v.lacks old call → ⊥) ⊎ IsSome (refusal_of s call) → v.flushes new ≤ v.flushes old + (if commits s call then 2 else 0)
    pub exact : IsTrue (is_flush call) → (v.outline old).mode ≡ Writable → answer ≡ Done → v.flushes new ≡ v.flushes old + (if v.changed old then 2 else 1)
    -- behind its commit nothing is changed, and a call that writes nothing, or is refused, changes nothing
    pub committed : (v.outline old).mode ≡ Writable → IsTrue (has_committed call answer) → v.changed new ≡ false
    pub unchanged : IsTrue (changes_nothing call answer) → v.changed new ≡ v.changed old

  -- The same to those who are served. Of any pool who holds what is known.
  pub record Meets (old new : D) (call : Call) (answer : Answer) : Type 0 where
    pub geometry : (v.outline new).geometry ≡ (v.outline old).geometry
    pub holds : (v.outline new).holds ≡ holds_after (v.outline old).holds call answer
    -- the size of a volume stays known while it is held, and is that which is told of it
    pub more : (id : ℕ) → 0 < hold_count (v.outline old).holds id → 0 < hold_count (v.outline new).holds id → v.more new id ≡ v.more old id
    pub told : (id blocks : ℕ) → call ≡ VolumeBlocks id → answer ≡ Sized blocks → 0 < hold_count (v.outline old).holds id
        → blocks * (v.outline old).geometry.block_sectors ≡ sectors_of_volume (v.outline old).geometry + v.more old id
    pub answered : IsAnswered old new call answer
    pub flushes : Flushes old new call answer
    pub called : Called old new call answer

  -- as a relation of the pool before and the pool after
  abbrev pub PoolCall : D → Call → Answer → D → Type 0
  PoolCall old call answer new = Meets old new call answer

  -- A call that ends in a commit, made of a pool that works but for that: no test refused it, it is not answered yet, and a FLUSH is what is left of it. No call of the
  -- disk failed, and none was a flush, but for a commit that frees blocks before the call. A stop leaves it or not.
  pub record Unkept (old new : D) (call : Call) : Type 0 where
    pub works : (v.outline old).mode ≡ Writable
    pub outline : v.outline new ≡ v.outline old
    pub more : (id : ℕ) → 0 < hold_count (v.outline old).holds id → v.more new id ≡ v.more old id
    pub failures : v.failures new ≡ v.failures old
    pub no_fewer : v.flushes old ≤ v.flushes new
    pub most : v.flushes new ≤ v.flushes old + (if may_reclaim call then 2 else 0)
    pub few : (s : PlainPool) → v.shows old s → (v.lacks old call → ⊥) → v.flushes new ≡ v.flushes old
    pub time : GoesOn old new
    pub opens : (s : PlainPool) → v.shows old s → OpensSince new (v.moment old)
    pub meets : (s : PlainPool) → v.shows old s →
        (made : PlainPool) × (refusal_of s call ≡ None) × Makes s call made × v.shows new made
        × ((P : PlainPool) → found_since new (v.moment old) P → During (found_now old) (record { before = s; call = call; answer = Done; made = made }) P)

-- One call, by its result: the answer that is meant where it was accepted, and else its refusal.
abbrev pub MetBy : {D : Type 0} {A : Type 0} → View D → D → D → Call → (A → Answer) → Result A Refusal → Type 0
MetBy v old new call meant result = MatchResult result (λ x. Meets v old new call (meant x)) (λ reason. Meets v old new call (Refused reason))

-- ---- a pool and the traced plain pool

module _ {D : Type 0} (v : View D) (from : D) (s : PlainPool) where
  -- From the pool `from`, which showed s, the pool has come to show t: the trace is a run from s, as many calls of the disk failed as failed
  -- in its events, and what a stop now leaves can be opened, as what may be found after them.
  pub record HasTrace (pool : D) (t : Traced) : Type 0 where
    pub shown : v.shows pool t.pool
    pub is_trace : IsTrace v.has_use s t.trace t.pool
    pub failures_are : v.failures pool ≡ v.failures from + failed_in t.trace
    pub opens : OpensSince v pool (v.moment pool)
    pub left : (P : PlainPool) → found_now v pool P → MayBeLeft (found_now v from) s (events_of t.trace) Nothing P

  -- A pool and its trace went on to these: what a stop at some moment since the first leaves can be opened, as what may be found after
  -- the events of the first trace, at a moment of the later ones.
  pub record Continues (old : D) (t : Traced) (new : D) (t' : Traced) : Type 0 where
    pub since : List Entry
    pub trace_is : t'.trace ≡ t.trace ++ since
    pub time : GoesOn v old new
    pub opens : OpensSince v new (v.moment old)
    pub left : (P : PlainPool) → found_since v new (v.moment old) P → MayBeLeftSince (found_now v from) s (events_of t.trace) (events_of since) P

-- ---- opening

-- The pool was opened from this image: it shows each plain pool as which the image is opened, a stop leaves nothing else, and nothing was
-- changed since.
pub record IsOpened {D : Type 0} (v : View D) (image : v.Image) (d : D) : Type 0 where
  pub shows : (s : PlainPool) → v.stands_for image s → v.shows d s
  pub opens : (s : PlainPool) → v.stands_for image s → OpensSince v d (v.moment d)
  pub left : (s S : PlainPool) → v.stands_for image s → found_now v d S → MayReopen s Nothing S
  pub unchanged : v.changed d ≡ false

-- ---- lists of calls

-- a call with its answer, and the pool after it
pub record Asked (S : Type 0) : Type 0 where
  pub call : Call
  pub answer : Answer
  pub after : S

abbrev pub last_of : {S : Type 0} → S → List (Asked S) → S
last_of p [] = p
last_of p (c ∷ cs) = last_of c.after cs

-- each is a call of the pool that the one before left
abbrev pub AreCalls : {S : Type 0} → (S → Call → Answer → S → Type 0) → S → List (Asked S) → Type 0
AreCalls Calls p [] = Unit {0}
AreCalls Calls p (c ∷ cs) = Calls p c.call c.answer c.after × AreCalls Calls c.after cs

module _ {D : Type 0} (v : View D)
    (from : D) (s : PlainPool) where
  -- The calls of a pool, and calls of the traced plain pool that are the same one by one. At each place the pool has the trace up to
  -- there, and in each call a stop leaves what may be found after the events before it and in its own.
  abbrev pub AreTraced : D → Traced → List (Asked D) → List (Asked Traced) → Type 0
  AreTraced d t [] [] = Unit {0}
  AreTraced d t (c ∷ cs) (k ∷ ks) =
      (k.call ≡ c.call) × (k.answer ≡ c.answer) × TracedCall v.has_use t k.call k.answer k.after
      × HasTrace v from s c.after k.after
      × Continues v from s d t c.after k.after
      × AreTraced c.after k.after cs ks
  AreTraced d t _ _ = ⊥
