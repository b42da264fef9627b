-- How often a call flushes the disk, and what it leaves changed.
use Rattle.std.proofs.Common.{◌≡◌, ◌⊎◌, inl, inr, ℕ, ◌+◌, ◌<◌, ◌≤◌, ◌↔◌, Bool, true, false, not, None, Some, Option, Result, Ok, Err, List, length, refl, sym, ◌∙◌, ap, arith, subst}
use Rattle.std.specs.Prelude.{IfErr, IsSome, is_some, IsTrue, MatchResult, OnOk, nat_lt, ◌&&◌, if◌then◌else◌}
use Rattle.std.specs.Option.{option_map_or}
use Rattle.std.proofs.lemmas.Bool.{cases_lt, false≢true, lt-ltb, true≢false}
use Rattle.tp_model.specs.declared.mode.Mode.{Mode}
use Rattle.tp_model.specs.declared.mode.Mode.TheVariants as mode
use Rattle.tp_model.specs.declared.refusal.Refusal.{Refusal}
use Rattle.tp_model.specs.declared.refusal.Refusal.TheVariants.{Damaged, Fault, NoDataSpace, NoMetadataSpace}
use Rattle.tp_model.specs.Geometry.{Geometry}
use Rattle.tp_model.specs.Sectors.{Sector}
use Rattle.tp_model.specs.Pool.{PlainPool}
use Rattle.tp_model.specs.Calls.{Answer, Call, Close, Done, Gave, Read, Refused, Write, accepted_commits, commits, ends_in_commit, has_committed, is_failed, is_failure, is_flush, is_read_only, is_writing, may_reclaim, most_flushes, refusal_of, refused_commits}
use Rattle.tp_model.specs.Clauses.{Flushes}
use Rattle.tp_model.specs.Disk.{DiskState}
use Rattle.tp_sharing.specs.Volumes.{device_of, used}
use Rattle.tp_mapping.specs.Mapping.{free_places}
use Rattle.tp_stored.specs.Contents.{Contents}
use Rattle.tp_shown.specs.Shown.{blocks_touched, blocks_wanted, first_block}
use Rattle.tp_pool.specs.Held.{AnswersSo, EndsShort, Held, IsFlush, LiesIn, PoolAnswered, failed_by, shows}
use Rattle.tp_pool.specs.Flushes.{FlushesSo, HasChanged, HasFlushed, IsInPlace, Lacks, PoolClosed, StaysInPlace, served}
use Rattle.tp_pool.specs.Unkept.{HasReclaimed}
use Rattle.tp_pool.specs.Writing.{LacksMetadata, blocks_taken}
use Rattle.tp_pool.proofs.Calling.{Laws}
use Rattle.tp_pool.proofs.Create.{passes_room}
use Rattle.tp_pool.proofs.Keeping.{flushes_are}
use Rattle.tp_pool.proofs.Putting.{put_accepts}
use Rattle.tp_pool.proofs.Serving.{is_some_from}

-- ---- numbers

pub two_at_most : (b : Bool) (x y : ℕ) → y ≤ x + (if b then 2 else 1) → y ≤ x + 2
two_at_most true x y le = le
two_at_most false x y le = omega (arith, le)

as_before : (n a k : ℕ) → n ≡ a → n ≤ a + k
as_before n a k e = omega (arith, e)

within_two : (n a : ℕ) (b : Bool) → b ≡ true → n ≤ a + 2 → n ≤ a + (if b then 2 else 0)
within_two n a b e le = subst (λ (x : Bool). n ≤ a + (if x then 2 else 0)) (sym e) le

-- a commit before the call, and one that it ends in
within_first : (n a k : ℕ) (b : Bool) → b ≡ true → n ≤ a + 2 → n ≤ a + ((if b then 2 else 0) + k)
within_first n a k b e le = let two : n ≤ a + (2 + k) = omega (arith, le) in subst (λ (x : Bool). n ≤ a + ((if x then 2 else 0) + k)) (sym e) two

within_both : (n a : ℕ) (b e : Bool) → b ≡ true → e ≡ true → n ≤ a + 4 → n ≤ a + ((if b then 2 else 0) + (if e then 2 else 0))
within_both n a b e is ends le =
    subst (λ (y : Bool). n ≤ a + ((if b then 2 else 0) + (if y then 2 else 0))) (sym ends)
    (subst (λ (x : Bool). n ≤ a + ((if x then 2 else 0) + 2)) (sym is) le)

within_last : (n a k : ℕ) (e : Bool) → e ≡ true → n ≤ a + 2 → n ≤ a + (k + (if e then 2 else 0))
within_last n a k e ends le = let two : n ≤ a + (k + 2) = omega (arith, le) in subst (λ (y : Bool). n ≤ a + (k + (if y then 2 else 0))) (sym ends) two

at_least : (a b : ℕ) → (b < a → ⊥) → a ≤ b
at_least a b h = elim (cases_lt b a) [ inl lt ↦ absurd (h lt) | inr ge ↦ omega (arith, ge) ]

-- ---- where a call commits

module _ (s : PlainPool) (call : Call) where
  commits_by : (o : Option Refusal) → refusal_of s call ≡ o → commits s call ≡ option_map_or refused_commits o (accepted_commits s call)
  commits_by o e = ap (λ (x : Option Refusal). option_map_or refused_commits x (accepted_commits s call)) e

  commits_at_end : refusal_of s call ≡ None → ends_in_commit call ≡ true → s.mode ≡ mode.Writable → commits s call ≡ true
  commits_at_end accepted ends works = commits_by None accepted ∙ (λ i. ends i && not (is_read_only (works i)))

-- ---- what is changed

module _ {M : Type 0} (changed : M → Bool) (old new : M) (call : Call) where
  abbrev Changes : Result (Unit {0}) Refusal → Type 0
  Changes result = HasChanged changed old new call result

  no_commit : (reason : Refusal) → (reason ≡ Fault) ⊎ (reason ≡ Damaged) → refused_commits reason ≡ false
  no_commit reason (inl e) = ap refused_commits e
  no_commit reason (inr e) = ap refused_commits e

  failing : (reason : Refusal) → (reason ≡ Fault) ⊎ (reason ≡ Damaged) → (not (refused_commits reason) && not (is_failure reason)) ≡ false
  failing reason (inl e) = ap (λ (r : Refusal). not (refused_commits r) && not (is_failure r)) e
  failing reason (inr e) = ap (λ (r : Refusal). not (refused_commits r) && not (is_failure r)) e

  fails : (reason : Refusal) → (reason ≡ Fault) ⊎ (reason ≡ Damaged) → Changes (Err reason)
  fails reason is = record {
    committed = λ wants. absurd (false≢true (sym (no_commit reason is) ∙ wants));
    unchanged = λ wants. absurd (false≢true (sym (failing reason is) ∙ wants));
  }

  -- at the exit of a `?`
  pub changed_failed : (result : Result (Unit {0}) Refusal) (x y : Refusal) → result ≡ Err y → x ≡ y → (x ≡ Fault) ⊎ (x ≡ Damaged) → Changes result
  changed_failed result x y is that only = subst Changes (sym is) (subst (λ (r : Refusal). Changes (Err r)) that (fails x only))

  pub changed_nothing : (reason : Refusal) → refused_commits reason ≡ false → new ≡ old → Changes (Err reason)
  changed_nothing reason keeps same = record {
    committed = λ wants. absurd (false≢true (sym keeps ∙ wants));
    unchanged = λ wants. ap changed same;
  }

  pub changed_read : (result : Result (Unit {0}) Refusal) (x y : Refusal) → result ≡ Err y → x ≡ y → refused_commits x ≡ false → new ≡ old → Changes result
  changed_read result x y is that keeps same = subst Changes (sym is) (subst (λ (r : Refusal). Changes (Err r)) that (changed_nothing x keeps same))

  pub changed_kept : (result : Result (Unit {0}) Refusal) → OnOk result (changed new ≡ false) → IfErr result (λ reason. reason ≡ Fault) → Changes result
  changed_kept (Ok x) kept only = record { committed = λ ends. kept; unchanged = tt }
  changed_kept (Err reason) kept only = fails reason (inl only)

  pub changed_done : ends_in_commit call ≡ false → Changes (Ok tt)
  changed_done ends = record { committed = λ wants. absurd (false≢true (sym ends ∙ wants)); unchanged = tt }

pub changed_short : {M : Type 0} (changed : M → Bool) (call : Call) (old new : Held M) (before : M) (result : Result (Unit {0}) Refusal) → EndsShort old new result
    → (result ≡ Err NoMetadataSpace → changed new.metadata ≡ false) → HasChanged changed before new.metadata call result
changed_short changed call old new before (Ok x) ends kept = absurd ends
changed_short changed call old new before (Err reason) (inl e) kept = fails changed before new.metadata call reason (inl e.0)
changed_short changed call old new before (Err reason) (inr e) kept = record {
  committed = λ wants. kept (ap (λ (r : Refusal). Err r) e.0);
  unchanged = λ wants. absurd (false≢true (sym (ap (λ (r : Refusal). not (refused_commits r) && not (is_failure r)) e.0) ∙ wants));
}

pub tested_commits : (reason : Refusal) → (reason ≡ Fault) ⊎ (reason ≡ Damaged) ⊎ (reason ≡ NoDataSpace) → refused_commits reason ≡ false
tested_commits reason (inl e) = ap refused_commits e
tested_commits reason (inr (inl e)) = ap refused_commits e
tested_commits reason (inr (inr e)) = ap refused_commits e

pub failure_commits : (reason : Refusal) → (reason ≡ Fault) ⊎ (reason ≡ Damaged) → refused_commits reason ≡ false
failure_commits reason (inl e) = ap refused_commits e
failure_commits reason (inr e) = ap refused_commits e

-- ---- parts of calls

module _ {M : Type 0} (geometry : M → Geometry) (stands : M → DiskState → Contents → Contents → Type 0) (marks : M → List Bool) (room : M → ℕ) where
  abbrev Counted : Held M → DiskState → Call → Type 0
  Counted old new call = HasFlushed geometry stands marks room old new call

  abbrev Shown : Held M → PlainPool → Type 0
  Shown = shows geometry stands

  abbrev Wants : Held M → Call → Type 0
  Wants = Lacks geometry stands marks room

  pub counted_nothing : (old : Held M) (new : DiskState) (call : Call) → new.flushes ≡ old.disk.flushes → Counted old new call
  counted_nothing old new call same = record {
    no_fewer = omega (arith, same);
    most = as_before new.flushes old.disk.flushes (most_flushes old.mode call) same;
    few = λ s shown enough. as_before new.flushes old.disk.flushes (if commits s call then 2 else 0) same;
  }

  pub reclaimed_nothing : (old : Held M) (new : DiskState) (call : Call) → new.flushes ≡ old.disk.flushes → HasReclaimed geometry stands marks room old new call
  reclaimed_nothing old new call same = record {
    no_fewer = omega (arith, same);
    most = as_before new.flushes old.disk.flushes (if may_reclaim call then 2 else 0) same;
    few = λ s shown enough. same;
  }

  works_in : (h : Held M) (s : PlainPool) → h.mode ≡ mode.Writable → Shown h s → s.mode ≡ mode.Writable
  works_in h s works (inl w) = w.2.mode_is ∙ works
  works_in h s works (inr f) = absurd (false≢true (sym (ap is_failed works) ∙ ap is_failed f.failed))

  -- a commit of its own, and none before it
  pub counted_only : (old : Held M) (call : Call) → old.mode ≡ mode.Writable → ends_in_commit call ≡ true → ((s : PlainPool) → Shown old s → refusal_of s call ≡ None)
      → (new : DiskState) → (old.disk.flushes ≤ new.flushes) × (new.flushes ≤ old.disk.flushes + 2) → Counted old new call
  counted_only old call works ends accepted new some = record {
    no_fewer = some.0;
    most = subst (λ (m : Mode). new.flushes ≤ old.disk.flushes + most_flushes m call) (sym works)
        (within_last new.flushes old.disk.flushes (if may_reclaim call then 2 else 0) (ends_in_commit call) ends some.1);
    few = λ s shown enough.
        within_two new.flushes old.disk.flushes (commits s call) (commits_at_end s call (accepted s shown) ends (works_in old s works shown)) some.1;
  }

  -- it was refused for want of metadata room, which a commit keeps, and ends in one else
  pub counted_refused : (old : Held M) (call : Call) → old.mode ≡ mode.Writable → ends_in_commit call ≡ true → ((s : PlainPool) → Shown old s → refusal_of s call ≡ Some NoMetadataSpace)
      → (new : DiskState) → (old.disk.flushes ≤ new.flushes) × (new.flushes ≤ old.disk.flushes + 2) → Counted old new call
  counted_refused old call works ends refused new some = record {
    no_fewer = some.0;
    most = subst (λ (m : Mode). new.flushes ≤ old.disk.flushes + most_flushes m call) (sym works)
        (within_last new.flushes old.disk.flushes (if may_reclaim call then 2 else 0) (ends_in_commit call) ends some.1);
    few = λ s shown enough. within_two new.flushes old.disk.flushes (commits s call) (commits_by s call (Some NoMetadataSpace) (refused s shown)) some.1;
  }

  module _ (old : Held M) (call : Call) (works : old.mode ≡ mode.Writable) (reclaims : may_reclaim call ≡ true) where
    most_before : (n : ℕ) → n ≤ old.disk.flushes + 2 → n ≤ old.disk.flushes + most_flushes old.mode call
    most_before n le =
        subst (λ (m : Mode). n ≤ old.disk.flushes + most_flushes m call) (sym works)
        (within_first n old.disk.flushes (if ends_in_commit call then 2 else 0) (may_reclaim call) reclaims le)

    most_behind : (n : ℕ) → ends_in_commit call ≡ true → n ≤ old.disk.flushes + 4 → n ≤ old.disk.flushes + most_flushes old.mode call
    most_behind n ends le =
        subst (λ (m : Mode). n ≤ old.disk.flushes + most_flushes m call) (sym works)
        (within_both n old.disk.flushes (may_reclaim call) (ends_in_commit call) reclaims ends le)

    -- it was refused for want of metadata room, which a commit keeps
    pub counted_short : (new : DiskState) → ((s : PlainPool) → Shown old s → refusal_of s call ≡ Some NoMetadataSpace)
        → (old.disk.flushes ≤ new.flushes) × (new.flushes ≤ old.disk.flushes + 2) → Counted old new call
    counted_short new refused some = record {
      no_fewer = some.0;
      most = most_before new.flushes some.1;
      few = λ s shown enough. within_two new.flushes old.disk.flushes (commits s call) (commits_by s call (Some NoMetadataSpace) (refused s shown)) some.1;
    }

    -- behind the commit that frees blocks, where there is one
    module _ (accepted : (s : PlainPool) → Shown old s → refusal_of s call ≡ None) (d : DiskState) (some : (old.disk.flushes ≤ d.flushes) × (d.flushes ≤ old.disk.flushes + 2))
        (idle : (s : PlainPool) → Shown old s → (Wants old call → ⊥) → d.flushes ≡ old.disk.flushes) where
      none_before : (s : PlainPool) → Shown old s → (Wants old call → ⊥) ⊎ IsSome (refusal_of s call) → d.flushes ≡ old.disk.flushes
      none_before s shown (inl enough) = idle s shown enough
      none_before s shown (inr refused) = absurd (false≢true (sym (ap is_some (accepted s shown)) ∙ is_some_from (refusal_of s call) refused))

      -- and no other
      pub counted_before : (new : DiskState) → new.flushes ≡ d.flushes → Counted old new call
      counted_before new same = record {
        no_fewer = omega (arith, same, some);
        most = let two : new.flushes ≤ old.disk.flushes + 2 = omega (arith, same, some) in most_before new.flushes two;
        few = λ s shown enough. as_before new.flushes old.disk.flushes (if commits s call then 2 else 0) (same ∙ none_before s shown enough);
      }

      -- the same of a call that is to end in one
      pub reclaimed : (new : DiskState) → new.flushes ≡ d.flushes → HasReclaimed geometry stands marks room old new call
      reclaimed new same = record {
        no_fewer = omega (arith, same, some);
        most = let two : new.flushes ≤ old.disk.flushes + 2 = omega (arith, same, some) in within_two new.flushes old.disk.flushes (may_reclaim call) reclaims two;
        few = λ s shown enough. same ∙ idle s shown enough;
      }

      -- and the one that it ends in
      pub counted_behind : (last new : DiskState) → ends_in_commit call ≡ true → last.flushes ≡ d.flushes → (last.flushes ≤ new.flushes) × (new.flushes ≤ last.flushes + 2) → Counted old new call
      counted_behind last new ends same more = record {
        no_fewer = omega (arith, same, some, more);
        most = let four : new.flushes ≤ old.disk.flushes + 4 = omega (arith, same, some, more) in most_behind new.flushes ends four;
        few = λ s shown enough.
            let none = none_before s shown enough in
            let two : new.flushes ≤ old.disk.flushes + 2 = omega (arith, same, none, more) in
            within_two new.flushes old.disk.flushes (commits s call) (commits_at_end s call (accepted s shown) ends (works_in old s works shown)) two;
      }

  -- ---- whole calls

  module _ (changed : M → Bool) where
    abbrev pub Flushed : Held M → Held M → Call → Answer → Type 0
    Flushed old new call answer = Flushes (served geometry stands marks room changed) old new call answer

    abbrev AllSo : Held M → Held M → Call → Result (Unit {0}) Refusal → Type 0
    AllSo = FlushesSo geometry stands marks room changed

    pub flushed_nothing : (old new : Held M) (call : Call) (answer : Answer) → new.disk.flushes ≡ old.disk.flushes → new.metadata ≡ old.metadata
        → (IsTrue (is_flush call) → old.mode ≡ mode.Writable → answer ≡ Done → ⊥) → (old.mode ≡ mode.Writable → IsTrue (has_committed call answer) → ⊥)
        → Flushed old new call answer
    flushed_nothing old new call answer same metadata no_flush no_commit =
        let counted = counted_nothing old new.disk call same in
        record {
          no_fewer = counted.no_fewer;
          most = counted.most;
          few = counted.few;
          exact = λ is works done. absurd (no_flush is works done);
          committed = λ works has. absurd (no_commit works has);
          unchanged = λ none. ap changed metadata;
        }

    -- a failed pool
    pub flushed_failed : (h : Held M) (call : Call) (answer : Answer) → is_failed h.mode ≡ true → Flushed h h call answer
    flushed_failed h call answer failed =
        flushed_nothing h h call answer refl refl
        (λ is works done. absurd (false≢true (sym (ap is_failed works) ∙ failed)))
        (λ works has. absurd (false≢true (sym (ap is_failed works) ∙ failed)))

    -- a call that reads, which is not refused for want of metadata room
    pub flushed_read : (old new : Held M) (call : Call) (answer : Answer) → new.disk.flushes ≡ old.disk.flushes → new.metadata ≡ old.metadata → is_flush call ≡ false → has_committed call answer ≡ false
        → Flushed old new call answer
    flushed_read old new call answer same metadata is_no no_commit =
        flushed_nothing old new call answer same metadata
        (λ is works done. absurd (false≢true (sym is_no ∙ is)))
        (λ works has. absurd (false≢true (sym no_commit ∙ has)))

    pub read_flushes : (id sector count : ℕ) (xs : List Sector) (old new : Held M) → new.disk.flushes ≡ old.disk.flushes → new.metadata ≡ old.metadata
        → (result : Result (Unit {0}) Refusal) → IfErr result (λ reason. (reason ≡ Fault) ⊎ (reason ≡ Damaged))
        → MatchResult result (λ x. Flushed old new (Read id sector count) (Gave xs)) (λ reason. Flushed old new (Read id sector count) (Refused reason))
    read_flushes id sector count xs old new same metadata (Ok x) only = flushed_read old new (Read id sector count) (Gave xs) same metadata refl refl
    read_flushes id sector count xs old new same metadata (Err reason) only =
        flushed_read old new (Read id sector count) (Refused reason) same metadata refl (failure_commits reason only)

    -- a call that writes, behind its parts
    pub settled_flushes : (call : Call) (old mid new : Held M) (answer result : Result (Unit {0}) Refusal) → is_writing call ≡ true → is_flush call ≡ false → result ≡ answer → OnOk answer (new ≡ mid)
        → IfErr answer (λ reason. new ≡ failed_by reason mid) → Counted old mid.disk call → HasChanged changed old.metadata mid.metadata call answer → AllSo old new call result
    settled_flushes call old mid new (Ok x) result writes is_no same done failed counted changes =
        subst (AllSo old new call) (sym same)
        (subst (λ (h : Held M). Flushed old h call Done) (sym done)
        (record {
          no_fewer = counted.no_fewer;
          most = counted.most;
          few = counted.few;
          exact = λ is works e. absurd (false≢true (sym is_no ∙ is));
          committed = λ works ends. changes.committed ends;
          unchanged = λ none. absurd (false≢true (sym (ap not writes) ∙ none));
        }))
    settled_flushes call old mid new (Err reason) result writes is_no same done failed counted changes =
        subst (AllSo old new call) (sym same)
        (subst (λ (h : Held M). Flushed old h call (Refused reason)) (sym failed)
        (record {
          no_fewer = counted.no_fewer;
          most = counted.most;
          few = counted.few;
          exact = λ is works e. absurd (false≢true (sym is_no ∙ is));
          committed = λ works wants. changes.committed wants;
          unchanged = λ none. changes.unchanged ((λ i. not (refused_commits reason) && not (by (is_failure reason) (is_writing call) (sym writes) i)) ∙ none);
        }))
      where
        by : (b w : Bool) → true ≡ w → b ≡ (b && w)
        by true w e = e
        by false w e = refl

    -- ---- FLUSH and closing

    pub flush_nothing : (call : Call) → IsFlush call → (h : Held M) → h.mode ≡ mode.ReadOnly → Flushed h h call Done
    flush_nothing call is h reads =
        flushed_nothing h h call Done refl refl
        (λ flushes works done. absurd (false≢true (sym (ap is_read_only works) ∙ ap is_read_only reads)))
        (λ works has. absurd (false≢true (sym (ap is_read_only works) ∙ ap is_read_only reads)))

    ends : (call : Call) → IsFlush call → ends_in_commit call ≡ true
    ends call (inl e) = ap ends_in_commit e
    ends call (inr e) = ap ends_in_commit e

    writes : (call : Call) → IsFlush call → is_writing call ≡ true
    writes call (inl e) = ap is_writing e
    writes call (inr e) = ap is_writing e

    module _ (call : Call) (is : IsFlush call) (old mid new : Held M) (works : old.mode ≡ mode.Writable)
        (some : (old.disk.flushes ≤ mid.disk.flushes) × (mid.disk.flushes ≤ old.disk.flushes + 2)) where
      flush_counted : Counted old mid.disk call
      flush_counted =
          counted_only old call works (ends call is) (λ s shown. (flushes_are call is).accepts s (ap is_failed (works_in old s works shown))) mid.disk some

      pub flush_flushes : (answer result : Result (Unit {0}) Refusal) → result ≡ answer → OnOk answer (new ≡ mid) → IfErr answer (λ reason. new ≡ failed_by reason mid)
          → OnOk answer (mid.disk.flushes ≡ old.disk.flushes + (if changed old.metadata then 2 else 1)) → OnOk answer (changed mid.metadata ≡ false) → IfErr answer (λ reason. reason ≡ Fault)
          → AllSo old new call result
      flush_flushes (Ok x) result same done failed exact kept only =
          subst (AllSo old new call) (sym same)
          (subst (λ (h : Held M). Flushed old h call Done) (sym done)
          (record {
            no_fewer = flush_counted.no_fewer;
            most = flush_counted.most;
            few = flush_counted.few;
            exact = λ flushes at e. exact;
            committed = λ at has. kept;
            unchanged = λ none. absurd (false≢true (sym (ap not (writes call is)) ∙ none));
          }))
      flush_flushes (Err reason) result same done failed exact kept only =
          subst (AllSo old new call) (sym same)
          (subst (λ (h : Held M). Flushed old h call (Refused reason)) (sym failed)
          (record {
            no_fewer = flush_counted.no_fewer;
            most = flush_counted.most;
            few = flush_counted.few;
            exact = λ flushes at e. absurd (is_refused reason e);
            committed = λ at wants. absurd (false≢true (sym (ap refused_commits only) ∙ wants));
            unchanged = λ none. absurd (false≢true (sym ((λ i. not (refused_commits (only i)) && not (is_failure (only i) && writes call is i))) ∙ none));
          }))
        where
          is_done : Answer → Bool
          is_done Done = true
          is_done a = false

          is_refused : (r : Refusal) → Refused r ≡ Done → ⊥
          is_refused r e = false≢true (ap is_done e)

-- the disk of a closed pool
pub closed_from : {M : Type 0} (geometry : M → Geometry) (stands : M → DiskState → Contents → Contents → Type 0) (marks : M → List Bool) (room : M → ℕ) (changed : M → Bool) (old new : Held M) (disk : DiskState)
    (result : Result (Unit {0}) Refusal) → new.disk ≡ disk → PoolAnswered geometry stands old new Close result → AnswersSo geometry stands old new Close result → FlushesSo geometry stands marks room changed old new Close result
    → MatchResult result (λ _. PoolClosed geometry stands marks room changed old disk Done) (λ reason. PoolClosed geometry stands marks room changed old disk (Refused reason))
closed_from geometry stands marks room changed old new disk (Ok x) is called answered flushes = (new, called, is, answered, flushes)
closed_from geometry stands marks room changed old new disk (Err reason) is called answered flushes = (new, called, is, answered, flushes)

-- ---- a write

-- of no sectors
pub no_sectors_end : (id sector : ℕ) (xs : List Sector) (fua : Bool) → length xs ≡ 0 → ends_in_commit (Write id sector xs fua) ≡ false
no_sectors_end id sector xs fua none = ap (λ n. fua && nat_lt 0 n) none ∙ by fua
  where
    by : (b : Bool) → (b && false) ≡ false
    by true = refl
    by false = refl

-- Behind the tests: of a pool that is shown as `held`, whose disk was read up to `start`.
module _ {M : Type 0} {geometry : M → Geometry} {stands : M → DiskState → Contents → Contents → Type 0} {marks : M → List Bool} {room : M → ℕ} (laws : Laws geometry stands marks room) (id sector : ℕ) (xs : List Sector) (fua : Bool)
    (count : ℕ) (long : length xs ≡ count) (some : 0 < count) (was held : Held M) (shown : was ≡ held) (works : held.mode ≡ mode.Writable) (range : LiesIn geometry stands held id (sector + count))
    (there : (now kept : Contents) → stands held.metadata held.disk now kept → IsSome (device_of id now.volumes)) (start : DiskState) (read : start ≡ was.disk)
    (lacks : Bool) (lacks_told : (disk : DiskState) (now kept : Contents) → stands was.metadata disk now kept
    → IsTrue lacks ↔ LacksMetadata (geometry was.metadata) now) (passes : lacks ≡ false)
    (taken : ℕ) (tested : (now kept : Contents) → stands was.metadata was.disk now kept
    → (used now.volumes + blocks_wanted id now.volumes (first_block (geometry was.metadata) sector) (blocks_touched (geometry was.metadata) sector count) ≤ (geometry was.metadata).data_blocks)
    × (taken ≡ blocks_taken id now.volumes (marks was.metadata) (first_block (geometry was.metadata) sector) (blocks_touched (geometry was.metadata) sector count)))
    (mid : M) (d : DiskState) (few : (start.flushes ≤ d.flushes) × (d.flushes ≤ start.flushes + 2))
    (idle : 512 ≤ room was.metadata → (now kept : Contents) → stands was.metadata start now kept → taken ≤ free_places (geometry was.metadata) now.volumes kept.volumes → (mid ≡ was.metadata) × (d ≡ start)) where
  abbrev asked : Call
  asked = Write id sector xs fua

  abbrev before : Held M
  before = record was { disk = start }

  abbrev size : Geometry
  size = geometry was.metadata

  is_held : before ≡ held
  is_held = (λ i. let h : Held M = record was { disk = read i } in h) ∙ shown

  writable : before.mode ≡ mode.Writable
  writable = ap (λ (h : Held M). h.mode) is_held ∙ works

  some_sector : 0 < length xs
  some_sector = omega (arith, some, long)

  lies : LiesIn geometry stands before id (sector + length xs)
  lies = subst (λ n. LiesIn geometry stands before id (sector + n)) (sym long) (subst (λ (h : Held M). LiesIn geometry stands h id (sector + count)) (sym is_held) range)

  has_device : (now kept : Contents) → stands was.metadata start now kept → IsSome (device_of id now.volumes)
  has_device = subst (λ (h : Held M). (now kept : Contents) → stands h.metadata h.disk now kept → IsSome (device_of id now.volumes)) (sym is_held) there

  abbrev Tested : Contents → ℕ → Type 0
  Tested now n =
      (used now.volumes + blocks_wanted id now.volumes (first_block size sector) (blocks_touched size sector n) ≤ size.data_blocks)
      × (taken ≡ blocks_taken id now.volumes (marks was.metadata) (first_block size sector) (blocks_touched size sector n))

  told : (now kept : Contents) → stands was.metadata start now kept → Tested now (length xs)
  told now kept st = subst (Tested now) (sym long) (tested now kept (subst (λ (x : DiskState). stands was.metadata x now kept) read st))

  accepted : (s : PlainPool) → shows geometry stands before s → refusal_of s asked ≡ None
  accepted = put_accepts laws id sector xs fua some_sector before writable lies has_device
      (λ now kept st. (passes_room size now lacks (lacks_told start now kept st) passes, (told now kept st).0))

  rests : (s : PlainPool) → shows geometry stands before s → (Lacks geometry stands marks room before asked → ⊥) → d.flushes ≡ before.disk.flushes
  rests s (inl w) enough =
      let t = (told w.0 w.1 w.2.standing).1 in
      let free : blocks_taken id w.0.volumes (marks was.metadata) (first_block size sector) (blocks_touched size sector (length xs)) ≤ free_places size w.0.volumes w.1.volumes =
      at_least _ _ (λ less. enough (inr (w.0, w.1, w.2.standing, less))) in
      ap (λ (x : DiskState). x.flushes) (idle (at_least 512 (room was.metadata) (λ less. enough (inl less))) w.0 w.1 w.2.standing (omega (arith, t, free))).1
  rests s (inr f) enough = absurd (false≢true (sym (ap is_failed writable) ∙ ap is_failed f.failed))

  reclaims : may_reclaim asked ≡ true
  reclaims = lt-ltb 0 (length xs) some_sector

  -- it flushed no more
  pub write_before : (new : DiskState) → new.flushes ≡ d.flushes → HasFlushed geometry stands marks room held new asked
  write_before new same =
      subst (λ (h : Held M). HasFlushed geometry stands marks room h new asked) is_held
      (counted_before geometry stands marks room before asked writable reclaims accepted d few rests new same)

  -- and it was kept
  pub write_behind : (last new : DiskState) → fua ≡ true → last.flushes ≡ d.flushes → (last.flushes ≤ new.flushes) × (new.flushes ≤ last.flushes + 2) → HasFlushed geometry stands marks room held new asked
  write_behind last new keeps same more =
      subst (λ (h : Held M). HasFlushed geometry stands marks room h new asked) is_held
      (counted_behind geometry stands marks room before asked writable reclaims accepted d few rests last new (λ i. keeps i && reclaims i) same more)

  pub write_ends : fua ≡ false → ends_in_commit asked ≡ false
  write_ends plain = ap (λ (b : Bool). b && nat_lt 0 (length xs)) plain

  -- ---- in place

  module _ (put : M) (last : DiskState) (same : last.flushes ≡ d.flushes)
      (still : (now kept : Contents) → stands mid d now kept → IsSome (device_of id now.volumes)
      → blocks_taken id now.volumes (marks mid) (first_block (geometry mid) sector) (blocks_touched (geometry mid) sector count) ≡ 0 → put ≡ mid) where
    in_place_before : IsInPlace geometry stands marks room before asked → (put ≡ was.metadata) × (last.flushes ≡ start.flushes)
    in_place_before (enough, now, kept, st, none) =
        let t = (told now kept st).1 in
        let rests = idle enough now kept st (omega (arith, t, none)) in
        let there_now = subst (λ (x : DiskState). stands was.metadata x now kept) (sym rests.1) st in
        let here = subst (λ (m : M). stands m d now kept) (sym rests.0) there_now in
        let zero : blocks_taken id now.volumes (marks was.metadata) (first_block size sector) (blocks_touched size sector count) ≡ 0 =
        subst (λ n. blocks_taken id now.volumes (marks was.metadata) (first_block size sector) (blocks_touched size sector n) ≡ 0) long none in
        let none_here = subst (λ (m : M). blocks_taken id now.volumes (marks m) (first_block (geometry m) sector) (blocks_touched (geometry m) sector count) ≡ 0) (sym rests.0) zero in
        (still now kept here (has_device now kept st) none_here ∙ rests.0, same ∙ ap (λ (x : DiskState). x.flushes) rests.1)

    in_place_at : IsInPlace geometry stands marks room held asked → (put ≡ held.metadata) × (last.flushes ≡ held.disk.flushes)
    in_place_at at =
        let r = in_place_before (subst (λ (h : Held M). IsInPlace geometry stands marks room h asked) (sym is_held) at) in
        (r.0 ∙ ap (λ (h : Held M). h.metadata) is_held, r.1 ∙ ap (λ (h : Held M). h.disk.flushes) is_held)

    module _ (changed : M → Bool) (new : Held M) where
      -- it was not kept
      pub stays_unkept : fua ≡ false → new.metadata ≡ put → new.disk ≡ last → StaysInPlace geometry stands marks room changed held new asked
      stays_unkept plain metadata disk at =
          let r = in_place_at at in
          let no_end = write_ends plain in
          record {
            unchanged = λ ends. ap changed (metadata ∙ r.0);
            flushes = subst (λ b. new.disk.flushes ≡ held.disk.flushes + (if b then (if changed held.metadata then 2 else 1) else 0)) (sym no_end)
                (omega (arith, ap (λ (x : DiskState). x.flushes) disk, r.1));
          }

      -- it was kept
      pub stays_kept : fua ≡ true → new.disk.flushes ≡ last.flushes + (if changed put then 2 else 1) → StaysInPlace geometry stands marks room changed held new asked
      stays_kept keeps more at =
          let r = in_place_at at in
          let end : ends_in_commit asked ≡ true = λ i. keeps i && reclaims i in
          let exact : new.disk.flushes ≡ last.flushes + (if changed held.metadata then 2 else 1) = subst (λ (m : M). new.disk.flushes ≡ last.flushes + (if changed m then 2 else 1)) r.0 more in
          record {
            unchanged = λ ends. absurd (true≢false (sym end ∙ ends));
            flushes = subst (λ b. new.disk.flushes ≡ held.disk.flushes + (if b then (if changed held.metadata then 2 else 1) else 0)) (sym end)
                (subst (λ n. new.disk.flushes ≡ n + (if changed held.metadata then 2 else 1)) r.1 exact);
          }

-- a write of no sectors leaves the metadata as they were
pub stays_empty : {M : Type 0} (geometry : M → Geometry) (stands : M → DiskState → Contents → Contents → Type 0) (marks : M → List Bool) (room : M → ℕ) (changed : M → Bool) (id sector : ℕ) (xs : List Sector) (fua : Bool)
    → length xs ≡ 0 → (old new : Held M) → new.metadata ≡ old.metadata → new.disk.flushes ≡ old.disk.flushes → StaysInPlace geometry stands marks room changed old new (Write id sector xs fua)
stays_empty geometry stands marks room changed id sector xs fua none old new metadata same at =
    let no_end = no_sectors_end id sector xs fua none in
    record {
      unchanged = λ ends. ap changed metadata;
      flushes = subst (λ b. new.disk.flushes ≡ old.disk.flushes + (if b then (if changed old.metadata then 2 else 1) else 0)) (sym no_end) (omega (arith, same));
    }

-- as the call was, so it is behind the test whether the pool has failed
pub stays_settled : {M : Type 0} (geometry : M → Geometry) (stands : M → DiskState → Contents → Contents → Type 0) (marks : M → List Bool) (room : M → ℕ) (changed : M → Bool) (call : Call) (old mid new : Held M)
    (answer result : Result (Unit {0}) Refusal) → result ≡ answer → OnOk answer (new ≡ mid) → OnOk answer (StaysInPlace geometry stands marks room changed old mid call)
    → OnOk result (StaysInPlace geometry stands marks room changed old new call)
stays_settled {M = M} geometry stands marks room changed call old mid new (Ok x) result same done stays =
    subst (λ (r : Result (Unit {0}) Refusal). OnOk r (StaysInPlace geometry stands marks room changed old new call)) (sym same)
    (subst (λ (h : Held M). StaysInPlace geometry stands marks room changed old h call) (sym done) stays)
stays_settled {M = M} geometry stands marks room changed call old mid new (Err reason) result same done stays =
    subst (λ (r : Result (Unit {0}) Refusal). OnOk r (StaysInPlace geometry stands marks room changed old new call)) (sym same) tt
