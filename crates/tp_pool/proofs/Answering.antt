-- What is known of a call whatever the disk does: its answers, the mode behind it, that some write nothing, and that some make no call of the disk.
use Rattle.std.proofs.Common.{◌≡◌, ◌⊎◌, inl, inr, ℕ, Bool, true, false, Option, None, Some, Result, Ok, Err, List, [], ◌∷◌, refl, sym, ◌∙◌, ap, subst}
use Rattle.std.specs.Prelude.{IfErr, IsTrue, MatchResult, OnOk, ◌&&◌, if◌then◌else◌}
use Rattle.std.proofs.lemmas.Bool.{false≢true, true≢false}
use Rattle.tp_model.specs.declared.mode.Mode.{Mode}
use Rattle.tp_model.specs.declared.mode.Mode.TheVariants as mode
use Rattle.tp_model.specs.declared.refusal.Refusal.{Refusal}
use Rattle.tp_model.specs.declared.refusal.Refusal.TheVariants.{Damaged, Failed, Fault, NoDataSpace, NoMetadataSpace, NoSuchDevice, ReadOnly}
use Rattle.tp_model.specs.Geometry.{Geometry}
use Rattle.tp_model.specs.Sectors.{Sector}
use Rattle.tp_model.specs.Calls.{Answer, Call, Done, Gave, Hold, IsOneOf, LetGo, MayAnswer, Read, Refused, Write, is_failed, is_failure, is_in_memory, is_read_only, is_silent, is_told_of_failed, is_writing, may_accept, mode_after, refusals_in_read_only, refusals_in_writable, refused_commits, Sized, VolumeBlocks}
use Rattle.tp_model.specs.Clauses.{IsAnswered, IsQuiet}
use Rattle.tp_model.specs.Disk.{DiskState}
use Rattle.tp_model.specs.DiskStops.{moment}
use Rattle.tp_counts.specs.declared.error.StoreError.{StoreError}
use Rattle.tp_counts.specs.declared.error.StoreError.TheVariants as errors
use Rattle.tp_counts.specs.StoreErrors.{refusal_of}
use Rattle.tp_stored.specs.Contents.{Contents}
use Rattle.tp_pool.specs.Messages.{RefusesNew, TestedSo, create_call}
use Rattle.tp_pool.specs.Held.{AnswersSo, EndsShort, Held, IsFlush, IsTried, failed_by, view}

-- ---- a part of a call

abbrev pub FailureIn : Call → Refusal → Type 0
FailureIn call reason = IsOneOf reason (refusals_in_writable call) × (refused_commits reason ≡ false)

-- in a pool that works, where the part is not refused for want of metadata room
pub tried_writable : {M : Type 0} (old new : Held M) (call : Call) (result : Result (Unit {0}) Refusal) (m : Mode) → old.mode ≡ m → m ≡ mode.Writable → new.mode ≡ old.mode → is_in_memory call ≡ false
    → MatchResult result (λ x. Unit {0}) (FailureIn call) → IsTried old new call result
tried_writable old new call (Ok x) m is works same asks only = record {
  may = subst (λ (k : Mode). MayAnswer k call Done) (sym (is ∙ works)) refl;
  mode_is = same;
  silent = λ yes. absurd (false≢true (sym asks ∙ subst (λ (k : Mode). IsTrue (is_silent k call)) (is ∙ works) yes));
}
tried_writable old new call (Err reason) m is works same asks only = record {
  may = subst (λ (k : Mode). MayAnswer k call (Refused reason)) (sym (is ∙ works)) only.0;
  mode_is = same ∙ sym (ap (λ (b : Bool). if b then mode.ReadOnly else old.mode) only.1);
  silent = λ yes. absurd (false≢true (sym asks ∙ subst (λ (k : Mode). IsTrue (is_silent k call)) (is ∙ works) yes));
}

-- where it is
pub tried_short : {M : Type 0} (old new : Held M) (call : Call) → old.mode ≡ mode.Writable → new.mode ≡ mode.ReadOnly → is_in_memory call ≡ false
    → IsOneOf NoMetadataSpace (refusals_in_writable call) → IsTried old new call (Err NoMetadataSpace)
tried_short old new call works short asks one = record {
  may = subst (λ (k : Mode). MayAnswer k call (Refused NoMetadataSpace)) (sym works) one;
  mode_is = short;
  silent = λ yes. absurd (false≢true (sym asks ∙ subst (λ (k : Mode). IsTrue (is_silent k call)) works yes));
}

pub new_commits : (origin : Option ℕ) (reason : Refusal) → RefusesNew origin reason → refused_commits reason ≡ false
new_commits origin reason (inl e) = ap refused_commits e
new_commits origin reason (inr (inl e)) = ap refused_commits e
new_commits origin reason (inr (inr (inl e))) = ap refused_commits e
new_commits origin reason (inr (inr (inr (inl e)))) = ap refused_commits e
new_commits origin reason (inr (inr (inr (inr e)))) = ap refused_commits e.0

-- a test of a new volume that fails
pub failure_refuses : (origin : Option ℕ) (reason : Refusal) → (reason ≡ Fault) ⊎ (reason ≡ Damaged) → RefusesNew origin reason
failure_refuses origin reason (inl e) = inl e
failure_refuses origin reason (inr e) = inr (inl e)

-- and tells nothing
pub failure_tests_nothing : (error : StoreError) (told : Option Refusal) → TestedSo (Err (refusal_of error)) told
failure_tests_nothing errors.Fault told = λ e. absurd (true≢false e)
failure_tests_nothing errors.Damaged told = λ e. absurd (true≢false e)

module _ {M : Type 0} (old new : Held M) (works : old.mode ≡ mode.Writable) where
  -- ---- a write

  module _ (id sector : ℕ) (xs : List Sector) (fua : Bool) where
    abbrev write : Call
    write = Write id sector xs fua

    pub write_fault : (reason : Refusal) → reason ≡ Fault → FailureIn write reason
    write_fault reason e = (inr (inr (inr (inl e))), ap refused_commits e)

    pub write_failure : (reason : Refusal) → (reason ≡ Fault) ⊎ (reason ≡ Damaged) → FailureIn write reason
    write_failure reason (inl e) = write_fault reason e
    write_failure reason (inr e) = (inr (inr (inr (inr (inl e)))), ap refused_commits e)

    pub write_tested : (reason : Refusal) → (reason ≡ Fault) ⊎ (reason ≡ Damaged) ⊎ (reason ≡ NoDataSpace) → FailureIn write reason
    write_tested reason (inl e) = write_fault reason e
    write_tested reason (inr (inl e)) = write_failure reason (inr e)
    write_tested reason (inr (inr e)) = (inr (inr (inl e)), ap refused_commits e)

    -- at the exit of a `?`
    pub write_exit : (result : Result (Unit {0}) Refusal) (x y : Refusal) → new.mode ≡ old.mode → result ≡ Err y → x ≡ y → FailureIn write x → IsTried old new write result
    write_exit result x y same is that only =
        tried_writable old new write result old.mode refl works same refl
        (subst (λ (r : Result (Unit {0}) Refusal). MatchResult r (λ u. Unit {0}) (FailureIn write)) (sym is) (subst (FailureIn write) that only))

    pub write_done : new.mode ≡ old.mode → IsTried old new write (Ok tt)
    write_done same = tried_writable old new write (Ok tt) old.mode refl works same refl tt

    pub write_kept : (result : Result (Unit {0}) Refusal) → new.mode ≡ old.mode → IfErr result (λ reason. reason ≡ Fault) → IsTried old new write result
    write_kept (Ok x) same only = tried_writable old new write (Ok x) old.mode refl works same refl tt
    write_kept (Err reason) same only = tried_writable old new write (Err reason) old.mode refl works same refl (write_fault reason only)

    pub write_short : (result : Result (Unit {0}) Refusal) → EndsShort old new result → IsTried old new write result
    write_short (Ok x) ends = absurd ends
    write_short (Err reason) (inl e) = tried_writable old new write (Err reason) old.mode refl works e.1 refl (write_fault reason e.0)
    write_short (Err reason) (inr e) =
        subst (λ (r : Refusal). IsTried old new write (Err r)) (sym e.0) (tried_short old new write works e.1 refl (inr (inl refl)))

  -- ---- a new volume

  module _ (id : ℕ) (origin : Option ℕ) where
    abbrev create : Call
    create = create_call id origin

    asks_not : (o : Option ℕ) → is_in_memory (create_call id o) ≡ false
    asks_not None = refl
    asks_not (Some other) = refl

    named : (o : Option ℕ) (reason : Refusal) → RefusesNew o reason → IsOneOf reason (refusals_in_writable (create_call id o))
    named None reason (inl e) = inr (inr (inr (inl e)))
    named None reason (inr (inl e)) = inr (inr (inr (inr (inl e))))
    named None reason (inr (inr (inl e))) = inl e
    named None reason (inr (inr (inr (inl e)))) = inr (inl e)
    named None reason (inr (inr (inr (inr e)))) = absurd (false≢true e.1)
    named (Some other) reason (inl e) = inr (inr (inr (inr (inl e))))
    named (Some other) reason (inr (inl e)) = inr (inr (inr (inr (inr (inl e)))))
    named (Some other) reason (inr (inr (inl e))) = inr (inl e)
    named (Some other) reason (inr (inr (inr (inl e)))) = inr (inr (inl e))
    named (Some other) reason (inr (inr (inr (inr e)))) = inl e.0

    short_named : (o : Option ℕ) → IsOneOf NoMetadataSpace (refusals_in_writable (create_call id o))
    short_named None = inr (inr (inl refl))
    short_named (Some other) = inr (inr (inr (inl refl)))

    create_tests : (reason : Refusal) → RefusesNew origin reason → FailureIn create reason
    create_tests reason refuses = (named origin reason refuses, new_commits origin reason refuses)

    pub create_exit : (result : Result (Unit {0}) Refusal) (x y : Refusal) → new.mode ≡ old.mode → result ≡ Err y → x ≡ y → RefusesNew origin x → IsTried old new create result
    create_exit result x y same is that only =
        tried_writable old new create result old.mode refl works same (asks_not origin)
        (subst (λ (r : Result (Unit {0}) Refusal). MatchResult r (λ u. Unit {0}) (FailureIn create)) (sym is) (subst (FailureIn create) that (create_tests x only)))

    pub create_kept : (result : Result (Unit {0}) Refusal) → new.mode ≡ old.mode → IfErr result (λ reason. reason ≡ Fault) → IsTried old new create result
    create_kept (Ok x) same only = tried_writable old new create (Ok x) old.mode refl works same (asks_not origin) tt
    create_kept (Err reason) same only = tried_writable old new create (Err reason) old.mode refl works same (asks_not origin) (create_tests reason (inl only))

    pub create_short : (result : Result (Unit {0}) Refusal) → EndsShort old new result → IsTried old new create result
    create_short (Ok x) ends = absurd ends
    create_short (Err reason) (inl e) = tried_writable old new create (Err reason) old.mode refl works e.1 (asks_not origin) (create_tests reason (inl e.0))
    create_short (Err reason) (inr e) =
        subst (λ (r : Refusal). IsTried old new create (Err r)) (sym e.0) (tried_short old new create works e.1 (asks_not origin) (short_named origin))

-- a message to a read-only pool
pub create_read_only : {M : Type 0} (h : Held M) (id : ℕ) (origin : Option ℕ) → is_read_only h.mode ≡ true → IsTried h h (create_call id origin) (Err ReadOnly)
create_read_only h id origin reads = record { may = may origin h.mode reads; mode_is = refl; silent = λ yes. refl }
  where
    may : (o : Option ℕ) (m : Mode) → is_read_only m ≡ true → MayAnswer m (create_call id o) (Refused ReadOnly)
    may o mode.Writable e = absurd (false≢true e)
    may None mode.ReadOnly e = inl refl
    may (Some other) mode.ReadOnly e = inl refl
    may o mode.Failed e = absurd (false≢true e)

-- ---- a write before its volume and the mode are known

module _ (id sector : ℕ) (xs : List Sector) (fua : Bool) where
  asks_for : (m : Mode) → is_failed m ≡ false → is_silent m (Write id sector xs fua) ≡ false
  asks_for mode.Writable e = refl
  asks_for mode.ReadOnly e = refl
  asks_for mode.Failed e = absurd (false≢true (sym e))

  may_fail : (m : Mode) → is_failed m ≡ false → (reason : Refusal) → (reason ≡ Fault) ⊎ (reason ≡ Damaged) → MayAnswer m (Write id sector xs fua) (Refused reason)
  may_fail mode.Writable e reason (inl is) = inr (inr (inr (inl is)))
  may_fail mode.Writable e reason (inr is) = inr (inr (inr (inr (inl is))))
  may_fail mode.ReadOnly e reason (inl is) = inr (inr (inl is))
  may_fail mode.ReadOnly e reason (inr is) = inr (inr (inr (inl is)))
  may_fail mode.Failed e reason is = absurd (false≢true (sym e))

  may_miss : (m : Mode) → is_failed m ≡ false → MayAnswer m (Write id sector xs fua) (Refused NoSuchDevice)
  may_miss mode.Writable e = inl refl
  may_miss mode.ReadOnly e = inl refl
  may_miss mode.Failed e = absurd (false≢true (sym e))

  may_only_read : (m : Mode) → is_read_only m ≡ true → MayAnswer m (Write id sector xs fua) (Refused ReadOnly)
  may_only_read mode.Writable e = absurd (false≢true e)
  may_only_read mode.ReadOnly e = inr (inl refl)
  may_only_read mode.Failed e = absurd (false≢true e)

  no_commit : (reason : Refusal) → (reason ≡ Fault) ⊎ (reason ≡ Damaged) → refused_commits reason ≡ false
  no_commit reason (inl e) = ap refused_commits e
  no_commit reason (inr e) = ap refused_commits e

  module _ {M : Type 0} (old new : Held M) (works : is_failed old.mode ≡ false) (same : new.mode ≡ old.mode) where
    abbrev Tried : Result (Unit {0}) Refusal → Type 0
    Tried result = IsTried old new (Write id sector xs fua) result

    refused : (reason : Refusal) → MayAnswer old.mode (Write id sector xs fua) (Refused reason) → refused_commits reason ≡ false → Tried (Err reason)
    refused reason may keeps = record {
      may = may;
      mode_is = same ∙ sym (ap (λ (b : Bool). if b then mode.ReadOnly else old.mode) keeps);
      silent = λ yes. absurd (false≢true (sym (asks_for old.mode works) ∙ yes));
    }

    pub write_unread : (result : Result (Unit {0}) Refusal) (x y : Refusal) → result ≡ Err y → x ≡ y → (x ≡ Fault) ⊎ (x ≡ Damaged) → Tried result
    write_unread result x y is that only =
        subst Tried (sym is) (subst (λ (r : Refusal). Tried (Err r)) that (refused x (may_fail old.mode works x only) (no_commit x only)))

    pub write_missed : Tried (Err NoSuchDevice)
    write_missed = refused NoSuchDevice (may_miss old.mode works) refl

    pub write_read_only : is_read_only old.mode ≡ true → Tried (Err ReadOnly)
    write_read_only reads = refused ReadOnly (may_only_read old.mode reads) refl

-- ---- whole calls

pub keeps_mode : (call : Call) (reason : Refusal) (m : Mode) → is_writing call ≡ false → refused_commits reason ≡ false → mode_after m call (Refused reason) ≡ m
keeps_mode call reason m reads keeps =
    (λ i. if is_failure reason && reads i then mode.Failed else (if keeps i then mode.ReadOnly else m)) ∙ by (is_failure reason)
  where
    by : (b : Bool) → (if b && false then mode.Failed else m) ≡ m
    by true = refl
    by false = refl

-- a call that looks a volume up and writes nothing
pub record IsLookUp (call : Call) : Type 0 where
  pub writable : refusals_in_writable call ≡ NoSuchDevice ∷ Fault ∷ Damaged ∷ []
  pub read_only : refusals_in_read_only call ≡ NoSuchDevice ∷ Fault ∷ Damaged ∷ []
  pub accepted : may_accept mode.ReadOnly call ≡ true
  pub writes_not : is_writing call ≡ false
  pub looks : is_silent mode.ReadOnly call ≡ false
  pub asks : is_in_memory call ≡ false

pub read_looks_up : (id sector count : ℕ) → IsLookUp (Read id sector count)
read_looks_up id sector count = record { writable = refl; read_only = refl; accepted = refl; writes_not = refl; looks = refl; asks = refl }

pub hold_looks_up : (id : ℕ) → IsLookUp (Hold id)
hold_looks_up id = record { writable = refl; read_only = refl; accepted = refl; writes_not = refl; looks = refl; asks = refl }

pub size_looks_up : (id : ℕ) → IsLookUp (VolumeBlocks id)
size_looks_up id = record { writable = refl; read_only = refl; accepted = refl; writes_not = refl; looks = refl; asks = refl }

abbrev pub Missed : Refusal → Type 0
Missed reason = IsOneOf reason (NoSuchDevice ∷ Fault ∷ Damaged ∷ [])

pub missed_by : (reason : Refusal) → (reason ≡ Fault) ⊎ (reason ≡ Damaged) → Missed reason
missed_by reason (inl e) = inr (inl e)
missed_by reason (inr e) = inr (inr (inl e))

pub missed_commits : (reason : Refusal) → Missed reason → refused_commits reason ≡ false
missed_commits reason (inl e) = ap refused_commits e
missed_commits reason (inr (inl e)) = ap refused_commits e
missed_commits reason (inr (inr (inl e))) = ap refused_commits e
missed_commits reason (inr (inr (inr e))) = absurd e

module _ {M : Type 0} (geometry : M → Geometry) (stands : M → DiskState → Contents → Contents → Type 0) where
  abbrev pub Answered : Held M → Held M → Call → Answer → Type 0
  Answered old new call answer = IsAnswered (view geometry stands) old new call answer

  pub quiet : (old new : Held M) → new.disk ≡ old.disk → IsQuiet (view geometry stands) old new
  quiet old new same = record {
    failures = ap (λ (d : DiskState). d.failures) same;
    flushes = ap (λ (d : DiskState). d.flushes) same;
    moment = ap moment same;
  }

  -- a failed pool
  pub failed_answers : (h : Held M) (call : Call) → is_failed h.mode ≡ true → is_told_of_failed call ≡ false → Answered h h call (Refused Failed)
  failed_answers h call failed told = record {
    may = may h.mode failed;
    mode = refl;
    reads = λ no. refl;
    silent = λ yes. quiet h h refl;
  }
    where
      may : (m : Mode) → is_failed m ≡ true → MayAnswer m call (Refused Failed)
      may mode.Writable e = absurd (false≢true e)
      may mode.ReadOnly e = absurd (false≢true e)
      may mode.Failed e = subst (λ (b : Bool). IsOneOf Failed (if b then [] else Failed ∷ [])) (sym told) (inl refl)

  -- ---- look-ups

  module _ (call : Call) (is : IsLookUp call) (old new : Held M) (works : is_failed old.mode ≡ false) (same : new.mode ≡ old.mode)
      (calm : moment new.disk ≡ moment old.disk) where
    looks : (m : Mode) → is_failed m ≡ false → is_silent m call ≡ false
    looks mode.Writable e = is.asks
    looks mode.ReadOnly e = is.looks
    looks mode.Failed e = absurd (false≢true (sym e))

    may_refuse : (m : Mode) → is_failed m ≡ false → (reason : Refusal) → Missed reason → MayAnswer m call (Refused reason)
    may_refuse mode.Writable e reason one = subst (IsOneOf reason) (sym is.writable) one
    may_refuse mode.ReadOnly e reason one = subst (IsOneOf reason) (sym is.read_only) one
    may_refuse mode.Failed e reason one = absurd (false≢true (sym e))

    pub may_do : (m : Mode) → is_failed m ≡ false → IsTrue (may_accept m call)
    may_do mode.Writable e = refl
    may_do mode.ReadOnly e = is.accepted
    may_do mode.Failed e = absurd (false≢true (sym e))

    pub never_silent : IsTrue (is_silent old.mode call) → IsQuiet (view geometry stands) old new
    never_silent silent = absurd (false≢true (sym (looks old.mode works) ∙ silent))

    pub missed : (reason : Refusal) → Missed reason → Answered old new call (Refused reason)
    missed reason one = record {
      may = may_refuse old.mode works reason one;
      mode = same ∙ sym (keeps_mode call reason old.mode is.writes_not (missed_commits reason one));
      reads = λ no. calm;
      silent = never_silent;
    }

    pub looked_up : (result : Result (Unit {0}) Refusal) → IfErr result Missed → AnswersSo geometry stands old new call result
    looked_up (Ok x) only = record { may = may_do old.mode works; mode = same; reads = λ no. calm; silent = never_silent }
    looked_up (Err reason) only = missed reason only

  pub read_answers : (id sector count : ℕ) (xs : List Sector) (old new : Held M) → is_failed old.mode ≡ false → new.mode ≡ old.mode → moment new.disk ≡ moment old.disk
      → (result : Result (Unit {0}) Refusal) → IfErr result (λ reason. (reason ≡ Fault) ⊎ (reason ≡ Damaged))
      → MatchResult result (λ x. Answered old new (Read id sector count) (Gave xs)) (λ reason. Answered old new (Read id sector count) (Refused reason))
  read_answers id sector count xs old new works same calm (Ok x) only =
      let is = read_looks_up id sector count in
      record { may = may_do (Read id sector count) is old new works same calm old.mode works; mode = same; reads = λ no. calm; silent = never_silent (Read id sector count) is old new works same calm }
  read_answers id sector count xs old new works same calm (Err reason) only = missed (Read id sector count) (read_looks_up id sector count) old new works same calm reason (missed_by reason only)

  pub size_answers : (id blocks : ℕ) (old new : Held M) → is_failed old.mode ≡ false → new.mode ≡ old.mode → moment new.disk ≡ moment old.disk → Answered old new (VolumeBlocks id) (Sized blocks)
  size_answers id blocks old new works same calm =
      let is = size_looks_up id in
      record { may = may_do (VolumeBlocks id) is old new works same calm old.mode works; mode = same; reads = λ no. calm; silent = never_silent (VolumeBlocks id) is old new works same calm }

  -- ---- letting go

  pub let_go_answers : (id : ℕ) (old new : Held M) → new.mode ≡ old.mode → new.disk ≡ old.disk → Answered old new (LetGo id) Done
  let_go_answers id old new same disk = record { may = may old.mode; mode = same; reads = λ no. ap moment disk; silent = λ yes. quiet old new disk }
    where
      may : (m : Mode) → IsTrue (may_accept m (LetGo id))
      may mode.Writable = refl
      may mode.ReadOnly = refl
      may mode.Failed = refl

  -- ---- calls that write, behind their parts

  pub settled_answers : (call : Call) (old mid new : Held M) (answer result : Result (Unit {0}) Refusal) → is_writing call ≡ true → result ≡ answer → OnOk answer (new ≡ mid)
      → IfErr answer (λ reason. new ≡ failed_by reason mid) → IsTried old mid call answer → AnswersSo geometry stands old new call result
  settled_answers call old mid new (Ok x) result writes same done failed tried =
      subst (λ (r : Result (Unit {0}) Refusal). AnswersSo geometry stands old new call r) (sym same)
      (record {
        may = tried.may;
        mode = ap (λ (h : Held M). h.mode) done ∙ tried.mode_is;
        reads = λ no. absurd (true≢false (sym writes ∙ no));
        silent = λ yes. quiet old new (ap (λ (h : Held M). h.disk) done ∙ tried.silent yes);
      })
  settled_answers call old mid new (Err reason) result writes same done failed tried =
      subst (λ (r : Result (Unit {0}) Refusal). AnswersSo geometry stands old new call r) (sym same)
      (record {
        may = tried.may;
        mode =
            ap (λ (h : Held M). h.mode) failed
            ∙ ap (λ (m : Mode). if is_failure reason then mode.Failed else m) tried.mode_is
            ∙ (λ i. if by (is_failure reason) (is_writing call) (sym writes) i then mode.Failed else (if refused_commits reason then mode.ReadOnly else old.mode));
        reads = λ no. absurd (true≢false (sym writes ∙ no));
        silent = λ yes. quiet old new (ap (λ (h : Held M). h.disk) failed ∙ tried.silent yes);
      })
    where
      by : (b w : Bool) → true ≡ w → b ≡ (b && w)
      by true w e = e
      by false w e = refl

  -- ---- flushes

  flush_told : (call : Call) → IsFlush call → is_told_of_failed call ≡ false
  flush_told call (inl e) = ap is_told_of_failed e
  flush_told call (inr e) = ap is_told_of_failed e

  pub flush_failed : (call : Call) → IsFlush call → (h : Held M) → is_failed h.mode ≡ true → Answered h h call (Refused Failed)
  flush_failed call is h failed = failed_answers h call failed (flush_told call is)

  pub flush_read_only : (call : Call) → IsFlush call → (h : Held M) → h.mode ≡ mode.ReadOnly → Answered h h call Done
  flush_read_only call is h reads = record {
    may = subst (λ (m : Mode). IsTrue (may_accept m call)) (sym reads) (may call is);
    mode = refl;
    reads = λ no. refl;
    silent = λ yes. quiet h h refl;
  }
    where
      may : (k : Call) → IsFlush k → IsTrue (may_accept mode.ReadOnly k)
      may k (inl e) = ap (may_accept mode.ReadOnly) e
      may k (inr e) = ap (may_accept mode.ReadOnly) e

  pub flush_tried : (call : Call) → IsFlush call → (old new : Held M) (result : Result (Unit {0}) Refusal) → old.mode ≡ mode.Writable → new.mode ≡ old.mode → IfErr result (λ reason. reason ≡ Fault)
      → IsTried old new call result
  flush_tried call is old new result works same only =
      tried_writable old new call result old.mode refl works same (asks call is) (by result only)
    where
      asks : (k : Call) → IsFlush k → is_in_memory k ≡ false
      asks k (inl e) = ap is_in_memory e
      asks k (inr e) = ap is_in_memory e

      one : (k : Call) → IsFlush k → IsOneOf Fault (refusals_in_writable k)
      one k (inl e) = subst (λ (j : Call). IsOneOf Fault (refusals_in_writable j)) (sym e) (inl refl)
      one k (inr e) = subst (λ (j : Call). IsOneOf Fault (refusals_in_writable j)) (sym e) (inl refl)

      by : (r : Result (Unit {0}) Refusal) → IfErr r (λ reason. reason ≡ Fault) → MatchResult r (λ x. Unit {0}) (FailureIn call)
      by (Ok x) e = tt
      by (Err reason) e = subst (FailureIn call) (sym e) (one call is, refl)

  pub flush_writes : (call : Call) → IsFlush call → is_writing call ≡ true
  flush_writes call (inl e) = ap is_writing e
  flush_writes call (inr e) = ap is_writing e
