-- What is known of a request that changes sectors, whatever the disk does.
use Rattle.std.proofs.Common.{◌≡◌, ◌⊎◌, inl, inr, Bool, true, false, Result, Ok, Err, refl, sym, ◌∙◌, ap, subst}
use Rattle.std.specs.Prelude.{IfErr, MatchResult, if◌then◌else◌}
use Rattle.std.proofs.lemmas.Bool.{false≢true}
use Rattle.tp_model.specs.declared.mode.Mode.{Mode}
use Rattle.tp_model.specs.declared.mode.Mode.TheVariants as mode
use Rattle.tp_model.specs.declared.refusal.Refusal.{Refusal}
use Rattle.tp_model.specs.declared.refusal.Refusal.TheVariants.{Damaged, Fault, NoDataSpace, NoMetadataSpace, NoSuchDevice, ReadOnly}
use Rattle.tp_model.specs.Calls.{Call, IsOneOf, MayAnswer, Refused, is_failed, is_in_memory, is_read_only, is_silent, refusals_in_read_only, refusals_in_writable, refused_commits}
use Rattle.tp_pool.specs.Held.{EndsShort, Held, IsTried}
use Rattle.tp_pool.proofs.Answering.{FailureIn, tried_short, tried_writable}

pub record IsRequest (call : Call) : Type 0 where
  pub asks : is_in_memory call ≡ false
  pub looks : is_silent mode.ReadOnly call ≡ false
  pub failure : (reason : Refusal) → (reason ≡ Fault) ⊎ (reason ≡ Damaged) → IsOneOf reason (refusals_in_writable call)
  pub failure_read_only : (reason : Refusal) → (reason ≡ Fault) ⊎ (reason ≡ Damaged) → IsOneOf reason (refusals_in_read_only call)
  pub missing : IsOneOf NoSuchDevice (refusals_in_writable call)
  pub missing_read_only : IsOneOf NoSuchDevice (refusals_in_read_only call)
  pub only_read : IsOneOf ReadOnly (refusals_in_read_only call)
  pub short : IsOneOf NoMetadataSpace (refusals_in_writable call)

no_commit : (reason : Refusal) → (reason ≡ Fault) ⊎ (reason ≡ Damaged) → refused_commits reason ≡ false
no_commit reason (inl e) = ap refused_commits e
no_commit reason (inr e) = ap refused_commits e

module _ {M : Type 0} (call : Call) (is : IsRequest call) (old new : Held M) where
  abbrev Tried : Result (Unit {0}) Refusal → Type 0
  Tried result = IsTried old new call result

  -- ---- in a pool that may be written

  module _ (works : old.mode ≡ mode.Writable) where
    fails : (reason : Refusal) → (reason ≡ Fault) ⊎ (reason ≡ Damaged) → FailureIn call reason
    fails reason e = (is.failure reason e, no_commit reason e)

    -- at the exit of a `?`
    pub request_exit : (result : Result (Unit {0}) Refusal) (x y : Refusal) → new.mode ≡ old.mode → result ≡ Err y → x ≡ y → (x ≡ Fault) ⊎ (x ≡ Damaged) → Tried result
    request_exit result x y same gives that only =
        tried_writable old new call result old.mode refl works same is.asks
        (subst (λ (r : Result (Unit {0}) Refusal). MatchResult r (λ u. Unit {0}) (FailureIn call)) (sym gives) (subst (FailureIn call) that (fails x only)))

    pub request_done : new.mode ≡ old.mode → Tried (Ok tt)
    request_done same = tried_writable old new call (Ok tt) old.mode refl works same is.asks tt

    pub request_kept : (result : Result (Unit {0}) Refusal) → new.mode ≡ old.mode → IfErr result (λ reason. reason ≡ Fault) → Tried result
    request_kept (Ok x) same only = tried_writable old new call (Ok x) old.mode refl works same is.asks tt
    request_kept (Err reason) same only = tried_writable old new call (Err reason) old.mode refl works same is.asks (fails reason (inl only))

    -- there is no data room for it
    pub request_full : IsOneOf NoDataSpace (refusals_in_writable call) → (result : Result (Unit {0}) Refusal) (x y : Refusal) → new.mode ≡ old.mode → result ≡ Err y → x ≡ y → x ≡ NoDataSpace → Tried result
    request_full may result x y same gives that full =
        tried_writable old new call result old.mode refl works same is.asks
        (subst (λ (r : Result (Unit {0}) Refusal). MatchResult r (λ u. Unit {0}) (FailureIn call)) (sym gives)
        (subst (FailureIn call) that (subst (FailureIn call) (sym full) (may, refl))))

    pub request_short : (result : Result (Unit {0}) Refusal) → EndsShort old new result → Tried result
    request_short (Ok x) ends = absurd ends
    request_short (Err reason) (inl e) = tried_writable old new call (Err reason) old.mode refl works e.1 is.asks (fails reason (inl e.0))
    request_short (Err reason) (inr e) =
        subst (λ (r : Refusal). Tried (Err r)) (sym e.0) (tried_short old new call works e.1 is.asks is.short)

  -- ---- before its volume and the mode are known

  module _ (works : is_failed old.mode ≡ false) (same : new.mode ≡ old.mode) where
    asks_for : (m : Mode) → is_failed m ≡ false → is_silent m call ≡ false
    asks_for mode.Writable e = is.asks
    asks_for mode.ReadOnly e = is.looks
    asks_for mode.Failed e = absurd (false≢true (sym e))

    may_fail : (m : Mode) → is_failed m ≡ false → (reason : Refusal) → (reason ≡ Fault) ⊎ (reason ≡ Damaged) → MayAnswer m call (Refused reason)
    may_fail mode.Writable e reason is_one = is.failure reason is_one
    may_fail mode.ReadOnly e reason is_one = is.failure_read_only reason is_one
    may_fail mode.Failed e reason is_one = absurd (false≢true (sym e))

    may_miss : (m : Mode) → is_failed m ≡ false → MayAnswer m call (Refused NoSuchDevice)
    may_miss mode.Writable e = is.missing
    may_miss mode.ReadOnly e = is.missing_read_only
    may_miss mode.Failed e = absurd (false≢true (sym e))

    may_only_read : (m : Mode) → is_read_only m ≡ true → MayAnswer m call (Refused ReadOnly)
    may_only_read mode.Writable e = absurd (false≢true e)
    may_only_read mode.ReadOnly e = is.only_read
    may_only_read mode.Failed e = absurd (false≢true e)

    refused : (reason : Refusal) → MayAnswer old.mode call (Refused reason) → refused_commits reason ≡ false → Tried (Err reason)
    refused reason may keeps = record {
      may = may;
      mode_is = same ∙ sym (ap (λ (b : Bool). if b then mode.ReadOnly else old.mode) keeps);
      silent = λ yes. absurd (false≢true (sym (asks_for old.mode works) ∙ yes));
    }

    pub request_unread : (result : Result (Unit {0}) Refusal) (x y : Refusal) → result ≡ Err y → x ≡ y → (x ≡ Fault) ⊎ (x ≡ Damaged) → Tried result
    request_unread result x y gives that only =
        subst Tried (sym gives) (subst (λ (r : Refusal). Tried (Err r)) that (refused x (may_fail old.mode works x only) (no_commit x only)))

    pub request_missed : Tried (Err NoSuchDevice)
    request_missed = refused NoSuchDevice (may_miss old.mode works) refl

    pub request_read_only : is_read_only old.mode ≡ true → Tried (Err ReadOnly)
    request_read_only reads = refused ReadOnly (may_only_read old.mode reads) refl
