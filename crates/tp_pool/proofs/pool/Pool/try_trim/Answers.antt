use Rattle.std.proofs.Common.{rules, ap, refl, subst, sym, ◌≡◌, ◌∙◌, false, true, Err}
use Rattle.std.specs.Prelude.{IsSome, Result, nat_lt}
use Rattle.std.proofs.lemmas.Result.{err_from_is_err_and}
use Rattle.tp_model.specs.declared.refusal.Refusal.{Refusal}
use Rattle.tp_model.specs.declared.refusal.Refusal.TheVariants.{NoSuchDevice, ReadOnly}
use Rattle.tp_model.specs.Calls.{Done, Refused, Trim, has_metadata_room, is_read_only}
use Rattle.tp_sharing.specs.Volumes.{device_of}
use Rattle.tp_stored.specs.Contents.{Contents}
use Rattle.tp_counts.specs.declared.error.StoreError.{StoreError}
use Rattle.tp_counts.specs.StoreErrors.{refusal_of}
use Rattle.tp_counts.proofs.Refusing.{damaged_so, refused_so}
use Rattle.tp_pool.specs.Flushes.{HasChanged, HasFlushed}
use Rattle.tp_pool.specs.Held.{Held, IsTried, PoolCalled, PoolRefused, PoolTried, failed_by}
use Rattle.tp_pool.proofs.Calling.{Laws}
use Rattle.tp_pool.proofs.Discarding.{trim_alters, trim_no_end, trim_nothing, trim_requests, trim_tests_are}
use Rattle.tp_pool.proofs.Flushing.{changed_done, changed_failed, changed_nothing, counted_nothing}
use Rattle.tp_pool.proofs.Putting.{writable_is}
use Rattle.tp_pool.proofs.Requesting.{request_done, request_missed, request_read_only, request_unread}
use Rattle.tp_pool.proofs.Serving.{called_tested, exists_is, exit_is, is_some_to, none_there, works_is, write_refused}
use Rattle.std.proofs.lemmas.Bool.{true≢false}
use Rattle.tp_pool.specs.Checked.{HasOnlyRead}
use Rattle.tp_pool.proofs.pool.Pool.try_trim.Goals as goal

pub returns-in_err-has-clause-called : goal.returns-in_err-has-clause-called
returns-in_err-has-clause-called g c =
    let met = g.met.M.Metadata in
    let laws : Laws g.M.Metadata.geometry g.M.Metadata.stands g.M.Metadata.marks g.M.Metadata.room = record { within = met.within; honest = met.honest; left = met.left; frame = met.frame } in
    let count = c.args.count in
    let id = c.args.id in
    let at = c.args.sector in
    let fua = c.args.fua in
    let old = c.args.self.now in
    let works = c.requires.works in
    let p = err_from_is_err_and c.from_residual.result c.from_residual.ensures.1 in
    let x = refusal_of c.in_err-has.field-0.0 in
    exit_is (λ (r : Result (Unit {0}) Refusal). PoolTried g.M.Metadata.geometry g.M.Metadata.stands old c.has.new.self (Trim id at count fua) r) c.from_residual.result x p.0 p.1 (sym p.2)
    (subst (λ (h : Held g.row.M.Denot). PoolRefused g.M.Metadata.geometry g.M.Metadata.stands old (failed_by x h) (Trim id at count fua) x) (sym c.in_err-has.ensures.held)
    (write_refused laws old (Trim id at count fua) x works refl refl ((trim_alters id at count fua).outline) (refused_so c.in_err-has.field-0.0) (λ e now kept st. c.in_err-has.ensures.damaged (ap (λ (r : StoreError). Err r) (damaged_so c.in_err-has.field-0.0 e)) now kept st)))

pub returns-then-not-branch-clause-called : goal.returns-then-not-branch-clause-called
returns-then-not-branch-clause-called g c =
    let met = g.met.M.Metadata in
    let laws : Laws g.M.Metadata.geometry g.M.Metadata.stands g.M.Metadata.marks g.M.Metadata.room = record { within = met.within; honest = met.honest; left = met.left; frame = met.frame } in
    let count = c.args.count in
    let id = c.args.id in
    let at = c.args.sector in
    let fua = c.args.fua in
    let old = c.args.self.now in
    let works = c.requires.works in
    subst (λ (h : Held g.row.M.Denot). PoolCalled g.M.Metadata.geometry g.M.Metadata.stands old h (Trim id at count fua) (Refused NoSuchDevice)) (sym c.in_ok-has.ensures.held)
    (none_there laws old (Trim id at count fua) id (search rules) works refl (λ now kept st. sym c.if-not-branch.true ∙ c.in_ok-has.ensures.told now kept st)
    (λ s w none. trim_tests_are s id at count fua false false (is_read_only s.mode) (nat_lt 0 count) (has_metadata_room s 256) w none refl refl refl))

pub returns-then-is_read_only-clause-called : goal.returns-then-is_read_only-clause-called
returns-then-is_read_only-clause-called g c =
    let met = g.met.M.Metadata in
    let laws : Laws g.M.Metadata.geometry g.M.Metadata.stands g.M.Metadata.marks g.M.Metadata.room = record { within = met.within; honest = met.honest; left = met.left; frame = met.frame } in
    let count = c.args.count in
    let id = c.args.id in
    let at = c.args.sector in
    let fua = c.args.fua in
    let old = c.args.self.now in
    let works = c.requires.works in
    let rd : is_read_only old.mode ≡ true = sym (ap (λ (h : Held g.row.M.Denot). is_read_only h.mode) (c.self.view_is ∙ c.in_ok-has.ensures.held)) ∙ sym c.is_read_only.ensures ∙ c.if-is_read_only.true in
    subst (λ (h : Held g.row.M.Denot). PoolCalled g.M.Metadata.geometry g.M.Metadata.stands old h (Trim id at count fua) (Refused ReadOnly)) (sym c.in_ok-has.ensures.held)
    (called_tested laws old (Trim id at count fua) ReadOnly works refl (λ s. refl) refl (λ s now kept pool.
    trim_tests_are s id at count fua false true true (nat_lt 0 count) (has_metadata_room s 256) (works_is laws old s now kept works pool)
    (exists_is laws old s now kept id true (search rules) pool (sym c.if-not-branch.false ∙ c.in_ok-has.ensures.told now kept pool.standing)) (ap is_read_only pool.mode_is ∙ rd) refl refl))

pub returns-then-count-eq0-clause-called : goal.returns-then-count-eq0-clause-called
returns-then-count-eq0-clause-called g c =
    let met = g.met.M.Metadata in
    let laws : Laws g.M.Metadata.geometry g.M.Metadata.stands g.M.Metadata.marks g.M.Metadata.room = record { within = met.within; honest = met.honest; left = met.left; frame = met.frame } in
    let count = c.args.count in
    let id = c.args.id in
    let at = c.args.sector in
    let fua = c.args.fua in
    let old = c.args.self.now in
    let held = c.in_ok-has.ensures.held in
    let there : (now kept : Contents) → g.M.Metadata.stands old.metadata old.disk now kept → IsSome (device_of id now.volumes) =
    λ now kept st. is_some_to (device_of id now.volumes) (sym c.if-not-branch.false ∙ c.in_ok-has.ensures.told now kept st) in
    let rd : is_read_only old.mode ≡ false = sym (ap (λ (h : Held g.row.M.Denot). is_read_only h.mode) (c.self.view_is ∙ held)) ∙ sym c.is_read_only.ensures ∙ c.if-is_read_only.false in
    subst (λ (h : Held g.row.M.Denot). PoolCalled g.M.Metadata.geometry g.M.Metadata.stands old h (Trim id at count fua) Done) (sym held)
    (trim_nothing laws id at count fua c.requires.most old old refl (writable_is old.mode c.requires.works rd) c.requires.lies there c.if-count-eq0.true)

pub returns-clause-called : goal.returns-clause-called
returns-clause-called g c =
    let met = g.met.M.Metadata in
    let laws : Laws g.M.Metadata.geometry g.M.Metadata.stands g.M.Metadata.marks g.M.Metadata.room = record { within = met.within; honest = met.honest; left = met.left; frame = met.frame } in
    let count = c.args.count in
    let id = c.args.id in
    let at = c.args.sector in
    let fua = c.args.fua in
    let old = c.args.self.now in
    let held = c.in_ok-has.ensures.held in
    let there : (now kept : Contents) → g.M.Metadata.stands old.metadata old.disk now kept → IsSome (device_of id now.volumes) =
    λ now kept st. is_some_to (device_of id now.volumes) (sym c.if-not-branch.false ∙ c.in_ok-has.ensures.told now kept st) in
    subst (λ (h : Held g.row.M.Denot). PoolTried g.M.Metadata.geometry g.M.Metadata.stands h c.discard.new.self (Trim id at count fua) c.discard.result) held
    (c.discard.ensures.called (subst (λ (h : Held g.row.M.Denot). (now kept : Contents) → g.M.Metadata.stands h.metadata h.disk now kept → IsSome (device_of id now.volumes)) (sym held) there))

pub returns-in_err-has-clause-tried : goal.returns-in_err-has-clause-tried
returns-in_err-has-clause-tried g c =
    let p = err_from_is_err_and c.from_residual.result c.from_residual.ensures.1 in
    let x = refusal_of c.in_err-has.field-0.0 in
    request_unread (Trim c.args.id c.args.sector c.args.count c.args.fua) (trim_requests c.args.id c.args.sector c.args.count c.args.fua) c.args.self.now c.has.new.self c.requires.works (ap (λ (h : Held g.row.M.Denot). h.mode) c.in_err-has.ensures.held) c.from_residual.result x p.0 p.1 (sym p.2) (refused_so c.in_err-has.field-0.0)

pub returns-then-not-branch-clause-tried : goal.returns-then-not-branch-clause-tried
returns-then-not-branch-clause-tried g c = request_missed (Trim c.args.id c.args.sector c.args.count c.args.fua) (trim_requests c.args.id c.args.sector c.args.count c.args.fua) c.args.self.now c.has.new.self c.requires.works (ap (λ (h : Held g.row.M.Denot). h.mode) c.in_ok-has.ensures.held)

pub returns-then-is_read_only-clause-tried : goal.returns-then-is_read_only-clause-tried
returns-then-is_read_only-clause-tried g c =
    let reads : is_read_only c.args.self.now.mode ≡ true = sym (ap (λ (h : Held g.row.M.Denot). is_read_only h.mode) (c.self.view_is ∙ c.in_ok-has.ensures.held)) ∙ sym c.is_read_only.ensures ∙ c.if-is_read_only.true in
    request_read_only (Trim c.args.id c.args.sector c.args.count c.args.fua) (trim_requests c.args.id c.args.sector c.args.count c.args.fua) c.args.self.now c.has.new.self c.requires.works (ap (λ (h : Held g.row.M.Denot). h.mode) c.in_ok-has.ensures.held) reads

pub returns-then-count-eq0-clause-tried : goal.returns-then-count-eq0-clause-tried
returns-then-count-eq0-clause-tried g c =
    let writes : is_read_only c.args.self.now.mode ≡ false = sym (ap (λ (h : Held g.row.M.Denot). is_read_only h.mode) (c.self.view_is ∙ c.in_ok-has.ensures.held)) ∙ sym c.is_read_only.ensures ∙ c.if-is_read_only.false in
    request_done (Trim c.args.id c.args.sector c.args.count c.args.fua) (trim_requests c.args.id c.args.sector c.args.count c.args.fua) c.args.self.now c.has.new.self (writable_is c.args.self.now.mode c.requires.works writes) (ap (λ (h : Held g.row.M.Denot). h.mode) c.in_ok-has.ensures.held)

pub returns-clause-tried : goal.returns-clause-tried
returns-clause-tried g c =
    subst (λ (h : Held g.row.M.Denot). IsTried h c.discard.new.self (Trim c.args.id c.args.sector c.args.count c.args.fua) c.discard.result) c.in_ok-has.ensures.held c.discard.ensures.tried

pub returns-in_err-has-clause-flushes : goal.returns-in_err-has-clause-flushes
returns-in_err-has-clause-flushes g c =
    counted_nothing g.M.Metadata.geometry g.M.Metadata.stands g.M.Metadata.marks g.M.Metadata.room c.args.self.now c.has.new.self.disk (Trim c.args.id c.args.sector c.args.count c.args.fua) (ap (λ (h : Held g.row.M.Denot). h.disk.flushes) c.in_err-has.ensures.held)

pub returns-then-not-branch-clause-flushes : goal.returns-then-not-branch-clause-flushes
returns-then-not-branch-clause-flushes g c =
    counted_nothing g.M.Metadata.geometry g.M.Metadata.stands g.M.Metadata.marks g.M.Metadata.room c.args.self.now c.has.new.self.disk (Trim c.args.id c.args.sector c.args.count c.args.fua) (ap (λ (h : Held g.row.M.Denot). h.disk.flushes) c.in_ok-has.ensures.held)

pub returns-then-is_read_only-clause-flushes : goal.returns-then-is_read_only-clause-flushes
returns-then-is_read_only-clause-flushes g c =
    counted_nothing g.M.Metadata.geometry g.M.Metadata.stands g.M.Metadata.marks g.M.Metadata.room c.args.self.now c.has.new.self.disk (Trim c.args.id c.args.sector c.args.count c.args.fua) (ap (λ (h : Held g.row.M.Denot). h.disk.flushes) c.in_ok-has.ensures.held)

pub returns-then-count-eq0-clause-flushes : goal.returns-then-count-eq0-clause-flushes
returns-then-count-eq0-clause-flushes g c =
    counted_nothing g.M.Metadata.geometry g.M.Metadata.stands g.M.Metadata.marks g.M.Metadata.room c.args.self.now c.has.new.self.disk (Trim c.args.id c.args.sector c.args.count c.args.fua) (ap (λ (h : Held g.row.M.Denot). h.disk.flushes) c.in_ok-has.ensures.held)

pub returns-clause-flushes : goal.returns-clause-flushes
returns-clause-flushes g c =
    let there : (now kept : Contents) → g.M.Metadata.stands c.args.self.now.metadata c.args.self.now.disk now kept → IsSome (device_of c.args.id now.volumes) =
    λ now kept st. is_some_to (device_of c.args.id now.volumes) (sym c.if-not-branch.false ∙ c.in_ok-has.ensures.told now kept st) in
    subst (λ (h : Held g.row.M.Denot). HasFlushed g.M.Metadata.geometry g.M.Metadata.stands g.M.Metadata.marks g.M.Metadata.room h c.discard.new.self.disk (Trim c.args.id c.args.sector c.args.count c.args.fua)) c.in_ok-has.ensures.held
    (c.discard.ensures.flushes (subst (λ (h : Held g.row.M.Denot). (now kept : Contents) → g.M.Metadata.stands h.metadata h.disk now kept → IsSome (device_of c.args.id now.volumes)) (sym c.in_ok-has.ensures.held) there))

pub returns-in_err-has-clause-changes : goal.returns-in_err-has-clause-changes
returns-in_err-has-clause-changes g c =
    let p = err_from_is_err_and c.from_residual.result c.from_residual.ensures.1 in
    changed_failed g.M.Metadata.changed c.args.self.now.metadata c.has.new.self.metadata (Trim c.args.id c.args.sector c.args.count c.args.fua) c.from_residual.result (refusal_of c.in_err-has.field-0.0) p.0 p.1 (sym p.2) (refused_so c.in_err-has.field-0.0)

pub returns-then-not-branch-clause-changes : goal.returns-then-not-branch-clause-changes
returns-then-not-branch-clause-changes g c =
    changed_nothing g.M.Metadata.changed c.args.self.now.metadata c.has.new.self.metadata (Trim c.args.id c.args.sector c.args.count c.args.fua) NoSuchDevice refl (ap (λ (h : Held g.row.M.Denot). h.metadata) c.in_ok-has.ensures.held)

pub returns-then-is_read_only-clause-changes : goal.returns-then-is_read_only-clause-changes
returns-then-is_read_only-clause-changes g c =
    changed_nothing g.M.Metadata.changed c.args.self.now.metadata c.has.new.self.metadata (Trim c.args.id c.args.sector c.args.count c.args.fua) ReadOnly refl (ap (λ (h : Held g.row.M.Denot). h.metadata) c.in_ok-has.ensures.held)

pub returns-then-count-eq0-clause-changes : goal.returns-then-count-eq0-clause-changes
returns-then-count-eq0-clause-changes g c =
    changed_done g.M.Metadata.changed c.args.self.now.metadata c.has.new.self.metadata (Trim c.args.id c.args.sector c.args.count c.args.fua) (trim_no_end c.args.fua c.args.count c.if-count-eq0.true)

pub returns-clause-changes : goal.returns-clause-changes
returns-clause-changes g c =
    subst (λ (h : Held g.row.M.Denot). HasChanged g.M.Metadata.changed h.metadata c.discard.new.self.metadata (Trim c.args.id c.args.sector c.args.count c.args.fua) c.discard.result) c.in_ok-has.ensures.held c.discard.ensures.changes

pub returns-in_err-has-clause-read_only : goal.returns-in_err-has-clause-read_only
returns-in_err-has-clause-read_only g c =
    let p = err_from_is_err_and c.from_residual.result c.from_residual.ensures.1 in
    λ reads. exit_is (λ (r : Result (Unit {0}) Refusal). HasOnlyRead c.args.self.now c.has.new.self r) c.from_residual.result (refusal_of c.in_err-has.field-0.0) p.0 p.1 (sym p.2) c.in_err-has.ensures.held

pub returns-then-not-branch-clause-read_only : goal.returns-then-not-branch-clause-read_only
returns-then-not-branch-clause-read_only g c = λ reads. c.in_ok-has.ensures.held

pub returns-then-is_read_only-clause-read_only : goal.returns-then-is_read_only-clause-read_only
returns-then-is_read_only-clause-read_only g c = λ reads. c.in_ok-has.ensures.held

pub returns-then-count-eq0-clause-read_only : goal.returns-then-count-eq0-clause-read_only
returns-then-count-eq0-clause-read_only g c =
    let writes : is_read_only c.args.self.now.mode ≡ false = sym (ap (λ (h : Held g.row.M.Denot). is_read_only h.mode) (c.self.view_is ∙ c.in_ok-has.ensures.held)) ∙ sym c.is_read_only.ensures ∙ c.if-is_read_only.false in
    λ reads. true≢false (sym reads ∙ writes)

pub returns-clause-read_only : goal.returns-clause-read_only
returns-clause-read_only g c =
    let writes : is_read_only c.args.self.now.mode ≡ false = sym (ap (λ (h : Held g.row.M.Denot). is_read_only h.mode) (c.self.view_is ∙ c.in_ok-has.ensures.held)) ∙ sym c.is_read_only.ensures ∙ c.if-is_read_only.false in
    λ reads. absurd (true≢false (sym reads ∙ writes))
