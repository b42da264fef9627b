use Rattle.std.proofs.Common.{rules, inl, Ok, ◌≡◌, false, not, Err, List, [], ◌∷◌, ◌++◌, refl, sym, ap, subst, ◌∙◌}
use Rattle.std.specs.Prelude.{Result}
use Rattle.std.proofs.lemmas.Result.{err_from_is_err_and}
use Rattle.tp_model.specs.declared.refusal.Refusal.{Refusal}
use Rattle.tp_model.specs.declared.refusal.Refusal.TheVariants.{Failed, NoSuchDevice}
use Rattle.tp_model.specs.DiskStops.{moment}
use Rattle.tp_model.specs.Calls.{Done, Hold, Refused, exists, first_failed, is_failed}
use Rattle.tp_counts.specs.declared.error.StoreError.{StoreError}
use Rattle.tp_counts.specs.StoreErrors.{refusal_of}
use Rattle.tp_counts.proofs.Refusing.{damaged_so, refused_so}
use Rattle.tp_holders.specs.Holders.{Holding, blocks_held, holds_of}
use Rattle.tp_pool.specs.Held.{AnswersSo, Held, PoolAnswered, PoolCalled, PoolRefused}
use Rattle.tp_pool.proofs.Calling.{Laws, called_failed}
use Rattle.tp_holders.proofs.Rows.{blocks_pushed, holds_pushed}
use Rattle.tp_pool.proofs.Serving.{exit_is, hold_done, no_device, no_size, none_there, read_refused}
use Rattle.tp_pool.proofs.Answering.{failed_answers, hold_looks_up, looked_up, missed, missed_by}
use Rattle.tp_pool.proofs.Flushing.{failure_commits, flushed_failed, flushed_read}
use Rattle.tp_pool.specs.Flushes.{FlushesSo}
use Rattle.tp_pool.proofs.pool.Pool.hold.Goals as goal

pub returns-then-is_failed-clause-called : goal.returns-then-is_failed-clause-called
returns-then-is_failed-clause-called g c =
    let met = g.met.M.Metadata in
    let laws : Laws g.M.Metadata.geometry g.M.Metadata.stands g.M.Metadata.marks g.M.Metadata.room = record { within = met.within; honest = met.honest; left = met.left; frame = met.frame } in
    called_failed laws c.args.self.now (Hold c.args.id) (sym (ap (λ (h : Held g.row.M.Denot). is_failed h.mode) c.self.view_is) ∙ sym c.is_failed.ensures ∙ c.if-is_failed.true)
    (λ s failed. (λ i. first_failed ((failed i, Failed) ∷ (not (exists s c.args.id), NoSuchDevice) ∷ []))) refl

pub returns-in_err-blocks-clause-called : goal.returns-in_err-blocks-clause-called
returns-in_err-blocks-clause-called g c =
    let met = g.met.M.Metadata in
    let laws : Laws g.M.Metadata.geometry g.M.Metadata.stands g.M.Metadata.marks g.M.Metadata.room = record { within = met.within; honest = met.honest; left = met.left; frame = met.frame } in
    let works : is_failed c.args.self.now.mode ≡ false = sym (ap (λ (h : Held g.row.M.Denot). is_failed h.mode) c.self.view_is) ∙ sym c.is_failed.ensures ∙ c.if-is_failed.false in
    let p = err_from_is_err_and c.from_residual.result c.from_residual.ensures.1 in
    let x = refusal_of c.in_err-blocks.field-0.0 in
    let old = c.args.self.now in
    exit_is (λ (r : Result (Unit {0}) Refusal). PoolAnswered g.M.Metadata.geometry g.M.Metadata.stands old c.size.new.self (Hold c.args.id) r) c.from_residual.result x p.0 p.1 (sym p.2)
    (subst (λ (h : Held g.row.M.Denot). PoolRefused g.M.Metadata.geometry g.M.Metadata.stands old h (Hold c.args.id) x) (sym c.in_err-blocks.ensures.held)
    (read_refused laws old (Hold c.args.id) x works refl refl (refused_so c.in_err-blocks.field-0.0) (λ e now kept st. c.in_err-blocks.ensures.damaged (ap (λ (r : StoreError). Err r) (damaged_so c.in_err-blocks.field-0.0 e)) now kept st)))

pub returns-in_default-clause-called : goal.returns-in_default-clause-called
returns-in_default-clause-called g c =
    let met = g.met.M.Metadata in
    let laws : Laws g.M.Metadata.geometry g.M.Metadata.stands g.M.Metadata.marks g.M.Metadata.room = record { within = met.within; honest = met.honest; left = met.left; frame = met.frame } in
    let works : is_failed c.args.self.now.mode ≡ false = sym (ap (λ (h : Held g.row.M.Denot). is_failed h.mode) c.self.view_is) ∙ sym c.is_failed.ensures ∙ c.if-is_failed.false in
    let old = c.args.self.now in
    subst (λ (h : Held g.row.M.Denot). PoolCalled g.M.Metadata.geometry g.M.Metadata.stands old h (Hold c.args.id) (Refused NoSuchDevice)) (sym c.in_ok-blocks.ensures.held)
    (none_there laws old (Hold c.args.id) c.args.id (search rules) works refl (λ now kept st. no_size laws (g.M.Metadata.geometry old.metadata) now.volumes c.args.id c.in_ok-blocks.field-0 c.in_default.is (c.in_ok-blocks.ensures.told now kept st)) (λ s w e. no_device s c.args.id w e))

pub returns-clause-holds : goal.returns-clause-holds
returns-clause-holds g c =
    let e = c.self-2.view_is ∙ c.in_ok-blocks.ensures.held in
    ap holds_of (c.push.ensures.items ∙ (λ i. (e i).holders ++ c.of.ensures i ∷ [])) ∙ holds_pushed c.args.self.now.holders (record { volume = c.args.id; blocks = c.in-Some.blocks })

pub returns-clause-sizes : goal.returns-clause-sizes
returns-clause-sizes g c other some =
    let e = c.self-2.view_is ∙ c.in_ok-blocks.ensures.held in
    ap (λ (l : List Holding). blocks_held l other) (c.push.ensures.items ∙ (λ i. (e i).holders ++ c.of.ensures i ∷ []))
    ∙ blocks_pushed c.args.self.now.holders (record { volume = c.args.id; blocks = c.in-Some.blocks }) other some

pub returns-clause-called : goal.returns-clause-called
returns-clause-called g c =
    let met = g.met.M.Metadata in
    let laws : Laws g.M.Metadata.geometry g.M.Metadata.stands g.M.Metadata.marks g.M.Metadata.room = record { within = met.within; honest = met.honest; left = met.left; frame = met.frame } in
    let works : is_failed c.args.self.now.mode ≡ false = sym (ap (λ (h : Held g.row.M.Denot). is_failed h.mode) c.self.view_is) ∙ sym c.is_failed.ensures ∙ c.if-is_failed.false in
    let e = c.self-2.view_is ∙ c.in_ok-blocks.ensures.held in
    let old = c.args.self.now in
    let items = c.push.ensures.items ∙ (λ i. (e i).holders ++ c.of.ensures i ∷ []) in
    subst (λ (h : Held g.row.M.Denot). PoolCalled g.M.Metadata.geometry g.M.Metadata.stands old (record h { holders = c.push.new.self.items }) (Hold c.args.id) Done) (sym e)
    (subst (λ (l : List Holding). PoolCalled g.M.Metadata.geometry g.M.Metadata.stands old (record old { holders = l }) (Hold c.args.id) Done) (sym items)
    (hold_done laws old c.args.id c.in-Some.blocks (search rules) works (λ now kept st. sym c.in-Some.is ∙ c.in_ok-blocks.ensures.told now kept st)))

pub returns-then-is_failed-clause-answered : goal.returns-then-is_failed-clause-answered
returns-then-is_failed-clause-answered g c =
    failed_answers g.M.Metadata.geometry g.M.Metadata.stands c.args.self.now (Hold c.args.id) (sym (ap (λ (h : Held g.row.M.Denot). is_failed h.mode) c.self.view_is) ∙ sym c.is_failed.ensures ∙ c.if-is_failed.true) refl

pub returns-in_err-blocks-clause-answered : goal.returns-in_err-blocks-clause-answered
returns-in_err-blocks-clause-answered g c =
    let works : is_failed c.args.self.now.mode ≡ false = sym (ap (λ (h : Held g.row.M.Denot). is_failed h.mode) c.self.view_is) ∙ sym c.is_failed.ensures ∙ c.if-is_failed.false in
    let p = err_from_is_err_and c.from_residual.result c.from_residual.ensures.1 in
    let x = refusal_of c.in_err-blocks.field-0.0 in
    let old = c.args.self.now in
    exit_is (λ (r : Result (Unit {0}) Refusal). AnswersSo g.M.Metadata.geometry g.M.Metadata.stands old c.size.new.self (Hold c.args.id) r) c.from_residual.result x p.0 p.1 (sym p.2)
    (missed g.M.Metadata.geometry g.M.Metadata.stands (Hold c.args.id) (hold_looks_up c.args.id) old c.size.new.self works (ap (λ (h : Held g.row.M.Denot). h.mode) c.in_err-blocks.ensures.held) (ap (λ (h : Held g.row.M.Denot). moment h.disk) c.in_err-blocks.ensures.held) x (missed_by x (refused_so c.in_err-blocks.field-0.0)))

pub returns-in_default-clause-answered : goal.returns-in_default-clause-answered
returns-in_default-clause-answered g c =
    let works : is_failed c.args.self.now.mode ≡ false = sym (ap (λ (h : Held g.row.M.Denot). is_failed h.mode) c.self.view_is) ∙ sym c.is_failed.ensures ∙ c.if-is_failed.false in
    missed g.M.Metadata.geometry g.M.Metadata.stands (Hold c.args.id) (hold_looks_up c.args.id) c.args.self.now c.size.new.self works (ap (λ (h : Held g.row.M.Denot). h.mode) c.in_ok-blocks.ensures.held) (ap (λ (h : Held g.row.M.Denot). moment h.disk) c.in_ok-blocks.ensures.held) NoSuchDevice (inl refl)

pub returns-clause-answered : goal.returns-clause-answered
returns-clause-answered g c =
    let works : is_failed c.args.self.now.mode ≡ false = sym (ap (λ (h : Held g.row.M.Denot). is_failed h.mode) c.self.view_is) ∙ sym c.is_failed.ensures ∙ c.if-is_failed.false in
    let e = c.self-2.view_is ∙ c.in_ok-blocks.ensures.held in
    let new : Held g.row.M.Denot = record { disk = g.D.Disk.state c.self-2.inside.disk; metadata = c.self-2.inside.metadata; holders = c.push.new.self.items; mode = c.self-2.inside.mode } in
    looked_up g.M.Metadata.geometry g.M.Metadata.stands (Hold c.args.id) (hold_looks_up c.args.id) c.args.self.now new works (ap (λ (h : Held g.row.M.Denot). h.mode) e) (ap (λ (h : Held g.row.M.Denot). moment h.disk) e) (Ok tt) tt

pub returns-then-is_failed-clause-flushes : goal.returns-then-is_failed-clause-flushes
returns-then-is_failed-clause-flushes g c =
    flushed_failed g.M.Metadata.geometry g.M.Metadata.stands g.M.Metadata.marks g.M.Metadata.room g.M.Metadata.changed c.args.self.now (Hold c.args.id) (Refused Failed) (sym (ap (λ (h : Held g.row.M.Denot). is_failed h.mode) c.self.view_is) ∙ sym c.is_failed.ensures ∙ c.if-is_failed.true)

pub returns-in_err-blocks-clause-flushes : goal.returns-in_err-blocks-clause-flushes
returns-in_err-blocks-clause-flushes g c =
    let p = err_from_is_err_and c.from_residual.result c.from_residual.ensures.1 in
    let x = refusal_of c.in_err-blocks.field-0.0 in
    let old = c.args.self.now in
    exit_is (λ (r : Result (Unit {0}) Refusal). FlushesSo g.M.Metadata.geometry g.M.Metadata.stands g.M.Metadata.marks g.M.Metadata.room g.M.Metadata.changed old c.size.new.self (Hold c.args.id) r) c.from_residual.result x p.0 p.1 (sym p.2)
    (flushed_read g.M.Metadata.geometry g.M.Metadata.stands g.M.Metadata.marks g.M.Metadata.room g.M.Metadata.changed old c.size.new.self (Hold c.args.id) (Refused x) (ap (λ (h : Held g.row.M.Denot). h.disk.flushes) c.in_err-blocks.ensures.held) (ap (λ (h : Held g.row.M.Denot). h.metadata) c.in_err-blocks.ensures.held) refl (failure_commits x (refused_so c.in_err-blocks.field-0.0)))

pub returns-in_default-clause-flushes : goal.returns-in_default-clause-flushes
returns-in_default-clause-flushes g c =
    flushed_read g.M.Metadata.geometry g.M.Metadata.stands g.M.Metadata.marks g.M.Metadata.room g.M.Metadata.changed c.args.self.now c.size.new.self (Hold c.args.id) (Refused NoSuchDevice) (ap (λ (h : Held g.row.M.Denot). h.disk.flushes) c.in_ok-blocks.ensures.held) (ap (λ (h : Held g.row.M.Denot). h.metadata) c.in_ok-blocks.ensures.held) refl refl

pub returns-clause-flushes : goal.returns-clause-flushes
returns-clause-flushes g c =
    let e = c.self-2.view_is ∙ c.in_ok-blocks.ensures.held in
    let new : Held g.row.M.Denot = record { disk = g.D.Disk.state c.self-2.inside.disk; metadata = c.self-2.inside.metadata; holders = c.push.new.self.items; mode = c.self-2.inside.mode } in
    flushed_read g.M.Metadata.geometry g.M.Metadata.stands g.M.Metadata.marks g.M.Metadata.room g.M.Metadata.changed c.args.self.now new (Hold c.args.id) Done (ap (λ (h : Held g.row.M.Denot). h.disk.flushes) e) (ap (λ (h : Held g.row.M.Denot). h.metadata) e) refl refl
