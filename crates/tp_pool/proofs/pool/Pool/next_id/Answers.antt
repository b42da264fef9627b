use Rattle.std.proofs.Common.{rules, ◌≡◌, ◌<◌, ◌^◌, false, [], ◌∷◌, Err, Ok, refl, sym, ap, subst, ◌∙◌}
use Rattle.std.specs.Prelude.{IfSome, MatchResult, is_ok}
use Rattle.std.proofs.lemmas.Bool.{true≢false}
use Rattle.std.proofs.lemmas.Result.{err_from_is_err_and}
use Rattle.tp_model.specs.declared.refusal.Refusal.TheVariants.{Damaged, Failed}
use Rattle.tp_counts.specs.declared.error.StoreError.{StoreError}
use Rattle.tp_counts.specs.StoreErrors.{refusal_of}
use Rattle.tp_counts.proofs.Refusing.{damaged_so, err_is, refused_so}
use Rattle.tp_model.specs.Calls.{Found, NextId, Refused, first_failed, is_failed}
use Rattle.tp_model.specs.DiskStops.{moment}
use Rattle.tp_model.specs.Disk.{DiskState}
use Rattle.tp_pool.specs.Held.{Held, PoolCalled, PoolRefused}
use Rattle.tp_pool.proofs.Answering.{failed_answers}
use Rattle.tp_pool.proofs.Calling.{Laws, called_failed}
use Rattle.tp_pool.proofs.Flushing.{flushed_failed}
use Rattle.tp_pool.proofs.Nexts.{next_answers, next_by, next_flushes}
use Rattle.tp_pool.proofs.pool.Pool.next_id.Goals as goal

pub returns-then-is_failed-clause-called : goal.returns-then-is_failed-clause-called
returns-then-is_failed-clause-called g c =
    let met = g.met.M.Metadata in
    let laws : Laws g.M.Metadata.geometry g.M.Metadata.stands g.M.Metadata.marks g.M.Metadata.room = record { within = met.within; honest = met.honest; left = met.left; frame = met.frame } in
    called_failed laws c.args.self.now (NextId c.args.from) (sym (ap (λ (h : Held g.row.M.Denot). is_failed h.mode) c.self.view_is) ∙ sym c.is_failed.ensures ∙ c.if-is_failed.true)
    (λ s failed. (λ i. first_failed ((failed i, Failed) ∷ []))) refl

pub returns-then-is_failed-clause-answered : goal.returns-then-is_failed-clause-answered
returns-then-is_failed-clause-answered g c =
    failed_answers g.M.Metadata.geometry g.M.Metadata.stands c.args.self.now (NextId c.args.from) (sym (ap (λ (h : Held g.row.M.Denot). is_failed h.mode) c.self.view_is) ∙ sym c.is_failed.ensures ∙ c.if-is_failed.true) refl

pub returns-then-is_failed-clause-flushes : goal.returns-then-is_failed-clause-flushes
returns-then-is_failed-clause-flushes g c =
    flushed_failed g.M.Metadata.geometry g.M.Metadata.stands g.M.Metadata.marks g.M.Metadata.room g.M.Metadata.changed c.args.self.now (NextId c.args.from) (Refused Failed)
    (sym (ap (λ (h : Held g.row.M.Denot). is_failed h.mode) c.self.view_is) ∙ sym c.is_failed.ensures ∙ c.if-is_failed.true)

pub returns-in_err-next_id-clause-called : goal.returns-in_err-next_id-clause-called
returns-in_err-next_id-clause-called g c =
    let M = g.M.Metadata in
    let was : Held g.row.M.Denot = record { disk = g.D.Disk.state c.self.inside.disk; metadata = c.self.inside.metadata; holders = c.self.inside.holders.items; mode = c.self.inside.mode } in
    let new : Held g.row.M.Denot = record was { disk = g.D.Disk.state c.next_id.new.disk } in
    let call = NextId c.args.from in
    let met = g.met.M.Metadata in
    let laws : Laws M.geometry M.stands M.marks M.room = record { within = met.within; honest = met.honest; left = met.left; frame = met.frame } in
    let works : is_failed was.mode ≡ false = sym c.is_failed.ensures ∙ c.if-is_failed.false in
    let p = err_from_is_err_and c.from_residual.result c.from_residual.ensures.1 in
    let x = c.in_err-next_id.field-0.0 in
    subst (λ (h : Held g.row.M.Denot). MatchResult c.from_residual.result (λ found. PoolCalled M.geometry M.stands h new call (Found found)) (λ reason. PoolRefused M.geometry M.stands h new call reason)) c.self.view_is
    (rw (p.1, p.2) (next_by laws was new.disk c.args.from (Err (refusal_of x)) works c.in_err-next_id.ensures.state tt
    (λ e now kept st. c.in_err-next_id.ensures.damaged (ap (λ (r : StoreError). Err r) (damaged_so x (err_is (refusal_of x) Damaged e))) now kept st) (refused_so x)))

pub returns-in_err-next_id-clause-answered : goal.returns-in_err-next_id-clause-answered
returns-in_err-next_id-clause-answered g c =
    let M = g.M.Metadata in
    let was : Held g.row.M.Denot = record { disk = g.D.Disk.state c.self.inside.disk; metadata = c.self.inside.metadata; holders = c.self.inside.holders.items; mode = c.self.inside.mode } in
    let new : Held g.row.M.Denot = record was { disk = g.D.Disk.state c.next_id.new.disk } in
    let e = c.self.view_is in
    let old = c.args.self.now in
    let works : is_failed old.mode ≡ false = sym (ap (λ (h : Held g.row.M.Denot). is_failed h.mode) e) ∙ sym c.is_failed.ensures ∙ c.if-is_failed.false in
    let p = err_from_is_err_and c.from_residual.result c.from_residual.ensures.1 in
    let x = c.in_err-next_id.field-0.0 in
    rw (p.1, p.2) (next_answers M.geometry M.stands c.args.from old new works (ap (λ (h : Held g.row.M.Denot). h.mode) e) (ap moment c.in_err-next_id.ensures.state ∙ ap (λ (h : Held g.row.M.Denot). moment h.disk) e) (Err (refusal_of x)) (refused_so x))

pub returns-in_err-next_id-clause-flushes : goal.returns-in_err-next_id-clause-flushes
returns-in_err-next_id-clause-flushes g c =
    let M = g.M.Metadata in
    let was : Held g.row.M.Denot = record { disk = g.D.Disk.state c.self.inside.disk; metadata = c.self.inside.metadata; holders = c.self.inside.holders.items; mode = c.self.inside.mode } in
    let new : Held g.row.M.Denot = record was { disk = g.D.Disk.state c.next_id.new.disk } in
    let e = c.self.view_is in
    let p = err_from_is_err_and c.from_residual.result c.from_residual.ensures.1 in
    let x = c.in_err-next_id.field-0.0 in
    rw (p.1, p.2) (next_flushes M.geometry M.stands M.marks M.room M.changed c.args.self.now new c.args.from
    (ap (λ (d : DiskState). d.flushes) c.in_err-next_id.ensures.state ∙ ap (λ (h : Held g.row.M.Denot). h.disk.flushes) e) (ap (λ (h : Held g.row.M.Denot). h.metadata) e) (Err (refusal_of x)) (refused_so x))

pub returns-clause-called : goal.returns-clause-called
returns-clause-called g c =
    let M = g.M.Metadata in
    let was : Held g.row.M.Denot = record { disk = g.D.Disk.state c.self.inside.disk; metadata = c.self.inside.metadata; holders = c.self.inside.holders.items; mode = c.self.inside.mode } in
    let new : Held g.row.M.Denot = record was { disk = g.D.Disk.state c.next_id.new.disk } in
    let call = NextId c.args.from in
    let met = g.met.M.Metadata in
    let laws : Laws M.geometry M.stands M.marks M.room = record { within = met.within; honest = met.honest; left = met.left; frame = met.frame } in
    let works : is_failed was.mode ≡ false = sym c.is_failed.ensures ∙ c.if-is_failed.false in
    let small : IfSome c.in_ok-next_id.field-0 (λ id. id < 2 ^ 24) = search rules in
    subst (λ (h : Held g.row.M.Denot). PoolCalled M.geometry M.stands h new call (Found c.in_ok-next_id.field-0)) c.self.view_is
    (next_by laws was new.disk c.args.from (Ok c.in_ok-next_id.field-0) works c.in_ok-next_id.ensures.state (small, c.in_ok-next_id.ensures.told) (λ e. absurd (true≢false (ap is_ok e))) tt)

pub returns-clause-answered : goal.returns-clause-answered
returns-clause-answered g c =
    let M = g.M.Metadata in
    let was : Held g.row.M.Denot = record { disk = g.D.Disk.state c.self.inside.disk; metadata = c.self.inside.metadata; holders = c.self.inside.holders.items; mode = c.self.inside.mode } in
    let new : Held g.row.M.Denot = record was { disk = g.D.Disk.state c.next_id.new.disk } in
    let e = c.self.view_is in
    let old = c.args.self.now in
    let works : is_failed old.mode ≡ false = sym (ap (λ (h : Held g.row.M.Denot). is_failed h.mode) e) ∙ sym c.is_failed.ensures ∙ c.if-is_failed.false in
    next_answers M.geometry M.stands c.args.from old new works (ap (λ (h : Held g.row.M.Denot). h.mode) e) (ap moment c.in_ok-next_id.ensures.state ∙ ap (λ (h : Held g.row.M.Denot). moment h.disk) e) (Ok c.in_ok-next_id.field-0) tt

pub returns-clause-flushes : goal.returns-clause-flushes
returns-clause-flushes g c =
    let M = g.M.Metadata in
    let was : Held g.row.M.Denot = record { disk = g.D.Disk.state c.self.inside.disk; metadata = c.self.inside.metadata; holders = c.self.inside.holders.items; mode = c.self.inside.mode } in
    let new : Held g.row.M.Denot = record was { disk = g.D.Disk.state c.next_id.new.disk } in
    let e = c.self.view_is in
    next_flushes M.geometry M.stands M.marks M.room M.changed c.args.self.now new c.args.from
    (ap (λ (d : DiskState). d.flushes) c.in_ok-next_id.ensures.state ∙ ap (λ (h : Held g.row.M.Denot). h.disk.flushes) e) (ap (λ (h : Held g.row.M.Denot). h.metadata) e) (Ok c.in_ok-next_id.field-0) tt
