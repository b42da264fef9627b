use Rattle.std.proofs.Common.{rules, ◌≡◌, false, not, Err, [], ◌∷◌, inl, refl, sym, ap, subst, ◌∙◌}
use Rattle.std.specs.Prelude.{MatchResult, Result}
use Rattle.std.proofs.lemmas.Result.{err_from_is_err_and}
use Rattle.tp_model.specs.declared.refusal.Refusal.{Refusal}
use Rattle.tp_model.specs.declared.refusal.Refusal.TheVariants.{Failed, NoSuchDevice}
use Rattle.tp_model.specs.Calls.{Listed, Refused, Walk, exists, first_failed, is_failed}
use Rattle.tp_counts.specs.declared.error.StoreError.{StoreError}
use Rattle.tp_counts.specs.StoreErrors.{refusal_of}
use Rattle.tp_counts.proofs.Refusing.{damaged_so, refused_so}
use Rattle.tp_pool.specs.Held.{Held, PoolCalled, PoolRefused}
use Rattle.tp_model.specs.Slots.{listed}
use Rattle.tp_pool.proofs.Calling.{Laws, called_failed}
use Rattle.tp_pool.proofs.Serving.{exit_is, no_device, none_there, read_refused}
use Rattle.tp_pool.proofs.Answering.{Answered, failed_answers, missed, missed_by}
use Rattle.tp_pool.proofs.Flushing.{Flushed, failure_commits, flushed_failed, flushed_read}
use Rattle.tp_pool.proofs.Pieces.{walk_answers, walk_by, walk_looks_up}
use Rattle.tp_model.specs.DiskStops.{moment}
use Rattle.tp_model.specs.Disk.{DiskState}
use Rattle.tp_pool.proofs.pool.Pool.walk.Goals as goal

pub returns-then-is_failed-clause-called : goal.returns-then-is_failed-clause-called
returns-then-is_failed-clause-called g c =
    let met = g.met.M.Metadata in
    let laws : Laws g.M.Metadata.geometry g.M.Metadata.stands g.M.Metadata.marks g.M.Metadata.room = record { within = met.within; honest = met.honest; left = met.left; frame = met.frame } in
    called_failed laws c.args.self.now (Walk c.args.id c.args.from) (sym (ap (λ (h : Held g.row.M.Denot). is_failed h.mode) c.self.view_is) ∙ sym c.is_failed.ensures ∙ c.if-is_failed.true)
    (λ s failed. (λ i. first_failed ((failed i, Failed) ∷ (not (exists s c.args.id), NoSuchDevice) ∷ []))) refl

pub returns-in_err-is_there-clause-called : goal.returns-in_err-is_there-clause-called
returns-in_err-is_there-clause-called g c =
    let M = g.M.Metadata in
    let was : Held g.row.M.Denot = record { disk = g.D.Disk.state c.self.inside.disk; metadata = c.self.inside.metadata; holders = c.self.inside.holders.items; mode = c.self.inside.mode } in
    let new : Held g.row.M.Denot = record was { disk = g.D.Disk.state c.list_slots.new.disk } in
    let e = c.self.view_is in
    let old = c.args.self.now in
    let call = Walk c.args.id c.args.from in
    let met = g.met.M.Metadata in
    let laws : Laws M.geometry M.stands M.marks M.room = record { within = met.within; honest = met.honest; left = met.left; frame = met.frame } in
    let works : is_failed was.mode ≡ false = sym c.is_failed.ensures ∙ c.if-is_failed.false in
    let p = err_from_is_err_and c.from_residual.result c.from_residual.ensures.1 in
    let x = refusal_of c.in_err-is_there.field-0.0 in
    subst (λ (h : Held g.row.M.Denot). MatchResult c.from_residual.result (λ u. PoolCalled M.geometry M.stands h new call (Listed (listed c.list_slots.new.slots.items))) (λ reason. PoolRefused M.geometry M.stands h new call reason)) e
    (exit_is (λ (r : Result (Unit {0}) Refusal). MatchResult r (λ u. PoolCalled M.geometry M.stands was new call (Listed (listed c.list_slots.new.slots.items))) (λ reason. PoolRefused M.geometry M.stands was new call reason)) c.from_residual.result x p.0 p.1 (sym p.2)
    (subst (λ (d : DiskState). PoolRefused M.geometry M.stands was (record was { disk = d }) call x) (sym c.in_err-is_there.ensures.looked.state)
    (read_refused laws was call x works refl refl (refused_so c.in_err-is_there.field-0.0) (λ eq now kept st. c.in_err-is_there.ensures.looked.damaged (ap (λ (r : StoreError). Err r) (damaged_so c.in_err-is_there.field-0.0 eq)) now kept st))))

pub returns-then-not-is_there-clause-called : goal.returns-then-not-is_there-clause-called
returns-then-not-is_there-clause-called g c =
    let M = g.M.Metadata in
    let was : Held g.row.M.Denot = record { disk = g.D.Disk.state c.self.inside.disk; metadata = c.self.inside.metadata; holders = c.self.inside.holders.items; mode = c.self.inside.mode } in
    let new : Held g.row.M.Denot = record was { disk = g.D.Disk.state c.list_slots.new.disk } in
    let e = c.self.view_is in
    let old = c.args.self.now in
    let call = Walk c.args.id c.args.from in
    let met = g.met.M.Metadata in
    let laws : Laws M.geometry M.stands M.marks M.room = record { within = met.within; honest = met.honest; left = met.left; frame = met.frame } in
    let works : is_failed was.mode ≡ false = sym c.is_failed.ensures ∙ c.if-is_failed.false in
    subst (λ (h : Held g.row.M.Denot). PoolCalled M.geometry M.stands h new call (Refused NoSuchDevice)) e
    (subst (λ (d : DiskState). PoolCalled M.geometry M.stands was (record was { disk = d }) call (Refused NoSuchDevice)) (sym c.in_ok-is_there.ensures.looked.state)
    (none_there laws was call c.args.id (search rules) works refl (λ now kept st. sym c.if-not-is_there.true ∙ (c.in_ok-is_there.ensures.looked.told now kept st).0) (λ s w e. no_device s c.args.id w e)))

pub returns-clause-called : goal.returns-clause-called
returns-clause-called g c =
    let M = g.M.Metadata in
    let was : Held g.row.M.Denot = record { disk = g.D.Disk.state c.self.inside.disk; metadata = c.self.inside.metadata; holders = c.self.inside.holders.items; mode = c.self.inside.mode } in
    let new : Held g.row.M.Denot = record was { disk = g.D.Disk.state c.list_slots.new.disk } in
    let call = Walk c.args.id c.args.from in
    let met = g.met.M.Metadata in
    let laws : Laws M.geometry M.stands M.marks M.room = record { within = met.within; honest = met.honest; left = met.left; frame = met.frame } in
    let works : is_failed was.mode ≡ false = sym c.is_failed.ensures ∙ c.if-is_failed.false in
    subst (λ (h : Held g.row.M.Denot). PoolCalled M.geometry M.stands h new call (Listed (listed c.list_slots.new.slots.items))) c.self.view_is
    (walk_by laws was new.disk c.args.id c.args.from c.list_slots.new.slots.items (search rules) works c.in_ok-is_there.ensures.looked.state
    (λ now kept st. sym c.if-not-is_there.false ∙ (c.in_ok-is_there.ensures.looked.told now kept st).0)
    (λ now kept st. (c.in_ok-is_there.ensures.looked.told now kept st).1))

pub returns-then-is_failed-clause-answered : goal.returns-then-is_failed-clause-answered
returns-then-is_failed-clause-answered g c =
    failed_answers g.M.Metadata.geometry g.M.Metadata.stands c.args.self.now (Walk c.args.id c.args.from) (sym (ap (λ (h : Held g.row.M.Denot). is_failed h.mode) c.self.view_is) ∙ sym c.is_failed.ensures ∙ c.if-is_failed.true) refl

pub returns-in_err-is_there-clause-answered : goal.returns-in_err-is_there-clause-answered
returns-in_err-is_there-clause-answered g c =
    let M = g.M.Metadata in
    let was : Held g.row.M.Denot = record { disk = g.D.Disk.state c.self.inside.disk; metadata = c.self.inside.metadata; holders = c.self.inside.holders.items; mode = c.self.inside.mode } in
    let new : Held g.row.M.Denot = record was { disk = g.D.Disk.state c.list_slots.new.disk } in
    let e = c.self.view_is in
    let old = c.args.self.now in
    let call = Walk c.args.id c.args.from in
    let works : is_failed old.mode ≡ false = sym (ap (λ (h : Held g.row.M.Denot). is_failed h.mode) e) ∙ sym c.is_failed.ensures ∙ c.if-is_failed.false in
    let p = err_from_is_err_and c.from_residual.result c.from_residual.ensures.1 in
    let x = refusal_of c.in_err-is_there.field-0.0 in
    exit_is (λ (r : Result (Unit {0}) Refusal). MatchResult r (λ u. Answered M.geometry M.stands old new call (Listed (listed c.list_slots.new.slots.items)))
    (λ reason. Answered M.geometry M.stands old new call (Refused reason))) c.from_residual.result x p.0 p.1 (sym p.2)
    (missed M.geometry M.stands call (walk_looks_up c.args.id c.args.from) old new works (ap (λ (h : Held g.row.M.Denot). h.mode) e) (ap moment c.in_err-is_there.ensures.looked.state ∙ ap (λ (h : Held g.row.M.Denot). moment h.disk) e) x (missed_by x (refused_so c.in_err-is_there.field-0.0)))

pub returns-then-not-is_there-clause-answered : goal.returns-then-not-is_there-clause-answered
returns-then-not-is_there-clause-answered g c =
    let M = g.M.Metadata in
    let was : Held g.row.M.Denot = record { disk = g.D.Disk.state c.self.inside.disk; metadata = c.self.inside.metadata; holders = c.self.inside.holders.items; mode = c.self.inside.mode } in
    let new : Held g.row.M.Denot = record was { disk = g.D.Disk.state c.list_slots.new.disk } in
    let e = c.self.view_is in
    let old = c.args.self.now in
    let call = Walk c.args.id c.args.from in
    let works : is_failed old.mode ≡ false = sym (ap (λ (h : Held g.row.M.Denot). is_failed h.mode) e) ∙ sym c.is_failed.ensures ∙ c.if-is_failed.false in
    missed M.geometry M.stands call (walk_looks_up c.args.id c.args.from) old new works (ap (λ (h : Held g.row.M.Denot). h.mode) e) (ap moment c.in_ok-is_there.ensures.looked.state ∙ ap (λ (h : Held g.row.M.Denot). moment h.disk) e) NoSuchDevice (inl refl)

pub returns-clause-answered : goal.returns-clause-answered
returns-clause-answered g c =
    let M = g.M.Metadata in
    let was : Held g.row.M.Denot = record { disk = g.D.Disk.state c.self.inside.disk; metadata = c.self.inside.metadata; holders = c.self.inside.holders.items; mode = c.self.inside.mode } in
    let new : Held g.row.M.Denot = record was { disk = g.D.Disk.state c.list_slots.new.disk } in
    let e = c.self.view_is in
    let old = c.args.self.now in
    let call = Walk c.args.id c.args.from in
    let works : is_failed old.mode ≡ false = sym (ap (λ (h : Held g.row.M.Denot). is_failed h.mode) e) ∙ sym c.is_failed.ensures ∙ c.if-is_failed.false in
    walk_answers M.geometry M.stands c.args.id c.args.from (listed c.list_slots.new.slots.items) old new works (ap (λ (h : Held g.row.M.Denot). h.mode) e) (ap moment c.in_ok-is_there.ensures.looked.state ∙ ap (λ (h : Held g.row.M.Denot). moment h.disk) e)

pub returns-then-is_failed-clause-flushes : goal.returns-then-is_failed-clause-flushes
returns-then-is_failed-clause-flushes g c =
    flushed_failed g.M.Metadata.geometry g.M.Metadata.stands g.M.Metadata.marks g.M.Metadata.room g.M.Metadata.changed c.args.self.now (Walk c.args.id c.args.from) (Refused Failed) (sym (ap (λ (h : Held g.row.M.Denot). is_failed h.mode) c.self.view_is) ∙ sym c.is_failed.ensures ∙ c.if-is_failed.true)

pub returns-in_err-is_there-clause-flushes : goal.returns-in_err-is_there-clause-flushes
returns-in_err-is_there-clause-flushes g c =
    let M = g.M.Metadata in
    let was : Held g.row.M.Denot = record { disk = g.D.Disk.state c.self.inside.disk; metadata = c.self.inside.metadata; holders = c.self.inside.holders.items; mode = c.self.inside.mode } in
    let new : Held g.row.M.Denot = record was { disk = g.D.Disk.state c.list_slots.new.disk } in
    let e = c.self.view_is in
    let old = c.args.self.now in
    let call = Walk c.args.id c.args.from in
    let p = err_from_is_err_and c.from_residual.result c.from_residual.ensures.1 in
    let x = refusal_of c.in_err-is_there.field-0.0 in
    exit_is (λ (r : Result (Unit {0}) Refusal). MatchResult r (λ u. Flushed M.geometry M.stands M.marks M.room M.changed old new call (Listed (listed c.list_slots.new.slots.items)))
    (λ reason. Flushed M.geometry M.stands M.marks M.room M.changed old new call (Refused reason))) c.from_residual.result x p.0 p.1 (sym p.2)
    (flushed_read M.geometry M.stands M.marks M.room M.changed old new call (Refused x) (ap (λ (d : DiskState). d.flushes) c.in_err-is_there.ensures.looked.state ∙ ap (λ (h : Held g.row.M.Denot). h.disk.flushes) e) (ap (λ (h : Held g.row.M.Denot). h.metadata) e) refl (failure_commits x (refused_so c.in_err-is_there.field-0.0)))

pub returns-then-not-is_there-clause-flushes : goal.returns-then-not-is_there-clause-flushes
returns-then-not-is_there-clause-flushes g c =
    let M = g.M.Metadata in
    let was : Held g.row.M.Denot = record { disk = g.D.Disk.state c.self.inside.disk; metadata = c.self.inside.metadata; holders = c.self.inside.holders.items; mode = c.self.inside.mode } in
    let new : Held g.row.M.Denot = record was { disk = g.D.Disk.state c.list_slots.new.disk } in
    let e = c.self.view_is in
    let old = c.args.self.now in
    let call = Walk c.args.id c.args.from in
    flushed_read M.geometry M.stands M.marks M.room M.changed old new call (Refused NoSuchDevice) (ap (λ (d : DiskState). d.flushes) c.in_ok-is_there.ensures.looked.state ∙ ap (λ (h : Held g.row.M.Denot). h.disk.flushes) e) (ap (λ (h : Held g.row.M.Denot). h.metadata) e) refl refl

pub returns-clause-flushes : goal.returns-clause-flushes
returns-clause-flushes g c =
    let M = g.M.Metadata in
    let was : Held g.row.M.Denot = record { disk = g.D.Disk.state c.self.inside.disk; metadata = c.self.inside.metadata; holders = c.self.inside.holders.items; mode = c.self.inside.mode } in
    let new : Held g.row.M.Denot = record was { disk = g.D.Disk.state c.list_slots.new.disk } in
    let e = c.self.view_is in
    let old = c.args.self.now in
    let call = Walk c.args.id c.args.from in
    flushed_read M.geometry M.stands M.marks M.room M.changed old new call (Listed (listed c.list_slots.new.slots.items))
    (ap (λ (d : DiskState). d.flushes) c.in_ok-is_there.ensures.looked.state ∙ ap (λ (h : Held g.row.M.Denot). h.disk.flushes) e) (ap (λ (h : Held g.row.M.Denot). h.metadata) e) refl refl
