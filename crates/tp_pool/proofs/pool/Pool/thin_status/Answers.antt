use Rattle.std.proofs.Common.{rules, ap, subst, sym, take, ℕ, Err, Result}
use Rattle.std.specs.Prelude.{MatchResult}
use Rattle.std.proofs.lemmas.Result.{err_from_is_err_and}
use Rattle.tp_model.specs.declared.refusal.Refusal.{Refusal}
use Rattle.tp_model.specs.Calls.{Line, ThinStatus}
use Rattle.tp_pool.specs.Held.{Held, PoolCalled, PoolRefused}
use Rattle.tp_pool.proofs.Calling.{Laws}
use Rattle.tp_pool.proofs.Statuses.{thin_called, thin_refused, volume_line_told}
use Rattle.tp_pool.proofs.pool.Pool.thin_status.Goals as goal

pub returns-in_err-status-clause-called : goal.returns-in_err-status-clause-called
returns-in_err-status-clause-called g c =
    let met = g.met.M.Metadata in
    let laws : Laws g.M.Metadata.geometry g.M.Metadata.stands g.M.Metadata.marks g.M.Metadata.room =
    record { within = met.within; honest = met.honest; left = met.left; frame = met.frame } in
    let old = c.args.self.now in
    let new = c.volume_status.new.self in
    let x = c.in_err-status.field-0.0 in
    let told = c.in_err-status.ensures in
    let p = err_from_is_err_and c.from_residual.result c.from_residual.ensures.1 in
    subst (λ (r : Result ℕ Refusal). MatchResult r
    (λ length. PoolCalled g.M.Metadata.geometry g.M.Metadata.stands old new (ThinStatus c.args.id) (Line (take length c.args.out.now)))
    (λ reason. PoolRefused g.M.Metadata.geometry g.M.Metadata.stands old new (ThinStatus c.args.id) reason)) (sym p.1)
    (subst (λ (r : Refusal). PoolRefused g.M.Metadata.geometry g.M.Metadata.stands old new (ThinStatus c.args.id) r) (sym p.2)
    (subst (λ (h : Held g.row.M.Denot). PoolRefused g.M.Metadata.geometry g.M.Metadata.stands old h (ThinStatus c.args.id) x) (sym told.held)
    (thin_refused laws old c.args.id x (search rules) told.works told.only (λ e now kept st. told.absent (ap (λ (r : Refusal). Err r) e) now kept st)
    (λ e now kept st. told.damaged (ap (λ (r : Refusal). Err r) e) now kept st))))

pub returns-clause-called : goal.returns-clause-called
returns-clause-called g c =
    let met = g.met.M.Metadata in
    let laws : Laws g.M.Metadata.geometry g.M.Metadata.stands g.M.Metadata.marks g.M.Metadata.room =
    record { within = met.within; honest = met.honest; left = met.left; frame = met.frame } in
    let line = take c.print_thin.result c.print_thin.new.out in
    let told = c.in_ok-status.ensures in
    subst (λ (h : Held g.row.M.Denot). PoolCalled g.M.Metadata.geometry g.M.Metadata.stands c.args.self.now h (ThinStatus c.args.id) (Line line)) (sym told.held)
    (thin_called laws c.args.self.now c.args.id line (λ s shown.
    let t = told.told s shown in
    (t.0, volume_line_told c.in_ok-status.status s c.args.id line t.1 c.print_thin.ensures.line (λ p i tells. c.print_thin.ensures.of_volume p i tells))))
