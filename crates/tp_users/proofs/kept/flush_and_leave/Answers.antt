use Rattle.std.proofs.Common.{sym, subst, ap, ◌∙◌}
use Rattle.std.specs.Prelude.{IfErr, Result}
use Rattle.std.proofs.lemmas.Result.{err_from_is_err_and}
use Rattle.tp_model.specs.declared.refusal.Refusal.{Refusal}
use Rattle.tp_model.specs.Calls.{Flush}
use Rattle.tp_model.specs.Disk.{DiskState, fresh}
use Rattle.tp_disk.specs.Memory.{mem_state}
use Rattle.tp_disk.specs.Picks.{picked}
use Rattle.tp_users.specs.Users.{IsOutside}
use Rattle.tp_users.proofs.Given.{flush_keeps, fresh_kept, keep_refused, stop_kept}
use Rattle.tp_users.proofs.kept.flush_and_leave.Goals as goal

pub returns-in_err-flush-clause-only : goal.returns-in_err-flush-clause-only
returns-in_err-flush-clause-only c =
    λ s shown works.
    let p = err_from_is_err_and c.from_residual.result c.from_residual.ensures.1 in
    subst (λ (r : Result _ Refusal). IfErr r (λ reason. IsOutside reason)) (sym p.1)
    (subst IsOutside (sym p.2) (keep_refused c.args.pool.now c.flush.new.self Flush c.in_err-flush.field-0.0 s flush_keeps shown works c.in_err-flush.ensures.called))

pub returns-in-Ok-clause-kept : goal.returns-in-Ok-clause-kept
returns-in-Ok-clause-kept c =
    λ s shown.
    let cells = c.flush.new.self.disk.cells in
    let image = picked cells c.args.picks.now in
    let is = c.in-Ok.ensures.0 ∙ ap (λ (d : DiskState). fresh (picked d.cells c.args.picks.now)) c.disk.ensures in
    fresh_kept image (mem_state c.in-Ok.disk) s is
    (stop_kept c.args.pool.now c.flush.new.self Flush s image flush_keeps shown c.in_ok-flush.ensures.called (c.picks_are_stops.ensures.may cells c.args.picks.now))
