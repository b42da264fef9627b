use Rattle.std.proofs.Common.{◌∙◌, Result, ap, subst}
use Rattle.tp_model.specs.declared.refusal.Refusal.{Refusal}
use Rattle.tp_model.specs.Calls.{CreateThin}
use Rattle.tp_model.specs.Disk.{DiskState, fresh}
use Rattle.tp_disk.specs.Memory.{mem_state}
use Rattle.tp_disk.specs.Picks.{picked}
use Rattle.tp_meta.specs.Standing.{StandsFor, geometry_of}
use Rattle.tp_pool.specs.Held.{PoolAnswered}
use Rattle.tp_users.proofs.Recovering.{short_kept}
use Rattle.tp_users.proofs.out_of_room.leave_short_pool.Goals as goal

pub returns-in-Ok : goal.returns-in-Ok
returns-in-Ok c =
    λ s shown.
    let t = c.create_thin-answer in
    let cells = t.new.self.disk.cells in
    let image = picked cells c.args.picks.now in
    let is = c.in-Ok.ensures.0 ∙ ap (λ (d : DiskState). fresh (picked d.cells c.args.picks.now)) c.disk.ensures in
    short_kept c.args.pool.now t.new.self c.args.created s image (mem_state c.in-Ok.disk) is shown
    (subst (λ (r : Result (Unit {0}) Refusal). PoolAnswered geometry_of StandsFor c.args.pool.now t.new.self (CreateThin c.args.created) r)
    (c.lacks_metadata.ensures c.if-not-lacks_metadata.false) t.ensures.called)
    (c.picks_are_stops.ensures.may cells c.args.picks.now)
