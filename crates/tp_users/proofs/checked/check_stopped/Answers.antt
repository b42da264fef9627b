use Rattle.std.proofs.Common.{◌∙◌, ap}
use Rattle.tp_model.specs.Disk.{DiskState, fresh}
use Rattle.tp_disk.specs.Memory.{mem_state}
use Rattle.tp_disk.specs.Picks.{picked}
use Rattle.tp_users.proofs.Stopped.{stopped_is_left}
use Rattle.tp_users.proofs.checked.check_stopped.Goals as goal

pub returns-in-Ok : goal.returns-in-Ok
returns-in-Ok c = λ s shown.
    let cells = c.args.pool.now.disk.cells in
    let image = picked cells c.args.picks.now in
    let is = c.in-Ok.ensures.0 ∙ ap (λ (d : DiskState). fresh (picked d.cells c.args.picks.now)) c.disk.ensures in
    let left = stopped_is_left c.args.pool.now s image (mem_state c.in-Ok.disk) is shown (c.picks_are_stops.ensures.may cells c.args.picks.now) in
    c.check_left.ensures.answers left.0 left.1
