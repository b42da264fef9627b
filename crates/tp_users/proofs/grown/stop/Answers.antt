use Rattle.std.proofs.Common.{ap, ◌∙◌}
use Rattle.tp_model.specs.Disk.{DiskState, fresh}
use Rattle.tp_disk.specs.Memory.{mem_state}
use Rattle.tp_disk.specs.Picks.{picked}
use Rattle.tp_users.proofs.Given.{fresh_kept}
use Rattle.tp_users.proofs.grown.stop.Goals as goal

pub returns-in-Ok-clause-kept : goal.returns-in-Ok-clause-kept
returns-in-Ok-clause-kept c =
    λ s left.
    let cells = c.args.pool.now.disk.cells in
    let image = picked cells c.args.picks.now in
    let is = c.in-Ok.ensures.0 ∙ ap (λ (d : DiskState). fresh (picked d.cells c.args.picks.now)) c.disk.ensures in
    fresh_kept image (mem_state c.in-Ok.disk) s is (left image (c.picks_are_stops.ensures.may cells c.args.picks.now))
