use Rattle.std.proofs.Common.{ap}
use Rattle.tp_model.specs.Disk.{DiskState, seen}
use Rattle.tp_users.proofs.OnDisk.{opened_new}
use Rattle.tp_users.proofs.uncached.formatted.Goals as goal

pub returns-in-Ok-format-clause-opened : goal.returns-in-Ok-format-clause-opened
returns-in-Ok-format-clause-opened c =
    let pool = c.in-Ok-format.pool in
    let made = c.in-Ok-format.ensures in
    let honest = ap (λ (d : DiskState). d.is_honest) c.in-Ok.ensures.0 in
    opened_new pool c.args.geometry c.fresh_image_stands_for_the_empty_pool.ensures.stands c.stops_leave_pools.ensures.at_rest made.geometry made.fresh (made.shows honest)
    (c.opened_pools_go_on.ensures (seen pool.disk.cells) pool (made.reopened honest) made.unchanged)
