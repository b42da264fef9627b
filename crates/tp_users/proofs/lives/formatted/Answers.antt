use Rattle.std.proofs.Common.{ap}
use Rattle.tp_model.specs.Disk.{DiskState}
use Rattle.tp_users.proofs.OnCaches.{opened_new}
use Rattle.tp_users.proofs.lives.formatted.Goals as goal

pub returns-in-Ok-format-clause-opened : goal.returns-in-Ok-format-clause-opened
returns-in-Ok-format-clause-opened c =
    let made = c.in-Ok-format.ensures in
    let honest = ap (λ (d : DiskState). d.is_honest) c.in-Ok.ensures.0 in
    opened_new c.in-Ok-format.pool c.args.geometry c.fresh_image_stands_for_the_empty_pool.ensures.stands c.stops_leave_pools.ensures.at_rest made.start.line made.geometry made.fresh (made.shows honest) (made.opened honest)
