use Rattle.std.proofs.Common.{◌≡◌, ◌∙◌, ap, subst, sym}
use Rattle.tp_model.specs.Disk.{DiskState, seen}
use Rattle.tp_model.specs.DiskStops.{LeavesOnly}
use Rattle.tp_image.specs.Fresh.{empty_pool}
use Rattle.tp_meta.specs.Standing.{StandsFor, changed_of, geometry_of, marks_of, room_of}
use Rattle.tp_pool.specs.Formatting.{IsBetween}
use Rattle.tp_pool.proofs.Formatted.{formats_nothing}
use Rattle.tp_pool.proofs.Opened.{not_formatted}
use Rattle.tp_cache.specs.Line.{Line}
use Rattle.tp_served.specs.Served.{disk_of}
use Rattle.tp_served.proofs.Inner.{opened_here, shows_on}
use Rattle.tp_served.proofs.opening.Served+ReadCache+D+Meta.format.Goals as goal

pub returns-in-Err-clause-any_moment : goal.returns-in-Err-clause-any_moment
returns-in-Err-clause-any_moment g c last honest was = not_formatted last c.args.geometry (g.D.Disk.state c.args.disk) was

pub returns-in-Err-clause-pools : goal.returns-in-Err-clause-pools
returns-in-Err-clause-pools g c honest settled k s is stands = formats_nothing k c.args.geometry s (g.D.Disk.state c.args.disk) settled is.0 is.1 stands

pub returns-in-Ok-format-clause-shows : goal.returns-in-Ok-format-clause-shows
returns-in-Ok-format-clause-shows g c honest =
    shows_on geometry_of StandsFor marks_of room_of changed_of c.of.result c.over.result c.in-Ok-format.pool c.of.ensures c.over.ensures.pool (empty_pool c.args.geometry) (c.in-Ok-format.ensures.shows honest)

pub returns-in-Ok-format-clause-opened : goal.returns-in-Ok-format-clause-opened
returns-in-Ok-format-clause-opened g c honest =
    opened_here geometry_of StandsFor marks_of room_of changed_of c.of.result c.over.result c.in-Ok-format.pool c.of.ensures c.over.ensures.pool c.over.ensures.line
    (c.opened_pools_go_on.ensures (seen c.in-Ok-format.pool.disk.cells) c.in-Ok-format.pool (c.in-Ok-format.ensures.reopened honest) c.in-Ok-format.ensures.unchanged)

pub returns-in-Ok-format-clause-pools : goal.returns-in-Ok-format-clause-pools
returns-in-Ok-format-clause-pools g c honest settled k s is stands =
    let here : disk_of c.of.result ≡ c.in-Ok-format.pool.disk = ap (λ o. disk_of o) c.of.ensures ∙ ap (λ (line : Line). line.inner) c.over.ensures.line in
    subst (λ (disk : DiskState). LeavesOnly (g.D.Disk.state c.args.disk) disk (IsBetween k s c.args.geometry)) (sym here)
    (c.in-Ok-format.ensures.pools honest settled k s is stands)
