use Rattle.std.proofs.Common.{sym, subst}
use Rattle.tp_model.specs.Disk.{DiskState}
use Rattle.tp_model.specs.DiskStops.{StoppedSince, moment}
use Rattle.tp_served.specs.Served.{disk_of, on_cache}
use Rattle.tp_users.specs.Left.{under_call, under_close, under_rest}
use Rattle.tp_users.proofs.Stopped.{pool_is_clean}
use Rattle.tp_users.proofs.checked.stops_under_caches_leave_clean_images.Goals as goal

pub returns : goal.returns
returns g c = λ image left.
    let clean = c.commits_are_clean.ensures in
    let laws = c.stops_leave_pools.ensures in
    elim left [
      | under_rest h s known shown stop ↦ pool_is_clean clean _ image (laws.at_rest (on_cache h) s image shown (known.line.moments.now image stop))
      | under_call old new s call answer shown called stop ↦ let some = (called.opens s shown image stop).1.0 in pool_is_clean clean some.0 image some.1
      | under_close old disk s answer shown closed stop ↦
          let there = subst (λ (d : DiskState). StoppedSince (moment (disk_of old)) d image) (sym closed.disk_is) stop in
          let some = (closed.called.opens s shown image there).1.0 in pool_is_clean clean some.0 image some.1
    ]
