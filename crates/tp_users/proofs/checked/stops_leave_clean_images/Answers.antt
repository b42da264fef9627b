use Rattle.tp_model.proofs.DiskStopLaws.{stopped}
use Rattle.tp_users.specs.Left.{at_rest, in_call, in_close, in_format}
use Rattle.tp_users.proofs.Stopped.{between_is_clean, pool_is_clean}
use Rattle.tp_users.proofs.checked.stops_leave_clean_images.Goals as goal

pub returns : goal.returns
returns g c = λ image left.
    let clean = c.commits_are_clean.ensures in
    let laws = c.stops_leave_pools.ensures in
    elim left [
      | at_rest h s shown stop ↦ pool_is_clean clean _ image (laws.at_rest h s image shown stop)
      | in_call old new s call answer shown called stop ↦ pool_is_clean clean _ image (laws.in_call old new call answer s image called shown stop)
      | in_close old disk s answer shown closed stop ↦ pool_is_clean clean _ image (laws.in_close old disk answer s image closed shown stop)
      | in_format old new h made s leaves stop some ↦ between_is_clean clean h made s image (stopped leaves image stop) some
    ]
