use Rattle.std.proofs.Common.{subst, sym}
use Rattle.tp_model.specs.Disk.{DiskState}
use Rattle.tp_model.specs.DiskStops.{StoppedSince}
use Rattle.tp_model.proofs.DiskStopLaws.{stopped}
use Rattle.tp_pool.specs.Held.{moment_of}
use Rattle.tp_pool.proofs.Calling.{Laws, pools_left}
use Rattle.tp_pool.proofs.laws.stops_leave_pools.Goals as goal

pub returns-clause-at_rest : goal.returns-clause-at_rest
returns-clause-at_rest g c h s image shown stop =
    let met = g.met.M.Metadata in
    let laws : Laws g.M.Metadata.geometry g.M.Metadata.stands g.M.Metadata.marks g.M.Metadata.room =
    record { within = met.within; honest = met.honest; left = met.left; frame = met.frame } in
    pools_left laws h s shown image stop

pub returns-clause-in_call : goal.returns-clause-in_call
returns-clause-in_call g c old new call answer s image called shown stop = stopped (called.opens s shown) image stop

pub returns-clause-in_close : goal.returns-clause-in_close
returns-clause-in_close g c old disk answer s image closed shown stop =
    stopped (closed.1.opens s shown) image (subst (λ (d : DiskState). StoppedSince (moment_of old) d image) (sym closed.2) stop)
