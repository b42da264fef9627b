use Rattle.tp_pool.proofs.Calling.{Laws}
use Rattle.tp_pool.proofs.Lives.{is_opened}
use Rattle.tp_pool.proofs.laws.opened_pools_go_on.Goals as goal

pub returns : goal.returns
returns g c =
    let met = g.met.M.Metadata in
    let laws : Laws g.M.Metadata.geometry g.M.Metadata.stands g.M.Metadata.marks g.M.Metadata.room =
    record { within = met.within; honest = met.honest; left = met.left; frame = met.frame } in
    is_opened g.M.Metadata.changed laws met.trees met.bounded met.one
