use Rattle.tp_pool.proofs.Calling.{Laws}
use Rattle.tp_pool.proofs.Lives.{lives_are_runs}
use Rattle.tp_pool.proofs.laws.lives_are_runs.Goals as goal

pub returns : goal.returns
returns g c =
    let met = g.met.M.Metadata in
    let laws : Laws g.M.Metadata.geometry g.M.Metadata.stands g.M.Metadata.marks g.M.Metadata.room =
    record { within = met.within; honest = met.honest; left = met.left; frame = met.frame } in
    lives_are_runs g.M.Metadata.changed laws met.trees met.bounded met.one
