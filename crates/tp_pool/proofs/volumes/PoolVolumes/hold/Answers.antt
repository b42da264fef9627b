use Rattle.std.proofs.Common.{◌<◌, ap, arith, refl}
use Rattle.tp_model.specs.Calls.{Hold}
use Rattle.tp_model.specs.Pool.{hold_total}
use Rattle.tp_pool.specs.Held.{Held}
use Rattle.tp_holders.specs.Holders.{holds_of}
use Rattle.tp_pool.proofs.Meeting.{met_by}
use Rattle.tp_holders.proofs.Rows.{total_is}
use Rattle.tp_pool.proofs.volumes.PoolVolumes.hold.Goals as goal

pub hold-requires : goal.hold-requires
hold-requires g c =
    let few : hold_total (holds_of c.args.self.now.holders) < 128 = c.requires in
    let all = total_is c.args.self.now.holders in
    omega (arith, few, all)

pub returns : goal.returns
returns g c =
    met_by g.M.Metadata.geometry g.M.Metadata.stands g.M.Metadata.marks g.M.Metadata.room g.M.Metadata.changed c.args.self.now c.hold.new.self (Hold c.args.id)
    (ap (λ (h : Held g.row.M.Denot). g.M.Metadata.geometry h.metadata) c.hold.ensures.held)
    c.hold.result (λ reason. refl) c.hold.ensures.holds c.hold.ensures.refused (λ other was is. c.hold.ensures.sizes other was) c.hold.ensures.called c.hold.ensures.answered c.hold.ensures.flushes
