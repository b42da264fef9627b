use Rattle.tp_hub.proofs.Staging.{order_parted}
use Rattle.tp_hub.proofs.staged.order_on.Goals as goal

pub returns-in-None-clause-ordered : goal.returns-in-None-clause-ordered
returns-in-None-clause-ordered g c p pool =
    let x = c.in-None.ensures.changed p pool in
    order_parted g.V.Volumes.view g.V.Midway.SharedReads.of g.V.Midway.SharedReads.left g.met.V.Volumes.laws c.go_on.new.place c.args.message.now p x.0 c.go_on.result x.2 (c.go_on.ensures.part x.0 x.1)
