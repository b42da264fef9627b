use Rattle.std.proofs.Common.{sym, subst}
use Rattle.tp_hub.specs.Serving.{HubState}
use Rattle.tp_hub.proofs.Staging.{idle_stands, starts}
use Rattle.tp_hub.proofs.staged.StagedHub.new.Goals as goal

pub invariant_of-result : goal.invariant_of-result
invariant_of-result g c =
    let parts = c.into_parts-pool.ensures in
    let here : HubState _ = record { pool = c.into_parts-pool.result.0; slots = c.into_parts-pool.result.1 } in
    idle_stands g.V.Volumes.view g.K.Start.is_start here parts.serves
    (starts g.V.Volumes.view g.K.Start.is_start here (subst g.K.Start.is_start (λ i. record { pool = sym parts.pool i; slots = sym parts.slots i }) c.requires))
