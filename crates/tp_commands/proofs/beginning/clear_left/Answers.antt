use Rattle.tp_hub.specs.Serve.{HubRuns}
use Rattle.tp_commands.proofs.Asks.{asked_within}
use Rattle.tp_commands.proofs.beginning.clear_left.Goals as goal

-- what the desk was asked the hub was asked
pub returns : goal.returns
returns g c =
    let did = c.clear_clones-cleared.ensures in
    (did.0, asked_within (HubRuns g.V.Volumes.view) (λ t. t.hub) did.0 _ c.clear_clones-cleared.new.desk did.1, did.2)
