use Rattle.tp_hub.specs.Serve.{HubRuns}
use Rattle.tp_commands.proofs.Asks.{asked_within}
use Rattle.tp_commands.proofs.scripts.play_hub.Goals as goal

pub returns : goal.returns
returns g c =
    let did = c.play_script-ended.ensures in
    (did.asks, asked_within (HubRuns g.V.Volumes.view) (λ t. t.hub) did.asks _ c.play_script-ended.new.desk did.asked, (did.did, did.made, did.are))
