use Rattle.tp_hub.specs.Serve.{HubRuns}
use Rattle.tp_hub.proofs.Desking.{asked_through}
use Rattle.tp_hub.proofs.alone.serve_as.Goals as goal

pub returns-clause-served : goal.returns-clause-served
returns-clause-served g c =
    let did = c.carry-ending.ensures.carried in
    (did.0, asked_through (HubRuns g.V.Volumes.view) (λ d. d.hub) did.0 _ c.carry-ending.new.desk did.1, did.2)
