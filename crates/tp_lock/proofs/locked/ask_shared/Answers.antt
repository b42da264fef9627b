use Rattle.std.proofs.lemmas.Option.{IfSome_then}
use Rattle.tp_hub.specs.Serving.{sessions_of}
use Rattle.tp_lock.proofs.Locking.{at_once, some_run}
use Rattle.tp_lock.proofs.locked.ask_shared.Goals as goal

pub returns-clause-asked : goal.returns-clause-asked
returns-clause-asked g c =
    let view = g.V.Volumes.view in
    IfSome_then c.ask_shared.result c.ask_shared.ensures.asked (λ ran asked.
    at_once view _ _ _ _ _ (some_run view (sessions_of asked.0.slots) (sessions_of asked.0.slots) asked.0.pool asked.0.pool _ _ _ _ _ asked.2))
