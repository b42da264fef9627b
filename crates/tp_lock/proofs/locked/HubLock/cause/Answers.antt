use Rattle.tp_hub.proofs.Staging.{option_so}
use Rattle.tp_lock.proofs.locked.HubLock.cause.Goals as goal

pub returns-in-Some : goal.returns-in-Some
returns-in-Some g c = let f = c.in-Some.ensures.some in option_so c.first_cause.result _ (f.0, f.1, f.3)
