use Rattle.tp_lock.proofs.locked.HubLock.into_inner.Goals as goal

pub returns : goal.returns
returns g c = c.into_hub.ensures.from
