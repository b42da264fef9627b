use Rattle.tp_served.proofs.managed.ServedCloned.create_snap.Goals as goal

pub returns : goal.returns
returns g c = c.order.ensures
