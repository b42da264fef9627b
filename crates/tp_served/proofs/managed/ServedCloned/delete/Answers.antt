use Rattle.tp_served.proofs.managed.ServedCloned.delete.Goals as goal

pub returns : goal.returns
returns g c = c.order.ensures
