use Rattle.tp_hub.proofs.alone.OwnDeskDesk.ask.Goals as goal

pub returns : goal.returns
returns g c = c.take.ensures.asked
