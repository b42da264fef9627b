use Rattle.tp_hub.proofs.desk.HubDeskDesk.ask.Goals as goal

pub returns : goal.returns
returns g c = c.take.ensures.asked
