use Rattle.tp_images.proofs.Shelved.{stopped_to, unchanged}
use Rattle.tp_images.proofs.shelf.Stored.stop.Goals as goal

pub returns-in-Ok-clause-stands : goal.returns-in-Ok-clause-stands
returns-in-Ok-clause-stands c = stopped_to c.args.self.now.disk c.in-Some.disk c.in-Ok.stopped c.args.picks.now c.in-Some.is c.in-Ok.ensures.0

pub returns-in-Err-clause-stands : goal.returns-in-Err-clause-stands
returns-in-Err-clause-stands c = unchanged c.args.self.now.disk
