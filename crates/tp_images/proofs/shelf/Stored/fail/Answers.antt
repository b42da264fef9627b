use Rattle.tp_images.proofs.Shelved.{failing_to}
use Rattle.tp_images.proofs.shelf.Stored.fail.Goals as goal

pub returns-in-Some-clause-stands : goal.returns-in-Some-clause-stands
returns-in-Some-clause-stands c = failing_to c.args.self.now.disk c.in-Some.disk c.fail.new.self (c.in-Some.is) c.fail.ensures.state
