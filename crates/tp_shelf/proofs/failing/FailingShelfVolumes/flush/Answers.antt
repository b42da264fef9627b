use Rattle.std.proofs.Common.{refl}
use Rattle.tp_shelf.proofs.Breaking.{breaks}
use Rattle.tp_shelf.proofs.failing.FailingShelfVolumes.flush.Goals as goal

pub returns : goal.returns
returns c = breaks _ _ _ c.args.self.now _ _ c.reason-reason.ensures refl refl refl
