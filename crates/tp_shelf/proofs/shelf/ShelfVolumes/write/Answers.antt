use Rattle.std.proofs.Common.{refl}
use Rattle.tp_model.specs.Calls.{Done}
use Rattle.tp_shelf.proofs.Shelving.{meets}
use Rattle.tp_shelf.proofs.shelf.ShelfVolumes.write.Goals as goal

pub returns : goal.returns
returns c = meets _ _ _ c.args.self.now _ _ Done refl refl refl (λ is. absurd cc) refl refl refl (λ id blocks is tells. absurd cc)
