use Rattle.std.proofs.Common.{refl}
use Rattle.tp_model.specs.Calls.{Listed}
use Rattle.tp_shelf.proofs.Shelving.{meets}
use Rattle.tp_shelf.proofs.shelf.ShelfSharedVolumes.walk_shared.Goals as goal

pub returns : goal.returns
returns c = λ _. meets _ _ _ c.args.self.now _ _ (Listed _) refl refl refl (λ is. absurd cc) refl refl refl (λ id blocks is tells. absurd cc)
