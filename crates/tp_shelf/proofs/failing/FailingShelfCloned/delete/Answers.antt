use Rattle.std.proofs.Common.{inl, refl}
use Rattle.tp_model.specs.declared.refusal.Refusal.TheVariants.{NoSuchDevice}
use Rattle.tp_shelf.proofs.Breaking.{refuses}
use Rattle.tp_shelf.proofs.failing.FailingShelfCloned.delete.Goals as goal

pub returns : goal.returns
returns c = refuses _ _ _ c.args.self.now _ _ NoSuchDevice _ c.reason.ensures refl refl (λ r. refl) (inl refl) refl refl refl
