use Rattle.std.proofs.Common.{inl, inr, refl}
use Rattle.tp_model.specs.declared.refusal.Refusal.TheVariants.{TooManyDevices}
use Rattle.tp_shelf.proofs.Breaking.{refuses}
use Rattle.tp_shelf.proofs.failing.FailingShelfCloned.create_snap.Goals as goal

pub returns : goal.returns
returns c = refuses _ _ _ c.args.self.now _ _ TooManyDevices _ c.reason.ensures refl refl (λ r. refl) (inr (inr (inl refl))) refl refl refl
