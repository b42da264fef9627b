use Rattle.std.proofs.Common.{inl, inr, refl}
use Rattle.tp_model.specs.declared.refusal.Refusal.TheVariants.{Damaged}
use Rattle.tp_shelf.proofs.Breaking.{refuses}
use Rattle.tp_shelf.proofs.failing.FailingShelfWalked.walk.Goals as goal

pub returns : goal.returns
returns c = refuses _ _ _ c.args.self.now _ _ Damaged _ c.reason.ensures refl refl (λ r. refl) (inr (inr (inl refl))) refl refl refl
