use Rattle.std.proofs.Common.{inl, inr, refl}
use Rattle.tp_model.specs.declared.refusal.Refusal.TheVariants.{Exists, TooManyDevices}
use Rattle.tp_model.specs.Calls.{CreateThin, Refused}
use Rattle.tp_shelf.proofs.Shelving.{meets}
use Rattle.tp_shelf.proofs.shelf.begin_create.Goals as goal

pub returns-then-has : goal.returns-then-has
returns-then-has c = meets _ _ _ c.args.shelf.now _ (CreateThin c.args.id) (Refused Exists) refl refl refl (λ is. absurd cc) (inl refl) refl refl (λ id blocks is tells. absurd cc)

pub returns : goal.returns
returns c = meets _ _ _ c.args.shelf.now _ (CreateThin c.args.id) (Refused TooManyDevices) refl refl refl (λ is. absurd cc) (inr (inl refl)) refl refl (λ id blocks is tells. absurd cc)
