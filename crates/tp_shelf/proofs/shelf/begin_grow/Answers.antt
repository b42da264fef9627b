use Rattle.std.proofs.Common.{inl, inr, refl}
use Rattle.tp_model.specs.declared.refusal.Refusal.TheVariants.{Busy, NoSuchDevice}
use Rattle.tp_model.specs.Calls.{Grow, Refused}
use Rattle.tp_shelf.proofs.Shelving.{meets}
use Rattle.tp_shelf.proofs.shelf.begin_grow.Goals as goal

pub returns-then-has : goal.returns-then-has
returns-then-has c blocks = meets _ _ _ c.args.shelf.now _ (Grow c.args.id blocks) (Refused Busy) refl refl refl (λ is. absurd cc) (inr (inl refl)) refl refl (λ id size is tells. absurd cc)

pub returns : goal.returns
returns c blocks = meets _ _ _ c.args.shelf.now _ (Grow c.args.id blocks) (Refused NoSuchDevice) refl refl refl (λ is. absurd cc) (inl refl) refl refl (λ id size is tells. absurd cc)
