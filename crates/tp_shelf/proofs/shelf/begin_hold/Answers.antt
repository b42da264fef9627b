use Rattle.std.proofs.Common.{inl, refl}
use Rattle.tp_model.specs.declared.refusal.Refusal.TheVariants.{HeldRootExists}
use Rattle.tp_model.specs.Calls.{Done, Refused, ReserveMetadataSnap}
use Rattle.tp_shelf.proofs.Shelving.{meets}
use Rattle.tp_shelf.proofs.shelf.begin_hold.Goals as goal

pub returns-then-holds_root : goal.returns-then-holds_root
returns-then-holds_root c = meets _ _ _ c.args.shelf.now _ ReserveMetadataSnap (Refused HeldRootExists) refl refl refl (λ is. absurd cc) (inl refl) refl refl (λ id blocks is tells. absurd cc)

pub returns : goal.returns
returns c = meets _ _ _ c.args.shelf.now _ ReserveMetadataSnap Done refl refl refl (λ is. absurd cc) refl refl refl (λ id blocks is tells. absurd cc)
