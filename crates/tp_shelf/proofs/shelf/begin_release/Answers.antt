use Rattle.std.proofs.Common.{inl, refl}
use Rattle.tp_model.specs.declared.refusal.Refusal.TheVariants.{NoHeldRoot}
use Rattle.tp_model.specs.Calls.{Done, Refused, ReleaseMetadataSnap}
use Rattle.tp_shelf.proofs.Shelving.{meets}
use Rattle.tp_shelf.proofs.shelf.begin_release.Goals as goal

pub returns-then-not-holds_root : goal.returns-then-not-holds_root
returns-then-not-holds_root c = meets _ _ _ c.args.shelf.now _ ReleaseMetadataSnap (Refused NoHeldRoot) refl refl refl (λ is. absurd cc) (inl refl) refl refl (λ id blocks is tells. absurd cc)

pub returns : goal.returns
returns c = meets _ _ _ c.args.shelf.now _ ReleaseMetadataSnap Done refl refl refl (λ is. absurd cc) refl refl refl (λ id blocks is tells. absurd cc)
