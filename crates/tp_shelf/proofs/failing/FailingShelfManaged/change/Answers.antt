use Rattle.std.proofs.Common.{inl, inr, refl, rules}
use Rattle.tp_model.specs.declared.refusal.Refusal.TheVariants.{NoHeldRoot, NoSuchDevice, StaleTransactionId, TooManyDevices}
use Rattle.tp_shelf.proofs.Breaking.{refuses}
use Rattle.tp_shelf.proofs.failing.FailingShelfManaged.change.Goals as goal

pub returns-in-CreateThin : goal.returns-in-CreateThin
returns-in-CreateThin c = rw c.in-CreateThin.is (refuses _ _ _ c.args.self.now _ _ TooManyDevices _ c.reason.ensures refl refl (λ r. refl) (inr (inl refl)) refl refl refl)

pub returns-in-CreateSnap : goal.returns-in-CreateSnap
returns-in-CreateSnap c = rw c.in-CreateSnap.is c.create_snap.ensures

pub returns-in-Delete : goal.returns-in-Delete
returns-in-Delete c = rw c.in-Delete.is c.delete.ensures

pub returns-in-SetTransactionId : goal.returns-in-SetTransactionId
returns-in-SetTransactionId c = rw c.in-SetTransactionId.is (refuses _ _ _ c.args.self.now _ _ StaleTransactionId _ c.reason-in-SetTransactionId.ensures refl refl (λ r. refl) (inl refl) refl refl refl)

pub returns-in-Grow : goal.returns-in-Grow
returns-in-Grow c = rw c.in-Grow.is (refuses _ _ _ c.args.self.now _ _ NoSuchDevice _ c.reason-in-Grow.ensures refl refl (λ r. refl) (inl refl) refl refl refl)

pub returns-in-ReserveMetadataSnap : goal.returns-in-ReserveMetadataSnap
returns-in-ReserveMetadataSnap c = search rules

pub returns-in-ReleaseMetadataSnap : goal.returns-in-ReleaseMetadataSnap
returns-in-ReleaseMetadataSnap c = rw c.in-ReleaseMetadataSnap.is (refuses _ _ _ c.args.self.now _ _ NoHeldRoot _ c.reason-in-ReleaseMetadataSnap.ensures refl refl (λ r. refl) (inl refl) refl refl refl)
