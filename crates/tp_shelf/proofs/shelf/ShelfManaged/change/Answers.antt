use Rattle.std.proofs.Common.{rules}
use Rattle.tp_shelf.proofs.shelf.ShelfManaged.change.Goals as goal

pub returns-in-CreateThin : goal.returns-in-CreateThin
returns-in-CreateThin c = rw c.in-CreateThin.is c.begin_create.ensures

pub returns-in-CreateSnap : goal.returns-in-CreateSnap
returns-in-CreateSnap c = rw c.in-CreateSnap.is c.create_snap.ensures

pub returns-in-Delete : goal.returns-in-Delete
returns-in-Delete c = rw c.in-Delete.is c.delete.ensures

pub returns-in-SetTransactionId : goal.returns-in-SetTransactionId
returns-in-SetTransactionId c = rw c.in-SetTransactionId.is c.begin_exchange.ensures

pub returns-in-Grow : goal.returns-in-Grow
returns-in-Grow c = rw c.in-Grow.is (c.begin_grow.ensures _)

pub returns-in-ReserveMetadataSnap : goal.returns-in-ReserveMetadataSnap
returns-in-ReserveMetadataSnap c = search rules

pub returns-in-ReleaseMetadataSnap : goal.returns-in-ReleaseMetadataSnap
returns-in-ReleaseMetadataSnap c = search rules
