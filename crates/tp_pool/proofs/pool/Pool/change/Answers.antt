use Rattle.std.proofs.Common.{rules}
use Rattle.tp_pool.proofs.pool.Pool.change.Goals as goal

pub returns-in-CreateThin-clause-begun : goal.returns-in-CreateThin-clause-begun
returns-in-CreateThin-clause-begun g c = rw c.in-CreateThin.is c.begin_create.ensures.begun

pub returns-in-CreateSnap-clause-begun : goal.returns-in-CreateSnap-clause-begun
returns-in-CreateSnap-clause-begun g c = rw c.in-CreateSnap.is c.begin_create-in-CreateSnap.ensures.begun

pub returns-in-Delete-clause-begun : goal.returns-in-Delete-clause-begun
returns-in-Delete-clause-begun g c = rw c.in-Delete.is c.begin_delete.ensures.begun

pub returns-in-SetTransactionId-clause-begun : goal.returns-in-SetTransactionId-clause-begun
returns-in-SetTransactionId-clause-begun g c = rw c.in-SetTransactionId.is c.begin_set_transaction_id.ensures.begun

pub returns-in-Grow-clause-begun : goal.returns-in-Grow-clause-begun
returns-in-Grow-clause-begun g c = rw c.in-Grow.is c.begin_grow.ensures.begun

pub returns-in-ReserveMetadataSnap-clause-begun : goal.returns-in-ReserveMetadataSnap-clause-begun
returns-in-ReserveMetadataSnap-clause-begun g c = search rules

pub returns-in-ReleaseMetadataSnap-clause-begun : goal.returns-in-ReleaseMetadataSnap-clause-begun
returns-in-ReleaseMetadataSnap-clause-begun g c = search rules
