use Rattle.tp_listings.proofs.Restoring.{same_sector, zero_behind}
use Rattle.tp_listings.proofs.laws.deltas_restore.Goals as goal

pub returns : goal.returns
returns c = record {
  same = λ s old new k extents here there sound delta not is was. same_sector s sound old new k extents here delta not is there was;
  beyond = λ s old new k extents here sound delta not is none. zero_behind s sound old new k extents here delta not is none;
}
