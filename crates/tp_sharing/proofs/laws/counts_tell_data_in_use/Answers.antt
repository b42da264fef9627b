use Rattle.tp_sharing.proofs.InUse.{free_is_unused, used_is_different}
use Rattle.tp_sharing.proofs.laws.counts_tell_data_in_use.Goals as goal

pub returns-clause-used : goal.returns-clause-used
returns-clause-used c = used_is_different

pub returns-clause-free : goal.returns-clause-free
returns-clause-free c = free_is_unused
