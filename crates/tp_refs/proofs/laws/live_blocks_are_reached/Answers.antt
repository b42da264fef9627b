use Rattle.tp_refs.proofs.Reach.{live_is_reached, counts_are_true}
use Rattle.tp_refs.proofs.laws.live_blocks_are_reached.Goals as goal

pub returns-clause-live : goal.returns-clause-live
returns-clause-live c = live_is_reached

pub returns-clause-counts : goal.returns-clause-counts
returns-clause-counts c = counts_are_true
