use Rattle.tp_refs.proofs.Reach.{stop_keeps, keeps_on}
use Rattle.tp_refs.proofs.laws.stops_keep_the_commit.Goals as goal

pub returns-clause-image : goal.returns-clause-image
returns-clause-image c = stop_keeps

pub returns-clause-step : goal.returns-clause-step
returns-clause-step c = keeps_on
