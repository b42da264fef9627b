use Rattle.tp_model.specs.Clauses.{PoolCall}
use Rattle.tp_hub.proofs.Whole.{no_data, run_is_whole}
use Rattle.tp_hub.proofs.laws.long_requests_are_made.Goals as goal

pub returns : goal.returns
returns g c at after pool new n id size manner r before out here extended long good fits run idle =
    run_is_whole g.V.Volumes.view.outline (PoolCall g.V.Volumes.view) n id size manner r long good fits (no_data r long) extended at after pool new before out here run idle
