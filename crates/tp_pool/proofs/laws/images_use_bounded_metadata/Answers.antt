use Rattle.tp_model.proofs.DiskStopLaws.{stopped}
use Rattle.tp_pool.proofs.Ranges.{law_within}
use Rattle.tp_pool.specs.Shown.{used}
use Rattle.tp_pool.proofs.Lasting.{image_is_bounded}
use Rattle.tp_pool.proofs.laws.images_use_bounded_metadata.Goals as goal

pub returns-clause-images : goal.returns-clause-images
returns-clause-images g c = image_is_bounded

pub returns-clause-shown : goal.returns-clause-shown
returns-clause-shown g c =
    let met = g.met.M.Metadata in
    used g.M.Metadata.geometry g.M.Metadata.stands met.trees (law_within met.within) met.bounded

pub returns-clause-in_call : goal.returns-clause-in_call
returns-clause-in_call g c old new call answer s image P called shown stop stands =
    image_is_bounded image P (g.M.Metadata.geometry old.metadata, stopped (called.opens s shown) image stop) stands
