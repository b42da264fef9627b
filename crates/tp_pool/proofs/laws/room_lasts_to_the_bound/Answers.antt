use Rattle.tp_pool.proofs.Ranges.{law_within}
use Rattle.tp_pool.specs.Shown.{used}
use Rattle.tp_pool.proofs.Lasting.{answer_lasts, room_lasts, trace_lasts}
use Rattle.tp_pool.proofs.laws.room_lasts_to_the_bound.Goals as goal

pub returns-clause-tests : goal.returns-clause-tests
returns-clause-tests g c = room_lasts

pub returns-clause-called : goal.returns-clause-called
returns-clause-called g c old new s call shown leaves called =
    let met = g.met.M.Metadata in
    let m = called.called.meets s shown in
    answer_lasts s call m.0 m.1 (used g.M.Metadata.geometry g.M.Metadata.stands met.trees (law_within met.within) met.bounded old s shown) leaves m.2

pub returns-clause-traced : goal.returns-clause-traced
returns-clause-traced g c = trace_lasts
