use Rattle.tp_pool.specs.Shown.{used}
use Rattle.tp_pool.proofs.Lasting.{answer_lasts}
use Rattle.tp_pool.proofs.Ranges.{law_within}
use Rattle.tp_served.specs.Served.{on_cache}
use Rattle.tp_served.proofs.laws.room_on_caches_lasts.Goals as goal

pub returns : goal.returns
returns g c old new s call shown leaves called =
    let met = g.met.M.Metadata in
    let m = called.meets s shown in
    answer_lasts s call m.0 m.1 (used g.M.Metadata.geometry g.M.Metadata.stands met.trees (law_within met.within) met.bounded (on_cache old) s shown) leaves m.2
