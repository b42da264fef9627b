use Rattle.tp_model.proofs.Finding.{held_is_found}
use Rattle.tp_model.proofs.laws.requests_find_their_volume.Goals as goal

pub returns : goal.returns
returns g c old new s call id shows asked holds called =
    let p = g.V.Volumes in
    held_is_found p.view g.met.V.Volumes.laws old new s call id shows asked holds called
