use Rattle.tp_hub.proofs.Through.{through_is_kept}
use Rattle.tp_hub.proofs.laws.an_answered_write_through_is_kept.Goals as goal

pub returns : goal.returns
returns g c s P first more behind write current are w offered told found k x got = through_is_kept g.V.Volumes.view s P first more behind write current are w offered told found k x got
