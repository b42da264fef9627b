use Rattle.tp_hub.proofs.Wrote.{write_is_kept}
use Rattle.tp_hub.proofs.laws.a_flush_keeps_what_any_client_wrote.Goals as goal

pub returns : goal.returns
returns g c s P first between behind write flush current are w flushed found k x got = write_is_kept g.V.Volumes.view s P first between behind write flush current are found w flushed k x got
