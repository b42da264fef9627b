use Rattle.tp_meta.proofs.Looking.{looks_up}
use Rattle.tp_meta.proofs.pool_metadata.MetaMetadata.next_id.Goals as goal

pub returns : goal.returns
returns g c = looks_up c.args.self.now c.next_id.ensures
