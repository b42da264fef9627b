use Rattle.tp_meta.proofs.Looking.{looks_up}
use Rattle.tp_meta.proofs.pool_metadata.MetaMetadata.size.Goals as goal

pub returns-clause-sized : goal.returns-clause-sized
returns-clause-sized g c = looks_up c.args.self.now c.size.ensures.sized
