use Rattle.tp_meta.proofs.Looking.{looks_up}
use Rattle.tp_meta.proofs.pool_metadata.MetaMetadata.highest.Goals as goal

pub returns : goal.returns
returns g c = looks_up c.args.self.now c.highest.ensures
