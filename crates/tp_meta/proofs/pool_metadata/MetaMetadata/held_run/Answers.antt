use Rattle.tp_meta.proofs.Looking.{looks_up, reads_up}
use Rattle.tp_meta.proofs.pool_metadata.MetaMetadata.held_run.Goals as goal

pub returns-clause-looked : goal.returns-clause-looked
returns-clause-looked g c = looks_up c.args.self.now c.held_run.ensures.looked

pub returns-clause-read : goal.returns-clause-read
returns-clause-read g c = reads_up c.args.self.now c.held_run.ensures.looked
