use Rattle.std.proofs.Common.{rules}
use Rattle.tp_meta.proofs.pool_metadata.MetaMetadata.held_root.Goals as goal

pub returns : goal.returns
returns c = search rules
