use Rattle.std.proofs.Common.{rules}
use Rattle.tp_pool.proofs.room.lacks_metadata.Goals as goal

pub returns : goal.returns
returns g c = search rules
