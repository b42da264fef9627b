use Rattle.std.proofs.Common.{rules}
use Rattle.tp_pool.proofs.pool.Pool.settle.Goals as goal

pub returns : goal.returns
returns g c = search rules
