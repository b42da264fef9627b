use Rattle.tp_users.proofs.OnCaches.{flushed_there}
use Rattle.tp_users.proofs.served.flushed_nodes_are_on_the_disk.Goals as goal

pub returns : goal.returns
returns g c = flushed_there c.args.pool.now c.flush.new.self c.flush.result c.flush.ensures
