use Rattle.tp_pool.proofs.Rooms.{reclaims_nothing}
use Rattle.tp_pool.proofs.room.reclaim_for.Goals as goal

pub returns-then-is_enough-clause-left : goal.returns-then-is_enough-clause-left
returns-then-is_enough-clause-left g c now kept stands enough =
    reclaims_nothing (g.M.Metadata.geometry c.args.metadata.now) now kept (g.D.Disk.state c.args.disk.now) (g.met.M.Metadata.left c.args.metadata.now (g.D.Disk.state c.args.disk.now) now kept stands)
