use Rattle.tp_model.specs.Slots.{listed}
use Rattle.tp_pool.proofs.Pieces.{met_walk}
use Rattle.tp_pool.proofs.volumes.PoolSharedVolumes.walk_shared.Goals as goal

pub returns : goal.returns
returns g c =
    let M = g.M.Metadata in
    λ yes.
    met_walk M.geometry M.stands M.marks M.room M.changed c.args.self.now c.args.id c.args.from (listed c.walk_shared.new.slots.items) (c.walk_shared.ensures yes)
