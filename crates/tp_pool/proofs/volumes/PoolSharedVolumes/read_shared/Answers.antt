use Rattle.std.proofs.Common.{◌/◌, length}
use Rattle.tp_model.specs.Sectors.{sectors_of}
use Rattle.tp_pool.proofs.Looking.{met_shared}
use Rattle.tp_pool.proofs.volumes.PoolSharedVolumes.read_shared.Goals as goal

pub returns : goal.returns
returns g c =
    let M = g.M.Metadata in
    λ yes.
    met_shared M.geometry M.stands M.marks M.room M.changed c.args.self.now c.args.id c.args.sector (length c.args.out.now / 512) (sectors_of c.read_shared.new.out) (c.read_shared.ensures.read yes)
