use Rattle.std.proofs.Common.{◌/◌, ap, length}
use Rattle.tp_model.specs.Sectors.{sectors_of}
use Rattle.tp_pool.specs.Held.{Held}
use Rattle.tp_pool.proofs.Meeting.{met_read}
use Rattle.tp_pool.proofs.volumes.PoolVolumes.read.Goals as goal

pub returns : goal.returns
returns g c =
    let held = c.read.ensures.held in
    met_read g.M.Metadata.geometry g.M.Metadata.stands g.M.Metadata.marks g.M.Metadata.room g.M.Metadata.changed c.args.self.now c.read.new.self c.args.id c.args.sector
    (length c.args.out.now / 512) (sectors_of c.read.new.out)
    (ap (λ (h : Held g.row.M.Denot). g.M.Metadata.geometry h.metadata) held)
    (ap (λ (h : Held g.row.M.Denot). h.holders) held) c.read.result c.read.ensures.called c.read.ensures.answered c.read.ensures.flushes
