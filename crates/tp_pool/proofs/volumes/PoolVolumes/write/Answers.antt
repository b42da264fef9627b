use Rattle.std.proofs.Common.{ap, refl}
use Rattle.tp_model.specs.Calls.{Write}
use Rattle.tp_model.specs.Sectors.{sectors_of}
use Rattle.tp_pool.specs.Held.{Held}
use Rattle.tp_pool.proofs.Meeting.{met_same}
use Rattle.tp_pool.proofs.volumes.PoolVolumes.write.Goals as goal

pub returns : goal.returns
returns g c =
    met_same g.M.Metadata.geometry g.M.Metadata.stands g.M.Metadata.marks g.M.Metadata.room g.M.Metadata.changed c.args.self.now c.write.new.self
    (Write c.args.id c.args.sector (sectors_of c.args.bytes.now) c.args.fua) c.write.ensures.geometry
    c.write.result (λ answer. refl) (ap (λ (h : Held g.row.M.Denot). h.holders) c.write.ensures.held) c.write.ensures.called c.write.ensures.answered c.write.ensures.flushes
