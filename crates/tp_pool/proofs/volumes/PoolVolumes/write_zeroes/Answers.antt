use Rattle.std.proofs.Common.{ap, refl}
use Rattle.tp_model.specs.Calls.{WriteZeroes}
use Rattle.tp_pool.specs.Held.{Held}
use Rattle.tp_pool.proofs.Meeting.{met_same}
use Rattle.tp_pool.proofs.volumes.PoolVolumes.write_zeroes.Goals as goal

pub returns : goal.returns
returns g c =
    met_same g.M.Metadata.geometry g.M.Metadata.stands g.M.Metadata.marks g.M.Metadata.room g.M.Metadata.changed c.args.self.now c.write_zeroes.new.self
    (WriteZeroes c.args.id c.args.sector c.args.count c.args.no_hole c.args.fua) c.write_zeroes.ensures.geometry
    c.write_zeroes.result (λ answer. refl) (ap (λ (h : Held g.row.M.Denot). h.holders) c.write_zeroes.ensures.held) c.write_zeroes.ensures.called c.write_zeroes.ensures.answered c.write_zeroes.ensures.flushes
