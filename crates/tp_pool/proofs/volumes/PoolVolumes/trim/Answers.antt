use Rattle.std.proofs.Common.{ap, refl}
use Rattle.tp_model.specs.Calls.{Trim}
use Rattle.tp_pool.specs.Held.{Held}
use Rattle.tp_pool.proofs.Meeting.{met_same}
use Rattle.tp_pool.proofs.volumes.PoolVolumes.trim.Goals as goal

pub returns : goal.returns
returns g c =
    met_same g.M.Metadata.geometry g.M.Metadata.stands g.M.Metadata.marks g.M.Metadata.room g.M.Metadata.changed c.args.self.now c.trim.new.self
    (Trim c.args.id c.args.sector c.args.count c.args.fua) c.trim.ensures.geometry
    c.trim.result (λ answer. refl) (ap (λ (h : Held g.row.M.Denot). h.holders) c.trim.ensures.held) c.trim.ensures.called c.trim.ensures.answered c.trim.ensures.flushes
