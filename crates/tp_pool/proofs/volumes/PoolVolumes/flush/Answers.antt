use Rattle.std.proofs.Common.{ap, refl}
use Rattle.tp_model.specs.Calls.{Flush}
use Rattle.tp_pool.specs.Held.{Held}
use Rattle.tp_pool.proofs.Meeting.{met_same}
use Rattle.tp_pool.proofs.volumes.PoolVolumes.flush.Goals as goal

pub returns : goal.returns
returns g c =
    met_same g.M.Metadata.geometry g.M.Metadata.stands g.M.Metadata.marks g.M.Metadata.room g.M.Metadata.changed c.args.self.now c.flush.new.self Flush c.flush.ensures.geometry
    c.flush.result (λ answer. refl) (ap (λ (h : Held g.row.M.Denot). h.holders) c.flush.ensures.held) c.flush.ensures.called c.flush.ensures.answered c.flush.ensures.flushes
