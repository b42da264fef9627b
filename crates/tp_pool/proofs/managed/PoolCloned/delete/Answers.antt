use Rattle.std.proofs.Common.{ap, refl}
use Rattle.tp_model.specs.Calls.{Delete}
use Rattle.tp_pool.specs.Held.{Held}
use Rattle.tp_pool.proofs.Meeting.{met_same}
use Rattle.tp_pool.proofs.managed.PoolCloned.delete.Goals as goal

pub returns : goal.returns
returns g c =
    met_same g.M.Metadata.geometry g.M.Metadata.stands g.M.Metadata.marks g.M.Metadata.room g.M.Metadata.changed c.args.self.now c.delete.new.self
    (Delete c.args.id) c.delete.ensures.geometry
    c.delete.result (λ answer. refl) (ap (λ (h : Held g.row.M.Denot). h.holders) c.delete.ensures.held) c.delete.ensures.called c.delete.ensures.answered c.delete.ensures.flushes
