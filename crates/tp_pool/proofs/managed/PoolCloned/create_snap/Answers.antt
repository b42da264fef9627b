use Rattle.std.proofs.Common.{ap, refl}
use Rattle.tp_model.specs.Calls.{CreateSnap}
use Rattle.tp_pool.specs.Held.{Held}
use Rattle.tp_pool.proofs.Meeting.{met_same}
use Rattle.tp_pool.proofs.managed.PoolCloned.create_snap.Goals as goal

pub returns : goal.returns
returns g c =
    met_same g.M.Metadata.geometry g.M.Metadata.stands g.M.Metadata.marks g.M.Metadata.room g.M.Metadata.changed c.args.self.now c.create_snap.new.self
    (CreateSnap c.args.id c.args.origin) c.create_snap.ensures.geometry
    c.create_snap.result (λ answer. refl) (ap (λ (h : Held g.row.M.Denot). h.holders) c.create_snap.ensures.held) c.create_snap.ensures.called c.create_snap.ensures.answered c.create_snap.ensures.flushes
