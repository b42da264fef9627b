use Rattle.std.proofs.Common.{ap, refl}
use Rattle.tp_model.specs.Calls.{Listed, Walk}
use Rattle.tp_model.specs.Slots.{listed}
use Rattle.tp_pool.specs.Held.{Held}
use Rattle.tp_pool.proofs.Meeting.{met_told}
use Rattle.tp_pool.proofs.volumes.PoolWalked.walk.Goals as goal

pub returns : goal.returns
returns g c =
    let held = c.walk.ensures.held in
    met_told g.M.Metadata.geometry g.M.Metadata.stands g.M.Metadata.marks g.M.Metadata.room g.M.Metadata.changed c.args.self.now c.walk.new.self (Walk c.args.id c.args.from)
    (ap (λ (h : Held g.row.M.Denot). g.M.Metadata.geometry h.metadata) held)
    (Listed (listed c.walk.new.slots.items)) refl (λ answer. refl)
    (ap (λ (h : Held g.row.M.Denot). h.holders) held) c.walk.result c.walk.ensures.called c.walk.ensures.answered c.walk.ensures.flushes
