use Rattle.std.proofs.Common.{ap, refl}
use Rattle.std.specs.Prelude.{ℕ, take}
use Rattle.tp_model.specs.Calls.{ThinStatus}
use Rattle.tp_pool.specs.Held.{Held}
use Rattle.tp_pool.proofs.Meeting.{met_line}
use Rattle.tp_pool.proofs.managed.PoolManaged.thin_status.Goals as goal

pub returns-clause-met : goal.returns-clause-met
returns-clause-met g c =
    let held = c.thin_status.ensures.held in
    met_line g.M.Metadata.geometry g.M.Metadata.stands g.M.Metadata.marks g.M.Metadata.room g.M.Metadata.changed c.args.self.now c.thin_status.new.self (ThinStatus c.args.id)
    (ap (λ (h : Held g.row.M.Denot). g.M.Metadata.geometry h.metadata) held)
    (λ (n : ℕ). take n c.thin_status.new.out) (λ answer. refl)
    (ap (λ (h : Held g.row.M.Denot). h.holders) held) c.thin_status.result c.thin_status.ensures.called c.thin_status.ensures.answered c.thin_status.ensures.flushes
