use Rattle.std.proofs.Common.{ap}
use Rattle.tp_pool.specs.Held.{Held}
use Rattle.tp_pool.proofs.Nexts.{met_next}
use Rattle.tp_pool.proofs.volumes.PoolVolumes.next_id.Goals as goal

pub returns : goal.returns
returns g c =
    let held = c.next_id.ensures.held in
    met_next g.M.Metadata.geometry g.M.Metadata.stands g.M.Metadata.marks g.M.Metadata.room g.M.Metadata.changed c.args.self.now c.next_id.new.self c.args.from
    (ap (λ (h : Held g.row.M.Denot). g.M.Metadata.geometry h.metadata) held)
    (ap (λ (h : Held g.row.M.Denot). h.holders) held) c.next_id.result c.next_id.ensures.called c.next_id.ensures.answered c.next_id.ensures.flushes
