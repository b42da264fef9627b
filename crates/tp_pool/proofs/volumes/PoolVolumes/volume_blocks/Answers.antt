use Rattle.std.proofs.Common.{ap}
use Rattle.tp_pool.specs.Held.{Held}
use Rattle.tp_pool.proofs.Sizes.{met_size}
use Rattle.tp_pool.proofs.volumes.PoolVolumes.volume_blocks.Goals as goal

pub returns-clause-told : goal.returns-clause-told
returns-clause-told g c =
    let held = c.volume_blocks.ensures.held in
    met_size g.M.Metadata.geometry g.M.Metadata.stands g.M.Metadata.marks g.M.Metadata.room g.M.Metadata.changed c.args.self.now c.volume_blocks.new.self c.args.id
    (ap (λ (h : Held g.row.M.Denot). g.M.Metadata.geometry h.metadata) held)
    (ap (λ (h : Held g.row.M.Denot). h.holders) held) c.volume_blocks.result c.volume_blocks.ensures.known c.volume_blocks.ensures.called c.volume_blocks.ensures.answered c.volume_blocks.ensures.flushes
