use Rattle.std.proofs.Common.{take}
use Rattle.tp_pool.proofs.Calling.{Laws}
use Rattle.tp_pool.proofs.Statuses.{line_told, status_called}
use Rattle.tp_pool.proofs.pool.Pool.status.Goals as goal

pub returns-clause-called : goal.returns-clause-called
returns-clause-called g c =
    let met = g.met.M.Metadata in
    let laws : Laws g.M.Metadata.geometry g.M.Metadata.stands g.M.Metadata.marks g.M.Metadata.room =
    record { within = met.within; honest = met.honest; left = met.left; frame = met.frame } in
    let line = take c.print_status.result c.print_status.new.out in
    status_called laws c.args.self.now line (λ s shown.
    line_told c.pool_status-status.result s line (c.pool_status-status.ensures s shown) c.print_status.ensures.line (λ p tells. c.print_status.ensures.of_pool p tells))
