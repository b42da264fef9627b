use Rattle.std.proofs.Common.{rules, ◌<◌, ◌^◌}
use Rattle.tp_users.proofs.Costs.{costs}
use Rattle.tp_users.proofs.snapshots.snapshot_costs_three_blocks.Goals as goal

pub returns : goal.returns
returns g c = record {
  told = λ s shown.
      let low : c.args.id < 2 ^ 24 = search rules in
      costs g.M.Metadata.geometry g.M.Metadata.stands s c.args.id c.args.origin c.args.pool.now c.create_snap.new.self c.delete.new.self
      _ _ _ low shown c.status-first.ensures.called c.in_ok-create_snap.ensures.called c.status-second.ensures.called
      c.in_ok-delete.ensures.called c.status-third.ensures.called;
}
