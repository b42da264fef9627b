use Rattle.std.proofs.Common.{rules, ◌<◌, ◌^◌}
use Rattle.tp_users.proofs.Parting.{parted, snapped}
use Rattle.tp_users.proofs.parted.part.Goals as goal

pub returns-clause-shows : goal.returns-clause-shows
returns-clause-shows c = λ first same s bears shown.
    let low : c.args.copy < 2 ^ 24 = search rules in
    parted c.create_snap.new.self c.write.new.self c.args.origin c.args.copy c.args.sector first c.args.second.now
    (snapped c.args.pool.now c.create_snap.new.self c.args.origin c.args.copy c.args.sector first low (s, bears, shown) c.in_ok-create_snap.ensures.called)
    same c.in_ok-write.ensures.called
