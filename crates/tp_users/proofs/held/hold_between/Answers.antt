use Rattle.std.proofs.Common.{rules, ◌<◌, ◌^◌}
use Rattle.tp_users.proofs.Freeing.{held_shown}
use Rattle.tp_users.proofs.held.hold_between.Goals as goal

pub returns-clause-shows : goal.returns-clause-shows
returns-clause-shows c = λ s blank shown.
    let low : c.args.id < 2 ^ 24 = search rules in
    held_shown c.args.pool.now c.write.new.self c.reserve_metadata_snap.new.self c.write-2.new.self c.args.id c.args.sector c.args.first.now c.args.second.now low
    (s, blank, shown) c.requires.range c.requires.same c.in_ok-write.ensures.called c.in_ok-reserve_metadata_snap.ensures.called c.in_ok-write-2.ensures.called
