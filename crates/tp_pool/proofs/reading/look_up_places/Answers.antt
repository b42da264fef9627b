use Rattle.std.proofs.Common.{false, true, length}
use Rattle.tp_pool.proofs.Copied.{looked_as, looked_now}
use Rattle.tp_pool.proofs.reading.look_up_places.Goals as goal

pub returns-then-is_copy-clause-looked : goal.returns-then-is_copy-clause-looked
returns-then-is_copy-clause-looked g c =
    looked_as (g.M.Metadata.tells c.args.metadata.now) (g.D.Disk.state c.args.disk.now) (g.D.Disk.state c.look_up_copy.new.disk) c.look_up_copy.result c.args.id c.args.first (length c.args.homes.now) c.look_up_copy.new.homes
    c.args.is_copy true c.if-is_copy.true c.look_up_copy.ensures.looked

pub returns-clause-looked : goal.returns-clause-looked
returns-clause-looked g c =
    let M = g.M.Metadata in
    let tells = M.tells c.args.metadata.now in
    let before = g.D.Disk.state c.args.disk.now in
    let after = g.D.Disk.state c.look_up_run.new.disk in
    let n = length c.args.homes.now in
    let homes = c.look_up_run.new.homes in
    looked_as tells before after c.look_up_run.result c.args.id c.args.first n homes c.args.is_copy false c.if-is_copy.false
    (looked_now tells before after c.look_up_run.result c.args.id c.args.first n homes (M.marks c.args.metadata.now) c.look_up_run.ensures.read)
