use Rattle.std.proofs.Common.{true, false}
use Rattle.tp_btree.proofs.Running.{ran_wrote}
use Rattle.tp_btree.proofs.split.write.Goals as goal

pub returns-in-Ok-clause-ran : goal.returns-in-Ok-clause-ran
returns-in-Ok-clause-ran g c =
    ran_wrote false c.args.tm.now c.write.new.self (g.D.Disk.state c.args.disk.now) (g.D.Disk.state c.write.new.disk) c.in-Ok.ensures.unchanged c.in-Ok.ensures.any_moment_kept
    c.in-Ok.ensures.same_disk c.in-Ok.ensures.cause c.in-Ok.ensures.flushes

pub returns-in-Err-clause-ran : goal.returns-in-Err-clause-ran
returns-in-Err-clause-ran g c =
    ran_wrote true c.args.tm.now c.write.new.self (g.D.Disk.state c.args.disk.now) (g.D.Disk.state c.write.new.disk) c.in-Err.ensures.unchanged c.in-Err.ensures.any_moment_kept
    c.in-Err.ensures.same_disk c.in-Err.ensures.cause c.in-Err.ensures.flushes
